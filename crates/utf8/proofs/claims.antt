-- The proofs of what specs/ states, each file named for a statement.
pub mod EncodedExactly
pub mod Utf8Examples
