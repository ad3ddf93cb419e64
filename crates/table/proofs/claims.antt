-- The proofs of what specs/ states, each file named for a statement.
pub mod DualTwice
pub mod SoundExactly
