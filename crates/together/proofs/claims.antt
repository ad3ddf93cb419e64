-- The proofs of what specs/ states, each file named for a statement.
pub mod CallsUnblamed
pub mod FitsUnblamed
pub mod KeepsExactly
pub mod MoveIsStep
