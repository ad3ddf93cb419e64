-- The proofs of what specs/ states, each file named for a statement.
pub mod AskSays
pub mod EachTextEncoded
pub mod JudgedExactly
pub mod LabelInPlace
pub mod MadeAllowed
pub mod NeverMended
pub mod SelectedExactly
