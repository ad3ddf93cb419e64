-- The proofs of what specs/ states, each file named for a statement.
pub mod CodesBatch
pub mod CodesStep
pub mod CodesTell
pub mod CodesWarn
pub mod DuePart
pub mod RawNothingLost
pub mod RawWatched
