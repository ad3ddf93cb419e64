-- The proofs of what specs/ states, each file named for a statement.
pub mod DemandThree
pub mod EditionUnseen
pub mod EndsUnmoved
pub mod FitEditionUnseen
pub mod FitFewest
pub mod FitRefused
pub mod FitsItself
pub mod OneCount
