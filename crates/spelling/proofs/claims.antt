-- The proofs of what specs/ states, each file named for a statement.
pub mod DecimalValue
pub mod NameOnce
pub mod ReadExactly
pub mod ReadOrRefused
pub mod ReadPlaced
pub mod RefusedMeans
pub mod SpellableExactly
pub mod SpellingExamples
pub mod SpeltScanned
