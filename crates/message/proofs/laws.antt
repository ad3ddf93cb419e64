-- Laws, each file named for the definition that it is about.
pub mod BranchMessage
pub mod Broken
pub mod Fields
pub mod HasLabel
pub mod Judge
pub mod Layout
pub mod LegalTexts
pub mod Making
pub mod Message
pub mod Selected
