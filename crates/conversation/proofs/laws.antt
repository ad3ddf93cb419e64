-- Laws, each file named for the definition that it is about.
pub mod Batch
pub mod Both
pub mod Conversation
pub mod Counts
pub mod Due
pub mod Onto
pub mod Programs
pub mod Singles
pub mod Step
pub mod Tallied
pub mod Turns
pub mod Warning
