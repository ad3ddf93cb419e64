-- Laws, each file named for the definition that it is about.
pub mod Effect
pub mod HeardAt
pub mod Lines
pub mod Playing
pub mod Remaining
pub mod Reported
pub mod Written
