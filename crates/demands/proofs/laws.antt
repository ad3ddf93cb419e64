-- Laws, each file named for the definition that it is about.
pub mod AwaitedBy
pub mod Likeness
