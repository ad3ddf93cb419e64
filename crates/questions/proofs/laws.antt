-- Laws, each file named for what it is about.
pub mod CountedTurn
pub mod Sender
pub mod SumsTo
