-- Laws, each file named for the definition that it is about.
pub mod Alike
pub mod Classes
pub mod Placed
pub mod Places
pub mod Prints
pub mod Spellable
pub mod Speller
pub mod Spelling
pub mod StandsAt
pub mod TextOf
pub mod WellFormed
pub mod Writes
