-- Laws, each file named for the definition that it is about.
pub mod Characters
pub mod Scalars
pub mod Utf8
