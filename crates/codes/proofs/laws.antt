-- Laws, each file named for the definition that it is about.
pub mod BatchingCodes
pub mod Codes
pub mod RawPrograms
pub mod Wide
