-- Laws, each file named for the definition that it is about.
pub mod Carried
pub mod Copied
pub mod CountedStep
pub mod Judgement
pub mod Leaves
pub mod Led
pub mod PassedOn
