-- Laws, each file named for the definition that it is about.
pub mod FirstStep
pub mod Noticed
pub mod StepsOfP
pub mod TablesRead
