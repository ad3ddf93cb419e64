-- Laws, each file named for the definition that it is about.
pub mod DualOf
pub mod LegalField
pub mod LegalLabel
pub mod Lists
pub mod Question
pub mod SameSort
pub mod Scans
pub mod SharesRight
pub mod Table
pub mod Twins
pub mod Unshared
pub mod View
pub mod Words
