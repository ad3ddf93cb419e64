-- Laws, each file named for the definition that it is about.
pub mod Answered
pub mod AtPair
pub mod Contained
pub mod Cover
pub mod CoveredBy
pub mod Followed
pub mod Grown
pub mod Pairs
pub mod Rest
pub mod Searching
pub mod Spoken
pub mod Trail
pub mod TurnAt
pub mod Upcoming
