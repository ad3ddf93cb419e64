-- Laws, each file named for the definition that it is about.
pub mod Agree
pub mod Close
pub mod Closed
pub mod DualType
pub mod Front
pub mod Headline
pub mod Monitor
pub mod Numbering
pub mod ProtocolRules
pub mod StandsFor
pub mod TextRules
