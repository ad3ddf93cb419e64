-- The proofs of what specs/ states, each file named for a statement.
pub mod ContractiveExactly
pub mod Headline
pub mod RulesExactly
pub mod SameComposed
pub mod SameEnds
pub mod SameNumbers
pub mod SameVerdicts
pub mod StraightSame
