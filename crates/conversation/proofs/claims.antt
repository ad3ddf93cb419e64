-- The proofs of what specs/ states, each file named for a statement.
pub mod BatchInTwo
pub mod BatchSingly
pub mod CallsWatched
pub mod CountsSoundExactly
pub mod CountsTally
pub mod DemandTwo
pub mod DueFound
pub mod EarlyBlamed
pub mod EstimateNearest
pub mod NoneStarted
pub mod NothingLost
pub mod PicksAll
pub mod SharesUnseen
pub mod StopsAtText
pub mod VerdictOnce
pub mod WarningExactly
