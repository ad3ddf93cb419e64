-- Nothing here need be believed: the calls cite the crates below.
pub mod inner
