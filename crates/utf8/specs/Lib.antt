-- Utf8 is what a reader has to believe, Scalars what it means, Utf8Examples what it comes to. Below
-- inner stands what only the proofs and the functions inside cite.
pub mod Utf8
pub mod Scalars
pub mod Utf8Examples
pub mod inner
