-- What a reader has to believe of the fit check, in document 01's order: the machine, what fits, and the answer. Below
-- inner stands what only the proofs and the functions inside cite.
pub mod Machine
pub mod Fit
pub mod Answer
pub mod inner
