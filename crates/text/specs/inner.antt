-- What only the proofs and the functions inside cite. It need not be believed.
pub mod Answers
pub mod Kinds
pub mod Recursive
pub mod Stores
