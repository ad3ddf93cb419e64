-- Laws are what the functions' proofs cite.
pub mod laws
