-- What only the proofs and the functions inside cite. It need not be believed.
pub mod Holds
pub mod Scanner
pub mod Writes
