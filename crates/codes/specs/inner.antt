-- What only the proofs and the functions inside cite. It need not be believed.
pub mod Parts
pub mod Wide
