-- Laws are what the proofs cite; claims are the proofs of what specs/ states.
pub mod laws
pub mod claims
