-- What a reader has to believe of the boundary: the codes, what the calls do that take or give them, and programs of such calls. Below inner
-- stands what only the proofs and the functions inside cite.
pub mod Codes
pub mod Calls
pub mod RawPrograms
pub mod inner
