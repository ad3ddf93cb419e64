-- What a reader has to believe of conversations, in the documents' order: a step, the due message, whole conversations and demand 2; counts;
-- batches and what is proved of them; what is proved of counts; programs of any calls; the warning of a branch.
-- Below inner stands what only the proofs and the functions inside cite.
pub mod Step
pub mod Due
pub mod Conversation
pub mod Counts
pub mod CountsSound
pub mod Batch
pub mod Batches
pub mod Counting
pub mod Programs
pub mod Warning
pub mod inner
