-- What a reader has to believe of protocol texts, in document 01's order: tokens, numbers, the grammar with the table that a
-- type means, how a table is built, a table as the program's words, and reading with its questions.
-- Below inner stands what only the proofs and the functions inside cite.
pub mod Kind
pub mod Token
pub mod Number
pub mod Grammar
pub mod TokOf
pub mod Building
pub mod Filled
pub mod Reading
pub mod inner
