-- What a text spells, in document 01's own words: the bytes of each token, a text made of tokens and blanks, and the tokens of any text
-- with their places. Then a speller, which writes a type's text, what a text of a protocol is, and the theorems that join all of this to
-- reading.
pub mod Spelling
pub mod Places
pub mod Speller
pub mod TextOf
pub mod TextTheorems
pub mod Refusals
pub mod Scanned
pub mod SpellingExamples
