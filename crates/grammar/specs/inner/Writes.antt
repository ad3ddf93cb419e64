-- A text that writes a protocol, by the tokens that the scanner finds. It need not be believed: what a text spells is said without a
-- scanner (spelling/specs/Spelling.antt).
-- Assumes nothing.
use Rattle.std.specs.Prelude.{◌≡◌, List, map, ℕ, ◌≤◌, length}
use Rattle.grammar.specs.Grammar.{text_limit, Protocol, print_text}
use Rattle.grammar.specs.TokOf.{tok_of}
use Rattle.grammar.specs.inner.Scanner.{tokens}

-- the text is short enough, and its tokens are those of the protocol
pub record Writes (s : List ℕ) (p : Protocol) : Type 0 where
  pub short : length s ≤ text_limit
  pub written : map (tok_of s) (tokens s) ≡ print_text p
