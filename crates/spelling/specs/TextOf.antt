-- A text of a protocol (document 01, "Protocol text"): what the claims on texts are said of.
-- Assumes nothing.
use Rattle.std.specs.Prelude.{List, ℕ, ◌≤◌, length}
use Rattle.grammar.specs.Grammar.{Protocol, print_text, Legal}
use Rattle.spelling.specs.Spelling.{Spelt}

-- s is a text of the protocol p, which is its edition and its type: at most 8,192 bytes that spell p, and p is legal
pub record TextOf (s : List ℕ) (p : Protocol) : Type 0 where
  pub short : length s ≤ 8192
  pub spelt : Spelt s (print_text p)
  pub legal : Legal p
