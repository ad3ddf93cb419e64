-- What the inner functions answer, as records: a question that got a no, or 0, its place or the place to go on at, and what was read.
-- This need not be believed.
-- Assumes nothing.
use Rattle.std.specs.Prelude.{Bool, List, ℕ}

-- one token
pub record Step : Type 0 where
  pub question : ℕ
  pub at : ℕ

-- a name or a label, and its word
pub record Name : Type 0 where
  pub question : ℕ
  pub at : ℕ
  pub word : ℕ

-- a part of a list, and whether another part follows
pub record Next : Type 0 where
  pub question : ℕ
  pub at : ℕ
  pub more : Bool

-- a share or an edition
pub record Counted : Type 0 where
  pub question : ℕ
  pub at : ℕ
  pub number : ℕ

-- one end of a range
pub record Bound : Type 0 where
  pub question : ℕ
  pub at : ℕ
  pub offset : ℕ

-- a range
pub record Range : Type 0 where
  pub question : ℕ
  pub at : ℕ
  pub low : ℕ
  pub high : ℕ

-- fields, the first `count` of each list
pub record Fields : Type 0 where
  pub question : ℕ
  pub at : ℕ
  pub count : ℕ
  pub kinds : List ℕ
  pub lows : List ℕ
  pub highs : List ℕ

-- a branch as it is stored
pub record Raw : Type 0 where
  pub label : ℕ
  pub owner : ℕ
  pub target : ℕ
  pub share : ℕ
  pub count : ℕ
  pub kinds : List ℕ
  pub lows : List ℕ
  pub highs : List ℕ

-- a number in offset form, where it is within its kind
pub record Number : Type 0 where
  pub ok : Bool
  pub offset : ℕ
