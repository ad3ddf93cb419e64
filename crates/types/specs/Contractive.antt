-- Contractive types (source document 004, Definition 1): no path through a type goes on for ever and passes no message. A path takes a
-- branch of a choice, and passes its message, or unfolds a `rec`, and passes none: so it is question 5, said of the type itself.
-- Assumes nothing.
use Rattle.std.specs.Prelude.{◌≡◌, ◌↔◌, true, List, [], ℕ, suc}
use Rattle.grammar.specs.Grammar.{Way, SyntaxField, Ty, loop, choice, Br, Protocol, print_text, names_bound, recs_guarded}
use Rattle.grammar.specs.Reading.{reads}
use Rattle.spelling.specs.Spelling.{Spelt}
use Rattle.spelling.specs.TextOf.{TextOf}
use Rattle.types.specs.Types.{unfolded, HasBranch}

-- a step of a path that passes no message
pub data Unfolds : Ty → Ty → Type 0 where
  unfolds : {x : ℕ} {t : Ty} → Unfolds (loop x t) (unfolded x t)

-- where a path leads
pub data Reaches : Ty → Ty → Type 0 where
  here : {t : Ty} → Reaches t t
  past_rec : {t u v : Ty} → Unfolds t u → Reaches u v → Reaches t v
  past_message : {w : Way} {bs : Br} {l : ℕ} {fs : List SyntaxField} {t v : Ty} → HasBranch bs l fs t → Reaches t v → Reaches (choice w bs) v

-- a path from t on that never ends and passes no message
pub record Silent (t : Ty) : Type 0 where
  pub path : ℕ → Ty
  pub begins : path 0 ≡ t
  pub onward : (n : ℕ) → Unfolds (path n) (path (suc n))

abbrev pub Contractive : Ty → Type 0
Contractive t = (u : Ty) → Reaches t u → Silent u → ⊥

-- ---- what is said of it

-- a type whose names are bound is contractive exactly when its `rec`s are guarded
abbrev pub ContractiveExactly : Type 0
ContractiveExactly = (t : Ty) → names_bound t [] ≡ true → (recs_guarded t ≡ true) ↔ Contractive t

-- the type of a text that is read is contractive
abbrev pub ReadContractive : Type 0
ReadContractive = (s : List ℕ) (p : Protocol) → TextOf s p → Contractive p.type

-- the type of a text that is refused by 5 is not: a path leads to where such a path begins
abbrev pub FiveSilent : Type 0
FiveSilent = (s : List ℕ) (p : Protocol) → Spelt s (print_text p) → (reads s).question ≡ 5 → (u : Ty) × Reaches p.type u × Silent u
