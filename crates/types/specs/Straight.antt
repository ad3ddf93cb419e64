-- A `rec` straight before a name means the state that the name means, and makes none (document 02, request 1): with it and without it,
-- texts of one edition are read into the same table.
-- Assumes nothing.
use Rattle.std.specs.Prelude.{◌≡◌, List, ℕ}
use Rattle.grammar.specs.Grammar.{Way, SyntaxField, Share, Ty, stop, var, loop, choice, Br, last, also, Protocol, edition_named}
use Rattle.grammar.specs.Reading.{reads}
use Rattle.spelling.specs.TextOf.{TextOf}

mutual
  -- u is t with `rec`s of other names put straight before some of its names
  pub data Straight : Ty → Ty → Type 0 where
    at_end : Straight stop stop
    at_name : {y : ℕ} → Straight (var y) (var y)
    before_name : {x y : ℕ} {u : Ty} → (x ≡ y → ⊥) → Straight (var y) u → Straight (var y) (loop x u)
    in_rec : {x : ℕ} {t u : Ty} → Straight t u → Straight (loop x t) (loop x u)
    in_choice : {w : Way} {bs cs : Br} → StraightBr bs cs → Straight (choice w bs) (choice w cs)

  pub data StraightBr : Br → Br → Type 0 where
    in_last : {l : ℕ} {fs : List SyntaxField} {sh : Share} {t u : Ty} → Straight t u → StraightBr (last l fs sh t) (last l fs sh u)
    in_also : {l : ℕ} {fs : List SyntaxField} {sh : Share} {t u : Ty} {bs cs : Br} → Straight t u → StraightBr bs cs
        → StraightBr (also l fs sh t bs) (also l fs sh u cs)

abbrev pub StraightSame : Type 0
StraightSame =
    (s v : List ℕ) (p q : Protocol) → TextOf s p → TextOf v q
    → Straight p.type q.type → edition_named p.opening ≡ edition_named q.opening → (reads v).table ≡ (reads s).table
