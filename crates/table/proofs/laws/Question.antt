-- Questions and their numbers: none has 0, and no two have one.
-- Assumes nothing.
use Rattle.std.specs.Prelude.{slice_index_or}
use Rattle.std.proofs.Common.{◌≡◌, ℕ, List, [], ◌∷◌, refl, ap, sym, ◌∙◌}
use Rattle.table.specs.Question.{number}
use Rattle.table.specs.declared.refusal.Question.{Question}
use Rattle.table.specs.declared.refusal.Question.TheVariants as Q

-- all of them in their order, the first twice: each stands at its number
unfoldable all : List Question
all =
    Q.TextTooLong ∷ Q.TextTooLong ∷ Q.BadToken ∷ Q.Misplaced ∷ Q.Unbound ∷ Q.Unguarded ∷ Q.BadRange ∷ Q.LabelTwice ∷ Q.TooMany ∷ Q.Unsound ∷ Q.NotRunning ∷ Q.AtEnd ∷ Q.OutOfTurn ∷ Q.BadFront ∷ Q.BadField ∷ Q.OtherLength ∷ Q.OutputTooShort ∷ Q.ListTooShort ∷ Q.NoBranch ∷ Q.BadShare ∷ Q.BadShares ∷ Q.BadSetting ∷ Q.NotUtf8 ∷ Q.BadEdition ∷ []

unfoldable numbered : ℕ → Question
unfolding all
numbered n = slice_index_or all n Q.TextTooLong

numbered_number : (q : Question) → numbered (number q) ≡ q
unfolding numbered all
numbered_number Q.TextTooLong = refl
numbered_number Q.BadToken = refl
numbered_number Q.Misplaced = refl
numbered_number Q.Unbound = refl
numbered_number Q.Unguarded = refl
numbered_number Q.BadRange = refl
numbered_number Q.LabelTwice = refl
numbered_number Q.TooMany = refl
numbered_number Q.Unsound = refl
numbered_number Q.NotRunning = refl
numbered_number Q.AtEnd = refl
numbered_number Q.OutOfTurn = refl
numbered_number Q.BadFront = refl
numbered_number Q.BadField = refl
numbered_number Q.OtherLength = refl
numbered_number Q.OutputTooShort = refl
numbered_number Q.ListTooShort = refl
numbered_number Q.NoBranch = refl
numbered_number Q.BadShare = refl
numbered_number Q.BadShares = refl
numbered_number Q.BadSetting = refl
numbered_number Q.NotUtf8 = refl
numbered_number Q.BadEdition = refl

pub number_once : (p q : Question) → number p ≡ number q → p ≡ q
number_once p q e = sym (numbered_number p) ∙ (ap numbered e ∙ numbered_number q)

pub number_no_zero : (q : Question) → number q ≡ 0 → ⊥
number_no_zero Q.TextTooLong e = cc
number_no_zero Q.BadToken e = cc
number_no_zero Q.Misplaced e = cc
number_no_zero Q.Unbound e = cc
number_no_zero Q.Unguarded e = cc
number_no_zero Q.BadRange e = cc
number_no_zero Q.LabelTwice e = cc
number_no_zero Q.TooMany e = cc
number_no_zero Q.Unsound e = cc
number_no_zero Q.NotRunning e = cc
number_no_zero Q.AtEnd e = cc
number_no_zero Q.OutOfTurn e = cc
number_no_zero Q.BadFront e = cc
number_no_zero Q.BadField e = cc
number_no_zero Q.OtherLength e = cc
number_no_zero Q.OutputTooShort e = cc
number_no_zero Q.ListTooShort e = cc
number_no_zero Q.NoBranch e = cc
number_no_zero Q.BadShare e = cc
number_no_zero Q.BadShares e = cc
number_no_zero Q.BadSetting e = cc
number_no_zero Q.NotUtf8 e = cc
number_no_zero Q.BadEdition e = cc
