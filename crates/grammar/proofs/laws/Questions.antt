-- The number of the question that gets a no at a token, or 0; and what is asked of types, of their branches. Assumes nothing.
use mathlib.Core.Bool.{Bool, true, not}
use mathlib.Core.List.{List}
use Prim.Native.Nat.{ℕ}
use lib.Dec.{leb}
use lib.ListN.{length}
use Rattle.table.specs.Lists.{every, first_no}
use Rattle.grammar.specs.Grammar.{Br, everywhere_br, bare, fields_in, range_legal, label_new, share_in, share_legal}
use Rattle.grammar.specs.Reading.{State, questions}
use Rattle.grammar.specs.Token.{Token}

abbrev pub asked : List ℕ → State → Token → ℕ
asked s st k = first_no (questions s st k)

abbrev pub recs_guarded_br : Br → Bool
recs_guarded_br bs = everywhere_br (λ x u. not (bare u x)) (λ bs. true) bs

abbrev pub ranges_legal_br : Br → Bool
ranges_legal_br bs = everywhere_br (λ x u. true) (λ bs. every range_legal (fields_in bs)) bs

abbrev pub fields_few_br : Br → Bool
fields_few_br bs = everywhere_br (λ x u. true) (λ bs. leb (length (fields_in bs)) 4) bs

abbrev pub labels_new_br : Br → Bool
labels_new_br bs = everywhere_br (λ x u. true) label_new bs

abbrev pub shares_legal_br : Br → Bool
shares_legal_br bs = everywhere_br (λ x u. true) (λ bs. share_legal (share_in bs)) bs
