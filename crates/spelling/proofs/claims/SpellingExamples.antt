-- The examples of spelling, computed by the law that joins it to the scanner. Assumes nothing.
use mathlib.Core.Path.{◌≡◌, refl, sym, ap, ◌∙◌}
use mathlib.Core.List.{List, ◌∷◌, map}
use mathlib.Core.Option.{some}
use Prim.Native.Nat.{ℕ}
use native.Mathlib.Omega.{arith}
use Rattle.table.specs.Lists.{same, matched}
use Rattle.table.specs.Table.{letter_or_digit}
use Rattle.grammar.specs.Token.{packed, word_of}
use Rattle.grammar.specs.inner.Scanner.{class_of, run_of, run_end, word_kind, word_token, name_token, number_kind, number_token, dots_token, begin_at, token_at, tokens_from, tokens}
use Rattle.grammar.specs.Number.{signed_of, value_of}
use Rattle.grammar.specs.Grammar.{stop, Tok, sign}
use Rattle.grammar.specs.TokOf.{tok_of}
use Rattle.grammar.proofs.laws.TokOf.{tok_tag, sign_in}
use Rattle.spelling.specs.Spelling.{Spelt}
use Rattle.spelling.specs.Scanned.{WellFormed}
use Rattle.spelling.specs.SpellingExamples.{plus, unopened, P_type, two_shares, SpellingExamples}
use Rattle.spelling.proofs.claims.SpeltScanned.{spelt_scanned}
use Rattle.spelling.proofs.laws.WellFormed.{text_formed}

-- a text whose first token is malformed spells nothing, nor one whose second is
nothing_spelt : (s : List ℕ) (us ts : List Tok) → map (tok_of s) (tokens s) ≡ sign 1 ∷ us → Spelt s ts → ⊥
nothing_spelt s us ts e sp = let h = (spelt_scanned s ts).0 sp in formed (sym h.0 ∙ e) h.1
  where
    formed : {ts : List Tok} → ts ≡ sign 1 ∷ us → WellFormed ts → ⊥
    formed e w = (rw e at w).0 refl

second_bad : (s : List ℕ) (t : Tok) (us ts : List Tok) → map (tok_of s) (tokens s) ≡ t ∷ sign 1 ∷ us → Spelt s ts → ⊥
second_bad s t us ts e sp = let h = (spelt_scanned s ts).0 sp in formed (sym h.0 ∙ e) h.1
  where
    formed : {ts : List Tok} → ts ≡ t ∷ sign 1 ∷ us → WellFormed ts → ⊥
    formed e w = (rw e at w).1.0 refl

pub examples : SpellingExamples
unfolding same matched letter_or_digit class_of run_of run_end word_kind word_token name_token number_kind number_token dots_token begin_at token_at tokens_from tokens word_of packed signed_of value_of tok_of
examples = record {
  protocol = (spelt_scanned _ _).1 (refl, text_formed (unopened P_type));
  blanks = (spelt_scanned _ _).1 (refl, text_formed (unopened stop));
  tab = λ ts. nothing_spelt _ _ ts refl;
  two_tokens = (spelt_scanned _ _).1 (refl, ((λ e. omega (arith, ap tok_tag e)), ((λ e. omega (arith, ap tok_tag e)), ((λ e. omega (arith, ap sign_in e)), tt))));
  eight = (spelt_scanned _ _).1 (refl, ((λ e. omega (arith, ap tok_tag e)), ((λ e. omega (arith, ap sign_in e)), tt)));
  nine = λ ts. nothing_spelt _ _ ts refl;
  negative = (spelt_scanned _ _).1 (refl, ((λ e. omega (arith, ap tok_tag e)), ((λ e. omega (arith, ap sign_in e)), tt)));
  minus_zero = λ ts. nothing_spelt _ _ ts refl;
  leading_zero = λ ts. nothing_spelt _ _ ts refl;
  share = (spelt_scanned _ _).1 (refl, text_formed (unopened two_shares));
  three_dots = λ ts. nothing_spelt _ _ ts refl;
  other_word = λ ts. nothing_spelt _ _ ts refl;
  opening = (spelt_scanned _ _).1 (refl, text_formed (record { opening = some (plus 2); type = stop }));
  no_blank = λ ts. nothing_spelt _ _ ts refl;
  edition_zero = λ ts. second_bad _ _ _ ts refl;
}
