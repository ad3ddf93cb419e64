-- Reading asks its questions at the tokens that stand in the text.
-- Assumes nothing.
use mathlib.Core.Path.{◌≡◌, refl, sym, ap, ◌∙◌}
use mathlib.Core.Bool.{cond}
use mathlib.Core.List.{List}
use lib.Dec.{leb}
use lib.ListN.{length}
use Rattle.grammar.specs.inner.Scanner.{tokens}
use Rattle.grammar.specs.Building.{Built, denied}
use Rattle.grammar.specs.Filled.{written}
use Rattle.grammar.specs.Reading.{start, run_tokens, built, reads}
use Rattle.grammar.specs.Grammar.{text_limit}
use Rattle.grammar.specs.Token.{Token}
use Rattle.spelling.specs.TextTheorems.{ReadPlaced}
use Rattle.spelling.proofs.laws.Placed.{placed_scanned, run_upto, upto_bad}

-- Reading any text, refusals and their places included, is asking the questions at the tokens that stand in it.
pub read_placed : ReadPlaced
unfolding reads built
read_placed s r = (
  (λ e. (upto_bad (tokens s), (placed_scanned s (upto_bad (tokens s))).1 refl, sym (same (upto_bad (tokens s)) refl) ∙ e)),
  (λ h. same h.0 ((placed_scanned s h.0).0 h.1) ∙ h.2),
)
  where
    same : (ks : List Token) → upto_bad (tokens s) ≡ ks
        → written (cond (leb (length s) text_limit) (run_tokens s start (tokens s)) (denied 1 0)) ≡ written (cond (leb (length s) text_limit) (run_tokens s start ks) (denied 1 0))
    same ks e = ap (λ (r : Built). written (cond (leb (length s) text_limit) r (denied 1 0))) (run_upto s (tokens s) start ∙ ap (run_tokens s start) e)
