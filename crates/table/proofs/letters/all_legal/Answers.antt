-- One label more.
use Rattle.std.proofs.Common.{refl, ap, ◌∙◌, subst, not-suc-le-zero, below_more}
use Rattle.table.specs.Table.{legal_label}
use Rattle.table.specs.View.{label_of}
use Rattle.table.specs.inner.Scans.{all, Word}
use Rattle.table.proofs.laws.LegalLabel.{clear_more}
use Rattle.table.proofs.letters.all_legal.Goals as goal

pub loop-k-init : goal.loop-k-init
unfolding all
loop-k-init c = record { legal = refl; words = λ i l. absurd (not-suc-le-zero l) }

pub loop-k-preserved : goal.loop-k-preserved
loop-k-preserved c =
    record {
      legal =
          clear_more _ c.loop-k.k c.loop-k.bad c.bad_bytes-bad.result c.loop-k.invariant.legal
          (c.bad_bytes-bad.ensures ∙ ap (λ w. legal_label (label_of w)) c.label.ensures.0);
      words = below_more _ _ c.loop-k.invariant.words (subst Word c.label.ensures.0 c.label.ensures.1);
    }
