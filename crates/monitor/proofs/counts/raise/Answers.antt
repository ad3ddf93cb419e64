use Rattle.std.proofs.Common.{ap, sym, ◌∙◌, ℕ, ◌+◌, set, arith, get_or-set_other}
use Rattle.conversation.specs.Counts.{n_at}
use Rattle.conversation.proofs.laws.Counts.{raised_more}
use Rattle.monitor.proofs.counts.raise.Goals as goal

pub returns-then-c-chosen-lt-MOST : goal.returns-then-c-chosen-lt-MOST
returns-then-c-chosen-lt-MOST c =
    let p = c.args.position in
    let old = c.args.c.now in
    let b = c.args.branch in
    rw c.from-chosen.ensures
    (ap (λ (k : ℕ). set (set old (1 + p) (n_at old p + 1)) (33 + b) (k + 1)) (get_or-set_other old (1 + p) (33 + b) (n_at old p + 1) 0 (λ e. absurd (omega arith)))
    ∙ sym (raised_more old p b (rw c.from-chosen.ensures at c.if-c-chosen-lt-MOST.true)))
