-- `report::compare` meets its contract.
use Rattle.std.proofs.Common.{ℕ, sym, replicate, arith}
use lib.ListN.{length-replicate}
use Rattle.std.proofs.lemmas.Grind.{common_steps}
use Rattle.machine.specs.Answer.{Answered, answer_of}
use Rattle.report.specs.Report.{line, fit}
use Rattle.report.proofs.laws.Written.{number_few}
use Rattle.report.proofs.laws.Reported.{never_refused, answered_fits, many, room, shows, answered_fails}
use Rattle.report.proofs.compare.Goals as goal

pub slice_bounds-list-end : goal.slice_bounds-list-end
slice_bounds-list-end c =
    let a = c.args in
    let w = c.in-Ok-Fails in
    omega (arith, c.from.ensures, room a.m.d.words.now a.m.p.words.now c.args.m.d.sound c.args.m.p.sound (replicate 1024 0) _ (length-replicate {A = ℕ} 1024 0) w.field-0-is w.ensures)

pub slice_bounds-moves-end : goal.slice_bounds-moves-end
slice_bounds-moves-end c =
    let a = c.args in
    let w = c.in-Ok-Fails in
    rw c.from.ensures (sym (many a.m.d.words.now a.m.p.words.now c.args.m.d.sound c.args.m.p.sound (replicate 1024 0) _ (length-replicate {A = ℕ} 1024 0) w.field-0-is w.ensures))

pub moves-requires : goal.moves-requires
unfolding line
moves-requires c =
    let a = c.args in
    let w = c.in-Ok-Fails in
    let s = shows a.m.d.words.now a.m.p.words.now c.args.m.d.sound c.args.m.p.sound (replicate 1024 0) _ (length-replicate {A = ℕ} 1024 0) w.field-0-is w.ensures in
    let m = many a.m.d.words.now a.m.p.words.now c.args.m.d.sound c.args.m.p.sound (replicate 1024 0) _ (length-replicate {A = ℕ} 1024 0) w.field-0-is w.ensures in
    (rw c.from.ensures s, grind (arith, common_steps, c.requires, c.counted-in-Ok-Fails.ensures, number_few w.moves (omega (arith, s.few, m))))

pub returns-in-Ok-Fits : goal.returns-in-Ok-Fits
unfolding fit
returns-in-Ok-Fits c =
    let a = c.args in
    let w = c.in-Ok-Fits in
    rw (c.counted.ensures, c.requires)
    (answered_fits a.m.d.words.now a.m.p.words.now c.args.m.d.sound c.args.m.p.sound (replicate 1024 0) _ (length-replicate {A = ℕ} 1024 0) w.field-0-is w.ensures)

pub returns-in-Ok-Fails : goal.returns-in-Ok-Fails
returns-in-Ok-Fails c =
    let a = c.args in
    let w = c.in-Ok-Fails in
    rw (c.moves.ensures, c.counted-in-Ok-Fails.ensures, c.requires, c.from.ensures)
    (answered_fails a.m.d.words.now a.m.p.words.now c.args.m.d.sound c.args.m.p.sound (replicate 1024 0) _ (length-replicate {A = ℕ} 1024 0) w.field-0-is w.ensures)

pub returns-in-Err : goal.returns-in-Err
unfolding Answered answer_of
returns-in-Err c =
    let a = c.args in
    never_refused a.m.d.words.now a.m.p.words.now c.args.m.d.sound c.args.m.p.sound (replicate 1024 0) _ (length-replicate {A = ℕ} 1024 0) c.in-Err.ensures
