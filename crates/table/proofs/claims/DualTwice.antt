-- The call gives document 01's dual; asked twice, the table itself.
-- Assumes nothing.
use Rattle.std.proofs.Common.{ap, ◌∙◌}
use Rattle.table.proofs.laws.View.{sound_facts}
use Rattle.table.specs.View.{view, turned, dual_answer, dual_of, DualSeen, DualTwice}
use Rattle.table.proofs.laws.DualOf.{turned_sound, turned_twice, view_turned}

-- of a sound table the call gives document 01's dual
pub dual_view : DualSeen
unfolding dual_of
dual_view t e = ap (λ b. view (dual_answer t b).table) e ∙ view_turned t (sound_facts t e).few (sound_facts t e).codes

-- asked twice, the call gives a sound table back
pub dual_of_dual : DualTwice
unfolding dual_of
dual_of_dual t e =
    ap (λ b. dual_of (dual_answer t b).table) e
    ∙ ap (dual_answer (turned t)) (turned_sound t e)
    ∙ ap (λ x. record { question = 0; table = x }) (turned_twice t)
