-- No bytes after broken ones make a message of them; 29 bytes that are not broken announce their length.
-- Assumes nothing.
use Rattle.std.proofs.Common.{◌≡◌, true, false, cond, eqb, ◌++◌, length, sym, ap, ◌∙◌, subst, ⊎_elim, arith, length-append}
use lib.Seq.{take-append_seam}
use Rattle.table.proofs.laws.Lists.{never, decided}
use Rattle.message.specs.Message.{legal_values, front, opens, broken}
use Rattle.message.specs.MessageTheorems.{NeverMended, UnbrokenAnnounces}
use Rattle.message.proofs.laws.Broken.{broken_closed, broken_fields, front_unbroken, opened_front}

-- no bytes after broken ones make a message of them
pub never_mended : NeverMended
never_mended bytes more b e =
    never b
    (subst (λ l. broken l ≡ false) (take-append_seam bytes more)
    (front_unbroken (bytes ++ more) (length bytes) (omega (arith, length-append bytes more)) e))

-- so from there on what is not broken announces its length
pub unbroken_announces : UnbrokenAnnounces
unbroken_announces bytes l b = ⊎_elim opened (λ o. never (sym (broken_closed bytes (omega arith) o)) b) (decided (opens bytes))
  where
    opened : opens bytes ≡ true → front bytes ≡ 0
    opened o =
        ⊎_elim (λ h. opened_front bytes l o ∙ ap (λ v. cond v 0 14) h)
        (λ h. never (sym (broken_fields bytes (omega arith) o) ∙ ap (λ q. eqb q 14) (opened_front bytes l o ∙ ap (λ v. cond v 0 14) h)) b)
        (decided (legal_values bytes))
