-- Which protocols have a text, and that the speller's is read.
-- Assumes nothing.
use Rattle.spelling.specs.Speller.{spell}
use Rattle.spelling.specs.TextTheorems.{SpellableExactly, SpellRead}
use Rattle.spelling.proofs.laws.Speller.{spell_spelt}
use Rattle.spelling.proofs.laws.TextOf.{read_into}
use Rattle.spelling.proofs.laws.Spellable.{spelt_written, text_written}

-- A protocol has a text exactly when its names, labels and numbers can be written.
pub spellable_exactly : SpellableExactly
spellable_exactly p = ((λ h. (spell p, spell_spelt p h)), (λ h. text_written p (spelt_written h.1)))

-- A legal protocol that can be written is read from the speller's text, if that is not too long.
pub spell_read : SpellRead
spell_read p h l m = read_into (spell p) p (record { short = m; spelt = spell_spelt p h; legal = l })
