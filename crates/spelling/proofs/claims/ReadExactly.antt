-- A text is read exactly when it spells a legal protocol, of which there is one, and its table is sound.
-- Assumes nothing.
use mathlib.Core.Path.{sym, ◌∙◌}
use Rattle.grammar.specs.Grammar.{print_text}
use Rattle.grammar.proofs.laws.Unique.{text_once}
use Rattle.grammar.proofs.laws.Reads.{read_exactly, read_seen, read_sound}
use Rattle.spelling.specs.TextTheorems.{SpeltOnce, ProtocolOnce, ReadExactly, ReadSeen, ReadSound}
use Rattle.spelling.proofs.claims.SpeltScanned.{spelt_scanned}
use Rattle.spelling.proofs.laws.TextOf.{writes, text_of}

-- A text has one spelling at most.
pub spelt_once : SpeltOnce
spelt_once s ts us a b = sym ((spelt_scanned s ts).0 a).0 ∙ ((spelt_scanned s us).0 b).0

-- What a protocol is written with tells the protocol.
pub protocol_once : ProtocolOnce
protocol_once s p r a b = text_once p r (spelt_once s (print_text p) (print_text r) a b)

-- Reading gives r without a no, exactly when the text is one of a protocol, and r is its table.
pub read_spelt : ReadExactly
read_spelt s r = (
  (λ h. let a = (read_exactly s r).0 h in (a.0, text_of s a.0 a.1 a.2, a.3)),
  (λ h. (read_exactly s r).1 (h.0, writes s h.0 h.1, h.1.legal, h.2)),
)

-- The same of what is seen of the words.
pub read_seen_spelt : ReadSeen
read_seen_spelt s T = (
  (λ h. let a = (read_seen s T).0 h in (a.0, text_of s a.0 a.1 a.2, a.3)),
  (λ h. (read_seen s T).1 (h.0, writes s h.0 h.1, h.1.legal, h.2)),
)

pub table_sound : ReadSound
table_sound s h = read_sound s h
