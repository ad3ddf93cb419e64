use Rattle.std.proofs.Common.{sym, ◌∙◌, arith}
use Rattle.table.proofs.laws.View.{sound_facts}
use Rattle.message.specs.Message.{count_of}
use Rattle.message.proofs.laws.LegalTexts.{ascii_behind}
use Rattle.monitor.proofs.straight.held.Goals as goal

pub bounds-t-b : goal.bounds-t-b
bounds-t-b c = omega (arith, (sound_facts _ c.requires.0).room, c.requires.1)

pub overflow_cast-count : goal.overflow_cast-count
overflow_cast-count c = record { fits = omega (arith, (sound_facts _ c.requires.0).counts _ c.requires.1) }

pub carry-requires : goal.carry-requires
unfolding count_of
carry-requires c =
    let f = sound_facts _ c.requires.0 in
    record {
      place = omega (arith, f.room, c.requires.1);
      few = f.counts _ c.requires.1;
      counted = sym c.if-bytes-count.false;
      arrays = omega arith;
      legal = λ k l. f.ranges _ c.requires.1 k l;
    }

pub returns-then-is_ascii : goal.returns-then-is_ascii
unfolding count_of
returns-then-is_ascii c = record {
  counted = c.if-bytes-count.false;
  arrays = omega arith;
  texts = c.in_ok-texts.texts;
  carried = c.in_ok-texts.ensures;
  size = omega arith;
  there = c.if-bytes-length.false;
  legal = ascii_behind c.args.bytes.now _ _ (omega arith) (omega arith) c.if-bytes-length.false (sym c.is_ascii.ensures ∙ c.if-is_ascii.true);
}
