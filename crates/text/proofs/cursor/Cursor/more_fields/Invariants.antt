-- `text::cursor::Cursor::more_fields`: the fields from the start on are those from here on. Assumes nothing.
use Rattle.std.proofs.Common.{◌≡◌, ◌-◌, Ok}
use Rattle.text.specs.inner.Recursive.{told_fields, fields_from}
use Rattle.text.proofs.cursor.Cursor.more_fields.Given as goal

abbrev pub invariant-loop : goal.invariant-loop
invariant-loop l = record {
  same : l.self.text ≡ l.fn.self.text;
  to_come : fields_from l.fn.self.text.now 5 (told_fields (Ok l.fn.f) l.fn.self.at) ≡ fields_from l.fn.self.text.now (5 - l.counter) (told_fields (Ok l.f) l.self.at);
}
