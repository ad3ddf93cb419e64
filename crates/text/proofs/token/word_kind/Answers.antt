-- A word of the six has its bytes. That a word is none of them, `no_word` says. Assumes nothing.
use Rattle.std.proofs.Common.{sym, ap, rules}
use Rattle.std.proofs.lemmas.Slice.Eq.{text_from_reads}
use Rattle.table.specs.Ascii.{ascii}
use Rattle.table.specs.Lists.{same, matched}
use Rattle.grammar.specs.inner.Scanner.{word_kind}
use Rattle.text.proofs.token.word_kind.Goals as goal

pub returns-in-end-clause-is : goal.returns-in-end-clause-is
unfolding word_kind same matched
returns-in-end-clause-is c = sym (ap word_kind (text_from_reads c.args.w.now (ascii "end") (search rules) (search rules)))

pub returns-in-rec-clause-is : goal.returns-in-rec-clause-is
unfolding word_kind same matched
returns-in-rec-clause-is c = sym (ap word_kind (text_from_reads c.args.w.now (ascii "rec") (search rules) (search rules)))

pub returns-in-int-clause-is : goal.returns-in-int-clause-is
unfolding word_kind same matched
returns-in-int-clause-is c = sym (ap word_kind (text_from_reads c.args.w.now (ascii "int") (search rules) (search rules)))

pub returns-in-116-clause-is : goal.returns-in-116-clause-is
unfolding word_kind same matched
returns-in-116-clause-is c = sym (ap word_kind (text_from_reads c.args.w.now (ascii "text") (search rules) (search rules)))

pub returns-in-flag-clause-is : goal.returns-in-flag-clause-is
unfolding word_kind same matched
returns-in-flag-clause-is c = sym (ap word_kind (text_from_reads c.args.w.now (ascii "flag") (search rules) (search rules)))

pub returns-in-edition-clause-is : goal.returns-in-edition-clause-is
unfolding word_kind same matched
returns-in-edition-clause-is c = sym (ap word_kind (text_from_reads c.args.w.now (ascii "edition") (search rules) (search rules)))
