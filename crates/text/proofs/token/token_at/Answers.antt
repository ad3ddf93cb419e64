-- Each token lies within the text. Assumes nothing.
use Rattle.std.proofs.Common.{rules}
use Rattle.grammar.proofs.laws.Spans.{spanned}
use Rattle.text.proofs.laws.Bytes.{beginnings}
use Rattle.text.proofs.token.token_at.Goals as goal

pub returns-in-97-to-122-clause-spans : goal.returns-in-97-to-122-clause-spans
returns-in-97-to-122-clause-spans c = (spanned _ c.args.p _ (search (rules, beginnings))).1

pub returns-in-65-to-90-clause-spans : goal.returns-in-65-to-90-clause-spans
returns-in-65-to-90-clause-spans c = (spanned _ c.args.p _ (search (rules, beginnings))).1

pub returns-in-48-to-57-clause-spans : goal.returns-in-48-to-57-clause-spans
returns-in-48-to-57-clause-spans c = (spanned _ c.args.p _ (search (rules, beginnings))).1

pub returns-in-45-clause-spans : goal.returns-in-45-clause-spans
returns-in-45-clause-spans c = (spanned _ c.args.p _ (search (rules, beginnings))).1

pub returns-in-46-clause-spans : goal.returns-in-46-clause-spans
returns-in-46-clause-spans c = (spanned _ c.args.p _ (search (rules, beginnings))).1
