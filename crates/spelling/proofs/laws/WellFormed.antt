-- No token that a protocol is written with is malformed.
-- Assumes nothing.
use mathlib.Core.Path.{ap}
use native.Mathlib.Omega.{arith}
use Rattle.table.proofs.laws.Lists.{never}
use Rattle.grammar.specs.Token.{one_of}
use Rattle.grammar.specs.Grammar.{Protocol, Tok, print_text}
use Rattle.grammar.proofs.laws.TokOf.{tok_tag, sign_in}
use Rattle.spelling.specs.Scanned.{WellFormed}
use Rattle.spelling.proofs.laws.Prints.{fixed, text_holds, of_number, of_all}

pub text_formed : (p : Protocol) → WellFormed (print_text p)
text_formed p =
    text_holds All WellFormed (λ x ts p q. ((λ e. omega (arith, ap tok_tag e)), q)) (λ n ts p q. ((λ e. omega (arith, ap tok_tag e)), q))
    (λ k ts e q. ((λ h. never e (ap (λ (x : Tok). one_of fixed (sign_in x)) h)), q)) p
    (of_number All (λ x. tt) (λ n. tt) p.opening) (of_all All (λ x. tt) (λ n. tt) p.type) ((λ e. omega (arith, ap sign_in e)), tt)
  where
    All : Tok → Type 0
    All x = Unit {0}
