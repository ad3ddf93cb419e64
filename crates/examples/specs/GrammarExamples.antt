-- Protocols as trees: the table that one means, what is asked of it (document 01's questions 4 to 8, document 02's 19, 20 and 23), and what its type
-- allows by substitution. Assumes nothing.
use Rattle.std.specs.Prelude.{◌≡◌, true, false, List, [], ◌∷◌, map, ℕ, replicate}
use Rattle.std.proofs.Math.Option.{none, some}
use Prim.Native.String.{String}
use Rattle.table.specs.Ascii.{ascii}
use Rattle.table.specs.Table as T
use Rattle.table.specs.declared.Party.TheVariants.{Device, Host}
use Rattle.message.specs.Message.{read}
use Rattle.message.specs.Judge.{forbidden}
use Rattle.message.specs.Rules.{led, allowed_list, completed_list}
use Rattle.grammar.specs.inner.Scanner.{tokens}
use Rattle.grammar.specs.Number.{Signed}
use Rattle.grammar.specs.TokOf.{tok_of}
use Rattle.grammar.specs.Grammar.{sending, receiving, Kind, int, text, flag, SyntaxField, Share, Ty, stop, var, loop, choice, Br, last, also, Protocol, print_text, table_of, names_bound, recs_guarded, ranges_legal, fields_few, labels_new, depth, shares_legal, sums_right, opening_legal}
use Rattle.table.specs.View.{label_of}
use Rattle.types.specs.Monitor.{it, tell, hear, mu, name, test, done, verdict, one, more, synth}
use Rattle.types.specs.Types.{protocol_rules, dual_type, dual_protocol, flip}
use Rattle.spelling.specs.SpellingExamples.{as_name, plus, unopened, P_type}
use Rattle.examples.specs.Twelve.{ask, ok}
use Rattle.examples.specs.TableExamples.{P_under, P_seen, one_letter, branch_to}
use Rattle.examples.specs.StepExamples.{quit, ask_flag, said_from}

-- ---- trees

abbrev pub below_zero : ℕ → Signed
below_zero n = record { minus = true; value = n }

abbrev pub ranging : Kind → Signed → Signed → SyntaxField
ranging k l h = record { kind = k; low = l; high = h }

-- branches without fields or shares
abbrev pub one_branch : String → Ty → Br
one_branch l t = last (as_name l) [] none t

abbrev pub or_branch : String → Ty → Br → Br
or_branch l t bs = also (as_name l) [] none t bs

-- `rec X.X` and so on
abbrev pub X : Ty
X = var (as_name "X")

abbrev pub Y : Ty
Y = var (as_name "Y")

abbrev pub rec_X : Ty → Ty
rec_X t = loop (as_name "X") t

abbrev pub rec_Y : Ty → Ty
rec_Y t = loop (as_name "Y") t

-- `+{!A().t}`
abbrev pub sends_A : Ty → Ty
sends_A t = choice sending (one_branch "A" t)

-- `+{!A(fields).end}` and `+{!B().end,!A(fields).&{?C().end}}`
abbrev pub A_fields : List SyntaxField → Ty
A_fields fs = choice sending (last (as_name "A") fs none stop)

abbrev pub A_fields_second : List SyntaxField → Ty
A_fields_second fs = choice sending (or_branch "B" stop (last (as_name "A") fs none (choice receiving (one_branch "C" stop))))

-- `+{!A()@v.t,!B()@w.end}`
abbrev pub A_B_shares : Share → Ty → Share → Ty
A_B_shares v t w = choice sending (also (as_name "A") [] v t (last (as_name "B") [] w stop))

-- `rec X.+{!A().rec X.&{?B().X}}`: a name means the innermost `rec` of that name
abbrev pub inner_X : Ty
inner_X = rec_X (sends_A (rec_X (choice receiving (one_branch "B" X))))

-- ---- the tokens

abbrev pub Prints : String → Protocol → Type 0
Prints s p = map (tok_of (ascii s)) (tokens (ascii s)) ≡ print_text p

-- what each is written with: `end`, a name, `rec`, choices and branches of either way, fields of each kind, shares, an edition
pub record TreesPrinted : Type 0 where
  pub stops : Prints "end" (unopened stop)
  pub loops : Prints "rec X.+{!A().rec X.&{?B().X}}" (unopened inner_X)
  pub fields : Prints "+{!A(int[-5..3],text[0..64],flag[0..1]).end}"
      (unopened (A_fields (ranging int (below_zero 5) (plus 3) ∷ ranging text (plus 0) (plus 64) ∷ ranging flag (plus 0) (plus 1) ∷ [])))
  pub shares : Prints "+{!A()@400.end,!B()@600.end}" (unopened (A_B_shares (some (plus 400)) stop (some (plus 600))))
  pub opening : Prints "edition 2 +{!A().end}" (record { opening = some (plus 2); type = sends_A stop })

-- ---- the table

-- "States are numbered from 0 in the order in which `+`, `&` and `end` stand in the text, branches from 0 over the whole text in the order of `!` and
-- `?`. A name means the first state of the body of the innermost `rec` of that name around it."
pub record TreesMean : Type 0 where
  pub of_P : table_of (unopened P_type) ≡ P_seen
  pub under_two : table_of (record { opening = some (plus 2); type = P_type }) ≡ P_under 2
  -- `+{!A()@300.&{?B().end},!C()@700.end}`: a branch behind what is nested in the one before
  pub in_order : table_of
      (unopened (choice sending (also (as_name "A") [] (some (plus 300)) (choice receiving (one_branch "B" stop)) (last (as_name "C") [] (some (plus 700)) stop))))
      ≡ record {
        sorts = T.sends ∷ T.receives ∷ T.ends ∷ T.ends ∷ [];
        branches = branch_to 0 (one_letter 65) [] 1 ∷ branch_to 1 (one_letter 66) [] 2 ∷ branch_to 0 (one_letter 67) [] 3 ∷ [];
        shares = 300 ∷ 0 ∷ 700 ∷ [];
        edition = 1;
      }
  pub innermost : table_of (unopened inner_X)
      ≡ record {
        sorts = T.sends ∷ T.receives ∷ [];
        branches = branch_to 0 (one_letter 65) [] 1 ∷ branch_to 1 (one_letter 66) [] 1 ∷ [];
        shares = 0 ∷ 0 ∷ [];
        edition = 1;
      }
  -- request 1: "The `rec` then means the state that the name means": `rec Y.+{!A().rec X.Y}`, and of two `rec`s the outer one
  pub straight : (table_of (unopened (rec_Y (sends_A (rec_X Y))))).branches ≡ branch_to 0 (one_letter 65) [] 0 ∷ []
  pub outer_name : (table_of (unopened (rec_Y (sends_A (rec_X (choice receiving (or_branch "B" X (one_branch "C" Y)))))))).branches
      ≡ branch_to 0 (one_letter 65) [] 1 ∷ branch_to 1 (one_letter 66) [] 1 ∷ branch_to 1 (one_letter 67) [] 0 ∷ []
  -- kinds 0, 1 and 2, and numbers plus 2^31
  pub fields_of : (table_of (unopened (A_fields (ranging int (below_zero 5) (plus 3) ∷ ranging text (plus 0) (plus 64) ∷ ranging flag (plus 0) (plus 1) ∷ [])))).branches
      ≡ branch_to 0 (one_letter 65)
      (record { kind = 0; low = 2147483643; high = 2147483651 }
      ∷ record { kind = 1; low = 2147483648; high = 2147483712 }
      ∷ record { kind = 2; low = 2147483648; high = 2147483649 }
      ∷ []) 1
      ∷ []

-- ---- what is asked of it

pub record TreesAsked : Type 0 where
  -- 4
  pub bound : (names_bound P_type [] ≡ true)
      × (names_bound X [] ≡ false)
      × (names_bound (sends_A X) [] ≡ false)
      × (names_bound (rec_X (sends_A X)) [] ≡ true)
      × (names_bound (rec_X (sends_A Y)) [] ≡ false)
      × (names_bound (choice sending (or_branch "A" (rec_X (choice receiving (one_branch "B" X))) (one_branch "C" X))) [] ≡ false)
      × (names_bound (choice sending (or_branch "A" X (one_branch "C" stop))) [] ≡ false)
  -- 5, with request 1
  pub guarded : (recs_guarded P_type ≡ true)
      × (recs_guarded (rec_X stop) ≡ true)
      × (recs_guarded (rec_X X) ≡ false)
      × (recs_guarded (rec_X (rec_Y X)) ≡ false)
      × (recs_guarded (rec_Y (sends_A (rec_X Y))) ≡ true)
      × (recs_guarded (rec_X (sends_A (rec_X X))) ≡ false)
      × (recs_guarded (sends_A (rec_X X)) ≡ false)
      × (recs_guarded (rec_X (rec_X (sends_A X))) ≡ true)
      × (recs_guarded (choice sending (or_branch "A" stop (one_branch "B" (rec_X X)))) ≡ false)
      × (recs_guarded (choice sending (or_branch "A" (rec_X X) (one_branch "B" stop))) ≡ false)
  -- the innermost `rec` of the name alone is its binder: `rec X.rec X.X` is refused for the inner one
  pub own_binder : (recs_guarded (rec_X (rec_X X)) ≡ false) × (recs_guarded (rec_X (sends_A (rec_Y X))) ≡ true)
  -- 6, and 8 of fields
  pub ranged : (ranges_legal P_type ≡ true)
      × (ranges_legal (A_fields []) ≡ true)
      × (ranges_legal (A_fields (ranging int (plus 5) (plus 5) ∷ [])) ≡ true)
      × (ranges_legal (A_fields (ranging int (plus 5) (plus 4) ∷ [])) ≡ false)
      × (ranges_legal (A_fields (ranging flag (plus 0) (plus 2) ∷ [])) ≡ false)
      × (ranges_legal (A_fields (ranging text (below_zero 1) (plus 2) ∷ [])) ≡ false)
      × (ranges_legal (A_fields (ranging int (below_zero 2147483648) (plus 2147483647) ∷ [])) ≡ true)
      × (ranges_legal (A_fields (ranging int (below_zero 2147483649) (plus 0) ∷ [])) ≡ false)
  pub four : (fields_few P_type ≡ true)
      × (fields_few (A_fields (replicate 4 (ranging int (plus 5) (plus 5)))) ≡ true)
      × (fields_few (A_fields (replicate 5 (ranging int (plus 5) (plus 5)))) ≡ false)
  pub other_branches : (fields_few (A_fields_second (replicate 5 (ranging int (plus 5) (plus 5)))) ≡ false)
      × (fields_few (rec_X (sends_A (A_fields (replicate 5 (ranging int (plus 5) (plus 5)))))) ≡ false)
      × (ranges_legal (A_fields_second (ranging int (plus 5) (plus 4) ∷ [])) ≡ false)
      × (ranges_legal (rec_X (sends_A (A_fields (ranging int (plus 5) (plus 4) ∷ [])))) ≡ false)
      × (ranges_legal (choice sending (also (as_name "A") (ranging int (plus 5) (plus 4) ∷ []) none stop (one_branch "B" stop))) ≡ false)
  -- 7
  pub labels : (labels_new P_type ≡ true)
      × (labels_new (choice sending (or_branch "A" stop (one_branch "B" stop))) ≡ true)
      × (labels_new (choice sending (or_branch "A" stop (one_branch "A" stop))) ≡ false)
      × (labels_new (choice sending (or_branch "A" stop (or_branch "B" stop (one_branch "A" stop)))) ≡ false)
      × (labels_new (choice sending (or_branch "A" stop (or_branch "A" stop (one_branch "B" stop)))) ≡ false)
      × (labels_new (sends_A (sends_A stop)) ≡ true)
      × (labels_new (sends_A (choice receiving (or_branch "B" stop (one_branch "B" stop)))) ≡ false)
  -- 8, of what is open
  pub depths : (depth stop ≡ 0)
      × (depth X ≡ 0)
      × (depth P_type ≡ 3)
      × (depth (choice sending (or_branch "A" stop (one_branch "B" (rec_X (sends_A X))))) ≡ 3)
  -- 19
  pub shares : (shares_legal P_type ≡ true)
      × (shares_legal (A_B_shares none stop none) ≡ true)
      × (shares_legal (A_B_shares (some (plus 1)) stop (some (plus 1000))) ≡ true)
      × (shares_legal (A_B_shares (some (plus 0)) stop none) ≡ false)
      × (shares_legal (A_B_shares none stop (some (plus 1001))) ≡ false)
      × (shares_legal (A_B_shares none stop (some (below_zero 1))) ≡ false)
      × (shares_legal (sends_A (A_B_shares (some (plus 0)) stop none)) ≡ false)
  -- 20
  pub sums : (sums_right P_type ≡ true)
      × (sums_right (A_B_shares none stop none) ≡ true)
      × (sums_right (A_B_shares (some (plus 400)) stop (some (plus 600))) ≡ true)
      × (sums_right (A_B_shares (some (plus 400)) stop (some (plus 599))) ≡ false)
      × (sums_right (A_B_shares (some (plus 1000)) stop none) ≡ false)
      × (sums_right (A_B_shares none (A_B_shares (some (plus 1000)) stop none) none) ≡ false)
      × (sums_right (rec_X (sends_A (A_B_shares none stop (some (plus 1000))))) ≡ false)
  -- 23
  pub editions : (opening_legal none ≡ true)
      × (opening_legal (some (plus 1)) ≡ true)
      × (opening_legal (some (plus 2)) ≡ true)
      × (opening_legal (some (plus 0)) ≡ false)
      × (opening_legal (some (plus 3)) ≡ false)
      × (opening_legal (some (below_zero 1)) ≡ false)

-- ---- what a type allows

-- messages without fields
abbrev pub A_bare : List ℕ
A_bare = 65 ∷ 0 ∷ 0 ∷ 0 ∷ 0 ∷ 0 ∷ 0 ∷ 0 ∷ 0 ∷ []

abbrev pub B_bare : List ℕ
B_bare = 66 ∷ 0 ∷ 0 ∷ 0 ∷ 0 ∷ 0 ∷ 0 ∷ 0 ∷ 0 ∷ []

abbrev pub C_bare : List ℕ
C_bare = 67 ∷ 0 ∷ 0 ∷ 0 ∷ 0 ∷ 0 ∷ 0 ∷ 0 ∷ 0 ∷ []

-- source document 001's transitions: a choice goes on by a branch, a `rec` as its body with the name replaced by it
pub record TypesAllow : Type 0 where
  pub completes : (completed_list (protocol_rules (unopened P_type)) (said_from Device (ask 100) ∷ said_from Host ok ∷ said_from Device quit ∷ [])
      ≡ true)
      × (completed_list (protocol_rules (unopened P_type)) (said_from Device (ask 100) ∷ said_from Host ok ∷ []) ≡ false)
      × (allowed_list (protocol_rules (unopened P_type)) (said_from Device (ask 100) ∷ said_from Host ok ∷ said_from Device (ask 0) ∷ []) ≡ true)
  pub forbids : (allowed_list (protocol_rules (unopened P_type)) (said_from Device (ask 101) ∷ []) ≡ false)
      × (allowed_list (protocol_rules (unopened P_type)) (said_from Host quit ∷ []) ≡ false)
      × (allowed_list (protocol_rules (unopened P_type)) (said_from Device quit ∷ said_from Device quit ∷ []) ≡ false)
  -- Ask and Ok lead back to P
  pub leads_back : led (protocol_rules (unopened P_type)) (said_from Device (ask 100) ∷ said_from Host ok ∷ []) ≡ some P_type
  -- the reasons
  pub judges : ((protocol_rules (unopened P_type)).judge P_type (read ok) ≡ forbidden 1 none)
      × ((protocol_rules (unopened P_type)).judge P_type (read ask_flag) ≡ forbidden 2 none)
      × ((protocol_rules (unopened P_type)).judge P_type (read (ask 101)) ≡ forbidden 3 (some 0))
      × ((protocol_rules (unopened P_type)).judge stop (read ok) ≡ forbidden 1 none)
  pub sorts_of : ((protocol_rules (unopened P_type)).sort P_type ≡ T.sends) × ((protocol_rules (unopened P_type)).sort stop ≡ T.ends)
      × ((protocol_rules (unopened P_type)).sort (rec_X (rec_Y (choice receiving (one_branch "B" X)))) ≡ T.receives)
  pub editions_of : ((protocol_rules (unopened stop)).edition ≡ 1) × ((protocol_rules (record { opening = some (plus 2); type = stop })).edition ≡ 2)
  -- after A, the inner `rec`'s B again and again, and A no more
  pub innermost_again : (allowed_list (protocol_rules (unopened inner_X)) (said_from Device A_bare ∷ said_from Host B_bare ∷ said_from Host B_bare ∷ [])
      ≡ true)
      × (allowed_list (protocol_rules (unopened inner_X)) (said_from Device A_bare ∷ said_from Host B_bare ∷ said_from Device A_bare ∷ []) ≡ false)
  -- a name of the outer `rec` goes back through the inner one
  pub outer_again : (allowed_list (protocol_rules (unopened (rec_Y (sends_A (rec_X (choice receiving (or_branch "B" X (one_branch "C" Y)))))))) (said_from Device A_bare
      ∷ said_from Host B_bare
      ∷ said_from Host C_bare
      ∷ said_from Device A_bare
      ∷ []) ≡ true)
      × (allowed_list (protocol_rules (unopened (rec_Y (sends_A (rec_X (choice receiving (or_branch "B" X (one_branch "C" Y)))))))) (said_from Device A_bare
      ∷ said_from Host C_bare
      ∷ said_from Host B_bare
      ∷ []) ≡ false)
  -- "The dual exchanges sending and receiving; the dual of the dual is the table itself"
  pub duals : (table_of (dual_protocol (record { opening = some (plus 2); type = P_type })) ≡ T.dual (P_under 2))
      × (dual_type (dual_type P_type) ≡ P_type)
      × (dual_type (choice sending (or_branch "A" X (one_branch "B" stop))) ≡ choice receiving (or_branch "A" X (one_branch "B" stop)))
  pub other_side : (flip (said_from Device ok) ≡ said_from Host ok) × (flip (said_from Host ok) ≡ said_from Device ok)

-- Definition 9 of source document 001 at P: hear the device and tell the host, hear the host and tell the device, and come to a verdict on whoever
-- says something else
pub record MonitorMade : Type 0 where
  pub of_P : synth P_type
      ≡ mu (as_name "X")
      (hear Device
      (more (label_of (as_name "Ask"))
      (test (ranging int (plus 0) (plus 100) ∷ []) it
      (tell Host (label_of (as_name "Ask")) it
      (hear Host
      (one (label_of (as_name "Ok")) (test [] it (tell Device (label_of (as_name "Ok")) it (name (as_name "X"))) (verdict Host)))))
      (verdict Device))
      (one (label_of (as_name "Quit")) (test [] it (tell Host (label_of (as_name "Quit")) it done) (verdict Device)))))
