-- The claims, on one page, of texts: from their bytes, by the session types that they spell and under their editions, to every conversation
-- and every list of moves.
-- Assumes nothing.
use Rattle.std.specs.Prelude.{◌≡◌, ◌↔◌, List, ℕ, ◌*◌, ◌≤◌, length}
use Rattle.std.proofs.Math.Option.{Option}
use Rattle.table.specs.View.{states_of, view}
use Rattle.grammar.specs.Grammar.{Protocol}
use Rattle.grammar.specs.Reading.{reads}
use Rattle.spelling.specs.TextOf.{TextOf}
use Rattle.types.specs.Types.{protocol_rules}
use Rattle.conversation.specs.Conversation.{Sent, Event, Watched, BlamedEarly}
use Rattle.conversation.specs.Programs.{Call, CallsFrom, messages_of, WatchedCalls}
use Rattle.machine.specs.Machine.{Safe, Unsafe}
use Rattle.machine.specs.Answer.{Answer, fits, fails, Answered, FewestMoves}
use Rattle.together.specs.Unblamed.{Keeps, UnblamedBy}
use Rattle.codes.specs.RawPrograms.{RawCall, WatchedRaw}
use Rattle.report.specs.Report.{fit, no_fit, Reported, ShowsFewest}

-- a text is read exactly when it is one of some protocol (into which table: spelling/specs/TextTheorems.antt, ReadExactly), and of one only
abbrev pub ReadOfTexts : Type 0
ReadOfTexts = (s : List ℕ) → ((reads s).question ≡ 0) ↔ ((p : Protocol) × TextOf s p)

abbrev pub OneProtocol : Type 0
OneProtocol = (s : List ℕ) (p q : Protocol) → TextOf s p → TextOf s q → p ≡ q

-- demand 2: in every conversation each message is met in its place, by the rules of the type under its edition
abbrev pub DemandTwoOfTexts : Type 0
DemandTwoOfTexts = (s : List ℕ) (p : Protocol) → TextOf s p → (sent : List Sent) → Watched (protocol_rules p) (reads s).table sent

-- and so for a program that starts a conversation, with any setting from 1 to 1000, and calls `step`, `advance`, `batch` and `batch::advance` in
-- any order: it is not refused, all that is sent is one such conversation, and the counts are those of its messages
abbrev pub CallsOfTexts : Type 0
CallsOfTexts =
    (s : List ℕ) (p : Protocol) → TextOf s p → (z : ℕ) → 1 ≤ z → z ≤ 1000 → (calls : List Call)
    → WatchedCalls (protocol_rules p) (reads s).table z calls

-- and so for a program in C or Rust, with the numbers that cross
abbrev pub RawOfTexts : Type 0
RawOfTexts =
    (s : List ℕ) (p : Protocol) → TextOf s p → (z : ℕ) → 1 ≤ z → z ≤ 1000 → (raws : List RawCall)
    → WatchedRaw (protocol_rules p) (reads s).table z raws

-- in every conversation a sender is blamed with reason 4 exactly when its message is early, under edition 2
abbrev pub EarlyOfTexts : Type 0
EarlyOfTexts = (s : List ℕ) (p : Protocol) → TextOf s p → (sent : List Sent) → BlamedEarly (protocol_rules p) (reads s).table sent

-- demand 3: with room for the product the fit check passes exactly when no list of moves on the two types' machine ends with the device
-- blamed or the machine jammed, and fails exactly when some list does
pub record CheckOfTexts (p d : Protocol) (r : Answer) : Type 0 where
  pub passes : ((c : ℕ) × (r ≡ fits c)) ↔ Safe (protocol_rules d) (protocol_rules p)
  pub fails_exactly : ((K : ℕ) × (h : Option ℕ) × (r ≡ fails K h)) ↔ Unsafe (protocol_rules d) (protocol_rules p)

abbrev pub DemandThreeOfTexts : Type 0
DemandThreeOfTexts =
    (protocol device : List ℕ) (p d : Protocol) → TextOf protocol p → TextOf device d → (before after : List ℕ)
    → states_of (reads device).table * states_of (reads protocol).table ≤ length before
    → (r : Answer) → Answered (reads device).table (reads protocol).table before after r → CheckOfTexts p d r

-- and the report says `fit` or `no fit` accordingly
pub record ReportOfTexts (protocol device : List ℕ) (p d : Protocol) (report : List ℕ) : Type 0 where
  pub says_fit : ((c : ℕ) × (report ≡ fit c)) ↔ Safe (protocol_rules d) (protocol_rules p)
  pub says_no_fit :
      ((ks : List ℕ) × (h : Option ℕ) × (report ≡ no_fit (view (reads device).table) (view (reads protocol).table) ks h))
      ↔ Unsafe (protocol_rules d) (protocol_rules p)

abbrev pub ReportsOfTexts : Type 0
ReportsOfTexts =
    (protocol device : List ℕ) (p d : Protocol) → TextOf protocol p → TextOf device d
    → (report : List ℕ) → Reported protocol device report → ReportOfTexts protocol device p d report

-- the editions change nothing in that: protocols and devices with the same types are safe alike
abbrev pub EditionsOfTexts : Type 0
EditionsOfTexts =
    (p q d c : Protocol) → p.type ≡ q.type → d.type ≡ c.type
    → Safe (protocol_rules d) (protocol_rules p) → Safe (protocol_rules c) (protocol_rules q)

-- with room for the product the fit check fails with K exactly when the shortest failures on the two types' machine have K moves, and then
-- shows one
abbrev pub FewestOfTexts : Type 0
FewestOfTexts =
    (protocol device : List ℕ) (p d : Protocol) → TextOf protocol p → TextOf device d → (before after : List ℕ)
    → (r : Answer) → Answered (reads device).table (reads protocol).table before after r
    → FewestMoves (protocol_rules d) (protocol_rules p) (reads device).table (reads protocol).table before after r

-- and so does the report
abbrev pub ReportsFewestOfTexts : Type 0
ReportsFewestOfTexts =
    (protocol device : List ℕ) (p d : Protocol) → TextOf protocol p → TextOf device d
    → (report : List ℕ) → Reported protocol device report
    → ShowsFewest (protocol_rules d) (protocol_rules p) (view (reads device).table) (view (reads protocol).table) report

-- a device that fits and says only what its description says is never blamed, by whatever calls its messages are taken; and every message of the
-- host's that is forwarded is one that the description takes there
abbrev pub UnblamedOfTexts : Type 0
UnblamedOfTexts =
    (protocol device : List ℕ) (p d : Protocol) → TextOf protocol p → TextOf device d → Safe (protocol_rules d) (protocol_rules p)
    → (z : ℕ) → 1 ≤ z → z ≤ 1000 → (calls : List Call) (events : List Event) → let t = (reads protocol).table in CallsFrom t z calls events
    → Keeps (protocol_rules d) t (messages_of events) → UnblamedBy (protocol_rules d) t z calls events
