-- Whole conversations, and what demand 2 asks of every message in them.
-- Assumes nothing.
use Rattle.std.specs.Prelude.{◌≡◌, ◌↔◌, Bool, true, false, cond, List, [], ◌∷◌, ◌++◌, map, ℕ, ◌≤◌, length, leb}
use Rattle.std.proofs.Math.Option.{Option, none, some}
use Rattle.table.specs.Lists.{first_no}
use Rattle.table.specs.Table.{is_choice, is_party}
use Rattle.table.specs.View.{Words, edition_of, view, sound_of}
use Rattle.table.specs.declared.Party.{Party}
use Rattle.message.specs.Message.{read, whole, legal_values, exact, legal_texts, well_formed}
use Rattle.message.specs.Judge.{forbidden}
use Rattle.message.specs.Rules.{Rules, table_rules, Said, turn, next, led, listens, judge_said}
use Rattle.conversation.specs.declared.Standing.{Standing}
use Rattle.conversation.specs.declared.Standing.TheVariants.{Running}
use Rattle.conversation.specs.declared.State.{State}
use Rattle.conversation.specs.Step.{fresh, blame, Told, refused, blamed, forwarded, Outcome, refusing, blaming, forwarding, stepping}

-- ---- a conversation

-- a message: who sends it, its bytes, and the output buffer that is lent for it
pub record Sent : Type 0 where
  pub side : Party
  pub bytes : List ℕ
  pub buffer : List ℕ

-- a message, the state that it meets, and what the step does
pub record Event : Type 0 where
  pub sent : Sent
  pub met : State
  pub done : Outcome

unfoldable pub event : Words → State → Sent → Event
event t s m = record { sent = m; met = s; done = stepping t s m.side m.bytes m.buffer }

-- each message meets the state that the step before left
unfoldable pub played : Words → State → List Sent → List Event
played t s [] = []
played t s (m ∷ r) = event t s m ∷ played t (event t s m).done.state r

unfoldable pub conversation : Words → List Sent → List Event
conversation t sent = played t fresh sent

-- ---- what verdicts say: which messages were forwarded, and who was blamed first

-- what a message says, and who says it
abbrev pub said_by : Sent → Said
said_by m = record { side = m.side; message = read m.bytes }

unfoldable pub is_refused : Told → Bool
is_refused (refused q) = true
is_refused (blamed side r f) = false
is_refused forwarded = false

unfoldable pub is_forwarded : Told → Bool
is_forwarded (refused q) = false
is_forwarded (blamed side r f) = false
is_forwarded forwarded = true

unfoldable pub forwarded_ones : List Event → List Said
forwarded_ones [] = []
forwarded_ones (e ∷ r) = cond (is_forwarded e.done.verdict) (said_by e.sent ∷ forwarded_ones r) (forwarded_ones r)

unfoldable pub blamed_else : Told → Option Party → Option Party
blamed_else (refused q) later = later
blamed_else (blamed side r f) later = some side
blamed_else forwarded later = later

unfoldable pub blamed_first : List Event → Option Party
blamed_first [] = none
blamed_first (e ∷ r) = blamed_else e.done.verdict (blamed_first r)

unfoldable pub nobody : Option Party → Bool
nobody none = true
nobody (some side) = false

-- ---- demand 2, over the rules of a session type

-- nobody is blamed before the message, its side is listened to at the place a, it is well formed, and the output holds it
pub record Judgeable {A : Type 0} (rules : Rules A) (earlier : List Event) (a : A) (m : Sent) : Type 0 where
  pub unblamed : blamed_first earlier ≡ none
  pub listened : listens rules a m.side ≡ true
  pub formed : well_formed m.bytes ≡ true
  pub room : length m.bytes ≤ length m.buffer

-- the number of a refusal, or 0, in document 01's order. 9 gets a yes, for the table is sound and the position one of its own
unfoldable pub refusal_of : {A : Type 0} → Rules A → List Event → A → Sent → ℕ
refusal_of rules earlier a m =
    first_no
    ((9, true)
    ∷ (10, nobody (blamed_first earlier))
    ∷ (11, is_choice (rules.sort a))
    ∷ (12, listens rules a m.side)
    ∷ (13, whole m.bytes)
    ∷ (14, legal_values m.bytes)
    ∷ (15, exact m.bytes)
    ∷ (22, legal_texts m.bytes)
    ∷ (16, leb (length m.bytes) (length m.buffer))
    ∷ [])

-- at the place a that the forwarded messages before it lead to
pub record Handled {A : Type 0} (rules : Rules A) (earlier : List Event) (a : A) (e : Event) : Type 0 where
  -- a message is forwarded exactly when the type allows it there, in turn, nobody being blamed before, well formed, with room
  pub forwards : (e.done.verdict ≡ forwarded)
      ↔ (Judgeable rules earlier a e.sent × ((b : A) × (next rules a (said_by e.sent) ≡ some b)))
  -- then its bytes open the output, the rest of which is unchanged, and only the position moves
  pub writes : e.done.verdict ≡ forwarded → (target : ℕ) × (e.done ≡ forwarding target e.sent.bytes e.met e.sent.buffer)
  -- its sender is blamed exactly when the type forbids it there, with the reason and the field
  pub blames : (side : Party) (r : ℕ) (f : Option ℕ) → (e.done.verdict ≡ blamed side r f)
      ↔ (Judgeable rules earlier a e.sent × (next rules a (said_by e.sent) ≡ none)
      × (side ≡ e.sent.side) × (judge_said rules a (said_by e.sent) ≡ forbidden r f))
  -- it stands blamed then; position and output are unchanged
  pub stays : (side : Party) (r : ℕ) (f : Option ℕ) → e.done.verdict ≡ blamed side r f → e.done ≡ blaming r f e.met side e.sent.buffer
  -- every other message is refused with its number
  pub refuses : (q : ℕ) → (e.done.verdict ≡ refused q) ↔ ((q ≡ refusal_of rules earlier a e.sent) × (q ≡ 0 → ⊥))
  -- and leaves everything as it was
  pub leaves : (q : ℕ) → e.done.verdict ≡ refused q → e.done ≡ refusing q e.met e.sent.buffer

-- one message in its place: the forwarded ones before it lead to a place, where it is handled
pub record Met {A : Type 0} (rules : Rules A) (earlier : List Event) (e : Event) : Type 0 where
  pub place : A
  pub there : led rules (forwarded_ones earlier) ≡ some place
  pub handled : Handled rules earlier place e
  -- blame is for ever
  pub for_ever : (side : Party) → blamed_first earlier ≡ some side → e.done ≡ refusing 10 e.met e.sent.buffer

-- of the table t and the messages: there is one event for each message, in order, and each is met in its place
pub record Watched {A : Type 0} (rules : Rules A) (t : Words) (sent : List Sent) : Type 0 where
  pub all_met : map (λ (e : Event). e.sent) (conversation t sent) ≡ sent
  pub each : (earlier : List Event) (e : Event) (later : List Event) → conversation t sent ≡ earlier ++ (e ∷ later) → Met rules earlier e

-- ---- the state that a program keeps, by the events so far

unfoldable pub standing_by : Option Party → Standing
standing_by none = Running
standing_by (some side) = blame side

pub record Stands (t : Words) (events : List Event) (s : State) : Type 0 where
  pub position : led (table_rules (view t)) (forwarded_ones events) ≡ some s.position
  pub standing : s.standing ≡ standing_by (blamed_first events)

-- ---- the statements

-- demand 2 of a sound table, and the state before and after each message
pub record WatchedTable (t : Words) (sent : List Sent) : Type 0 where
  pub demand : Watched (table_rules (view t)) t sent
  pub before : (earlier : List Event) (e : Event) (later : List Event) → conversation t sent ≡ earlier ++ (e ∷ later)
      → Stands t earlier e.met
  pub after : (earlier : List Event) (e : Event) (later : List Event) → conversation t sent ≡ earlier ++ (e ∷ later)
      → Stands t (earlier ++ (e ∷ [])) e.done.state

abbrev pub DemandTwo : Type 0
DemandTwo = (t : Words) → sound_of t ≡ true → (sent : List Sent) → WatchedTable t sent

-- an early message (document 02, request 7): under edition 2, nobody being blamed before it, while it is the other side's turn, well formed
-- and with room
pub record Early {A : Type 0} (rules : Rules A) (earlier : List Event) (a : A) (m : Sent) : Type 0 where
  pub second : rules.edition ≡ 2
  pub unblamed : blamed_first earlier ≡ none
  pub goes_on : is_choice (rules.sort a) ≡ true
  pub out_of_turn : is_party m.side (turn rules a) ≡ false
  pub formed : well_formed m.bytes ≡ true
  pub room : length m.bytes ≤ length m.buffer

-- a sender is blamed with reason 4 exactly when its message is early, whatever reason else there would be
abbrev pub BlamedEarly : {A : Type 0} → Rules A → Words → List Sent → Type 0
BlamedEarly {A} rules t sent =
    (earlier : List Event) (e : Event) (later : List Event) → conversation t sent ≡ earlier ++ (e ∷ later)
    → (place : A) → led rules (forwarded_ones earlier) ≡ some place
    → (e.done.verdict ≡ blamed e.sent.side 4 none) ↔ Early rules earlier place e.sent

abbrev pub EarlyBlamed : Type 0
EarlyBlamed = (t : Words) → sound_of t ≡ true → (sent : List Sent) → BlamedEarly (table_rules (view t)) t sent

-- under edition 1 nobody is blamed with it
abbrev pub NoneEarly : Type 0
NoneEarly =
    (t : Words) → sound_of t ≡ true → edition_of t ≡ 1 → (sent : List Sent) (earlier : List Event) (e : Event) (later : List Event)
    → conversation t sent ≡ earlier ++ (e ∷ later) → (side : Party) (f : Option ℕ) → e.done.verdict ≡ blamed side 4 f → ⊥
