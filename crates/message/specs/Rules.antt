-- A session type as the monitor, the machine and lists of messages look at it: its places are the states of a table or, by substitution,
-- types (types/specs/Types.antt). Demand 2 and the machine of demand 3 are said once, over this.
-- Assumes nothing.
use Rattle.std.specs.Prelude.{ℕ, Bool, true, false, cond, ◌&&◌, ◌||◌, List, [], ◌∷◌, ◌==◌}
use Rattle.std.proofs.Math.Option.{Option, none, some}
use Rattle.table.specs.Table.{Sort, is_choice, speaker, is_party, Table, sort}
use Rattle.table.specs.declared.Party.{Party}
use Rattle.message.specs.Message.{Message}
use Rattle.message.specs.Judge.{Judgement, forbidden, allows, judge}

-- where it begins; at each place its sort, where a message leads if it is allowed there, and the judgement on it; and the edition
pub record Rules (A : Type 0) : Type 0 where
  pub start : A
  pub sort : A → Sort
  pub allows : A → Message → Option A
  pub judge : A → Message → Judgement A
  pub edition : ℕ

-- of a table: its states, from 0
abbrev pub table_rules : Table → Rules ℕ
table_rules t = record { start = 0; sort = sort t; allows = allows t; judge = judge t; edition = t.edition }

-- the same type under an edition
abbrev pub under : {A : Type 0} → ℕ → Rules A → Rules A
under e r = record { start = r.start; sort = r.sort; allows = r.allows; judge = r.judge; edition = e }

-- ---- lists of messages

-- a side, and what it says
pub record Said : Type 0 where
  pub side : Party
  pub message : Message

abbrev pub and_then : {A B : Type 0} → Option A → (A → Option B) → Option B
and_then none f = none
and_then (some a) f = f a

abbrev pub is_some : {A : Type 0} → Option A → Bool
is_some none = false
is_some (some a) = true

-- whose turn it is at a place
abbrev pub turn : {A : Type 0} → Rules A → A → Option Party
turn r a = speaker (r.sort a)

-- where a message leads that comes in turn, if it is allowed
unfoldable pub next : {A : Type 0} → Rules A → A → Said → Option A
next r a v = cond (is_party v.side (turn r a)) (r.allows a v.message) none

-- where a list leads, if each message comes in turn and is allowed where those before it lead
unfoldable pub leads : {A : Type 0} → Rules A → A → List Said → Option A
leads r a [] = some a
leads r a (v ∷ vs) = and_then (next r a v) (λ b. leads r b vs)

-- from the start: where a list leads; whether each message is allowed in turn; whether an end is then reached
abbrev pub led : {A : Type 0} → Rules A → List Said → Option A
led r vs = leads r r.start vs

unfoldable pub allowed_list : {A : Type 0} → Rules A → List Said → Bool
allowed_list r vs = is_some (led r vs)

unfoldable pub completed_list : {A : Type 0} → Rules A → List Said → Bool
completed_list r vs = is_some (and_then (led r vs) (λ a. cond (is_choice (r.sort a)) none (some a)))

-- ---- a message out of turn (document 02, request 7)

-- a message of this side is judged at this place: on its own turn and, under edition 2, on the other side's
unfoldable pub listens : {A : Type 0} → Rules A → A → Party → Bool
listens r a side = is_party side (turn r a) || (r.edition == 2 && is_choice (r.sort a))

-- the judgement on what a side says: 4 where it is out of turn, ahead of the reasons of Judge.antt
unfoldable pub judge_said : {A : Type 0} → Rules A → A → Said → Judgement A
judge_said r a v = cond (is_party v.side (turn r a)) (r.judge a v.message) (forbidden 4 none)
