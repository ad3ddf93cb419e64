-- Reading by recursion: what the inner functions give at each place of a text. This need not be believed: a law joins it to
-- `reads`, which is all that the call promises.
-- Assumes nothing.
use Rattle.std.specs.Prelude.{◌≡◌, Bool, true, false, ◌&&◌, cond, List, [], ◌∷◌, ℕ, zero, suc, ◌+◌, ◌/◌, ◌%◌, ◌≤◌, leb, ltb, eqb, length, set, get_or, map, replicate, Some, None, Result, Ok, Err}
use Rattle.std.specs.Prelude as P
use Rattle.std.proofs.Math.Option.{Option, none, some}
use Rattle.table.specs.Question.{number}
use Rattle.table.specs.Lists.{upto}
use Rattle.table.specs.Table.{Field, Branch, Table, states_most, branches_most, fields_most, shares_sum}
use Rattle.table.specs.View.{label_of}
use Rattle.grammar.specs.Token.{Token, token, one_of, word_in}
use Rattle.grammar.specs.inner.Scanner.{token_at}
use Rattle.grammar.specs.Number.{Signed, signed_in, offset, in_kind, in_count}
use Rattle.grammar.specs.Grammar.{text_limit, open_most}
use Rattle.grammar.specs.Building.{aimed, stateless, add_state, add_branch, add_share, label_used, choice_right, Built, came, denied}
use Rattle.grammar.specs.Reading.{sign_of, choice_sort, kind_of}
use Rattle.text.specs.inner.Answers.{Step, Name, Next, Counted, Bound, Range, Fields, Raw, Number}
use Rattle.text.specs.inner.Kinds.{number_of_kind}
use Rattle.text.specs.declared.cursor.Refusal.{Refusal}
use Rattle.text.specs.declared.kind.Token as T
use Rattle.text.specs.declared.field.Fields as F
use Rattle.text.specs.declared.field.Field as G
use Rattle.text.specs.declared.scope.Binding.{Binding}
use Rattle.text.specs.declared.scope.Env as E
use Rattle.grammar.specs.inner.Holds.{Holds}
use Rattle.table.specs.Table as S
use Rattle.grammar.specs.Kind as K

-- ---- answers over lent words

-- R is what is defined, r what is answered, w the words that are lent: the same question and place, and the same table where there is
-- one
pub record Gives (R : Built) (r : Step) (w : List ℕ) : Type 0 where
  pub question : r.question ≡ R.question
  pub at : r.at ≡ R.at
  pub table : r.question ≡ 0 → Holds w R.table

abbrev pub step_answer : ℕ → ℕ → Step
step_answer q at = record { question = q; at = at }

abbrev pub refused : Refusal → Step
refused r = step_answer (number r.question) r.at

-- what the program answers, and the place that its cursor stands at then: the place to go on at, or a refusal
abbrev pub told_step : {A : Type 0} → Result A Refusal → ℕ → Step
told_step (Ok x) at = step_answer 0 at
told_step (Err r) at = refused r

-- what a function does to words that hold a table: it gives what R gives of the table
abbrev pub Fills : {A : Type 0} → (Table → Built) → List ℕ → Result A Refusal → ℕ → List ℕ → Type 0
Fills R before r at after = (T : Table) → Holds before T → Gives (R T) (told_step r at) after

-- ---- one token

-- a token, as the program has it
abbrev pub told_token : T.Token → Token
told_token k = token (number_of_kind k.kind) k.start k.end

-- a token that the grammar does not allow: 2 where it is malformed, else 3
unfoldable pub unexpected_at : Token → Step
unexpected_at k = step_answer (cond (eqb k.kind K.no_token) 2 3) k.start

-- past a token of the kind
unfoldable pub passed : Token → ℕ → Step
passed k kind = cond (eqb k.kind kind) (step_answer 0 k.end) (unexpected_at k)

unfoldable pub expect_at : List ℕ → ℕ → ℕ → Step
expect_at s p kind = passed (token_at s p) kind

-- the byte b stands right at p
abbrev pub is_at : List ℕ → ℕ → ℕ → Bool
is_at s p b = ltb p (length s) && eqb (get_or s p 0) b

abbrev pub next_token : ℕ → ℕ → Bool → Next
next_token q at more = record { question = q; at = at; more = more }

abbrev pub told_next : Result Bool Refusal → ℕ → Next
told_next (Ok more) at = next_token 0 at more
told_next (Err r) at = next_token (number r.question) r.at false

-- after a part of a list: past the sign that closes it, or past a comma, after which there is more
unfoldable pub next_of : Token → ℕ → Next
next_of k close =
    cond (eqb k.kind close) (next_token 0 k.end false)
    (cond (eqb k.kind (K.of ",")) (next_token 0 k.end true) (next_token (unexpected_at k).question (unexpected_at k).at false))

unfoldable pub next_at : List ℕ → ℕ → ℕ → Next
next_at s p close = next_of (token_at s p) close

-- ---- numbers and fields

abbrev pub number_answer : Bool → ℕ → Number
number_answer ok n = record { ok = ok; offset = n }

abbrev pub told_number : P.Option ℕ → Number
told_number (Some n) = number_answer true n
told_number None = number_answer false 0

-- a number in offset form, where it is within its kind
unfoldable pub number_read : ℕ → Signed → Number
number_read kind n = cond (in_kind kind n) (number_answer true (offset n)) (number_answer false 0)

abbrev pub bound_made : ℕ → ℕ → ℕ → Bound
bound_made q at n = record { question = q; at = at; offset = n }

abbrev pub told_bound : Result ℕ Refusal → ℕ → Bound
told_bound (Ok offset) at = bound_made 0 at offset
told_bound (Err r) at = bound_made (number r.question) r.at 0

-- one end of a range: 6 where it is not within its kind, or below the least
unfoldable pub bounded : List ℕ → Token → ℕ → ℕ → Bound
bounded s k kind least =
    cond (eqb k.kind K.of_number)
    (cond (in_kind kind (signed_in s k))
    (cond (ltb (offset (signed_in s k)) least) (bound_made 6 k.start 0) (bound_made 0 k.end (offset (signed_in s k))))
    (bound_made 6 k.start 0))
    (bound_made (unexpected_at k).question (unexpected_at k).at 0)

unfoldable pub bound_at : List ℕ → ℕ → ℕ → ℕ → Bound
bound_at s p kind least = bounded s (token_at s p) kind least

abbrev pub range : ℕ → ℕ → ℕ → ℕ → Range
range q at low high = record { question = q; at = at; low = low; high = high }

abbrev pub told_range : Result (ℕ × ℕ) Refusal → ℕ → Range
told_range (Ok r) at = range 0 at r.0 r.1
told_range (Err r) at = range (number r.question) r.at 0 0

-- goes on past a token, or an end of a range; else the whole is refused as it is
abbrev pub after_step : Step → (ℕ → Range) → Range
after_step a f = cond (eqb a.question 0) (f a.at) (range a.question a.at 0 0)

abbrev pub after_bound : Bound → (ℕ → ℕ → Range) → Range
after_bound b f = cond (eqb b.question 0) (f b.at b.offset) (range b.question b.at 0 0)

-- [ low .. high ]
unfoldable pub range_at : List ℕ → ℕ → ℕ → Range
range_at s p kind =
    after_step (expect_at s p (K.of "["))
    (λ q. after_bound (bound_at s q kind 0)
    (λ r low. after_step (expect_at s r K.dots)
    (λ t. after_bound (bound_at s t kind low)
    (λ u high. after_step (expect_at s u (K.of "]"))
    (λ v. range 0 v low high)))))

unfoldable pub no_fields : ℕ → ℕ → Fields
no_fields q at = record {
  question = q;
  at = at;
  count = 0;
  kinds = replicate 4 0;
  lows = replicate 4 0;
  highs = replicate 4 0;
}

abbrev pub told_fields : Result F.Fields Refusal → ℕ → Fields
told_fields (Ok f) at = record {
  question = 0;
  at = at;
  count = f.count;
  kinds = map (λ (x : G.Field). x.kind) f.list;
  lows = map (λ (x : G.Field). x.low) f.list;
  highs = map (λ (x : G.Field). x.high) f.list;
}
told_fields (Err r) at = no_fields (number r.question) r.at

-- the same where the fields are filled in place
abbrev pub told_filled : Result (Unit {0}) Refusal → F.Fields → ℕ → Fields
told_filled (Ok _) f at = told_fields (Ok f) at
told_filled (Err r) f at = told_fields (Err r) at

unfoldable pub with_field : Fields → ℕ → ℕ → ℕ → ℕ → Fields
with_field f at kind low high = record {
  question = f.question;
  at = at;
  count = f.count + 1;
  kinds = set f.kinds f.count kind;
  lows = set f.lows f.count low;
  highs = set f.highs f.count high;
}

unfoldable pub placed : Fields → ℕ → Fields
placed f at = record {
  question = f.question;
  at = at;
  count = f.count;
  kinds = f.kinds;
  lows = f.lows;
  highs = f.highs;
}

unfoldable pub with_range : Range → Fields → ℕ → Fields
with_range r f kind = cond (eqb r.question 0) (with_field f r.at kind r.low r.high) (no_fields r.question r.at)

-- one field whose first token is k
unfoldable pub fielded : List ℕ → Token → Fields → Fields
fielded s k f =
    cond (eqb (kind_of k.kind) 3) (no_fields (unexpected_at k).question (unexpected_at k).at)
    (cond (leb fields_most f.count) (no_fields 8 k.start)
    (with_range (range_at s k.end (kind_of k.kind)) f (kind_of k.kind)))

unfoldable pub read_field : List ℕ → Fields → Fields
read_field s f = fielded s (token_at s f.at) f

-- after a field: the closing parenthesis, or a comma and more
unfoldable pub end_of_field : Token → Fields → (Fields → Fields) → Fields
end_of_field k g more =
    cond (eqb k.kind (K.of ")")) (placed g k.end)
    (cond (eqb k.kind (K.of ",")) (more (placed g k.end)) (no_fields (unexpected_at k).question (unexpected_at k).at))

unfoldable pub field_then : List ℕ → Fields → (Fields → Fields) → Fields
field_then s g more = cond (eqb g.question 0) (end_of_field (token_at s g.at) g more) g

-- at most n fields
unfoldable pub fields_from : List ℕ → ℕ → Fields → Fields
fields_from s zero f = no_fields 8 f.at
fields_from s (suc n) f = field_then s (read_field s f) (fields_from s n)

-- ( fields )
unfoldable pub fields_at : List ℕ → ℕ → Fields
fields_at s p =
    cond (eqb (expect_at s p (K.of "(")).question 0)
    (cond (eqb (token_at s (expect_at s p (K.of "(")).at).kind (K.of ")"))
    (no_fields 0 (token_at s (expect_at s p (K.of "(")).at).end)
    (fields_from s (suc fields_most) (no_fields 0 (expect_at s p (K.of "(")).at)))
    (no_fields (expect_at s p (K.of "(")).question (expect_at s p (K.of "(")).at)

-- ---- counts: shares and editions

abbrev pub count_read : ℕ → ℕ → ℕ → Counted
count_read q at n = record { question = q; at = at; number = n }

abbrev pub told_count : Result ℕ Refusal → ℕ → Counted
told_count (Ok n) at = count_read 0 at n
told_count (Err r) at = count_read (number r.question) r.at 0

-- a number from 1 to a limit; the question where it is another
unfoldable pub count_from : ℕ → ℕ → List ℕ → Token → Counted
count_from most q s k =
    cond (eqb k.kind K.of_number)
    (cond (in_count most (signed_in s k)) (count_read 0 k.end (signed_in s k).value) (count_read q k.start 0))
    (count_read (unexpected_at k).question (unexpected_at k).at 0)

-- a share: 19 where it is not 1 to 1000
abbrev pub share_from : List ℕ → Token → Counted
share_from s k = count_from shares_sum 19 s k

-- a number that was read before a token
abbrev pub count_then : Step → ℕ → Counted
count_then a n = cond (eqb a.question 0) (count_read 0 a.at n) (count_read a.question a.at 0)

-- and its dot
unfoldable pub then_dot : List ℕ → Counted → Counted
then_dot s w = cond (eqb w.question 0) (count_then (expect_at s w.at (K.of ".")) w.number) w

-- after a branch's fields: @ share ., or .
unfoldable pub dotted : List ℕ → Token → Counted
dotted s k =
    cond (eqb k.kind (K.of "@")) (then_dot s (share_from s (token_at s k.end)))
    (count_read (passed k (K.of ".")).question (passed k (K.of ".")).at 0)

unfoldable pub shared_at : List ℕ → ℕ → Counted
shared_at s p = dotted s (token_at s p)

-- ---- names in scope

-- as the program has them
abbrev pub Env : Type 0
Env = E.Env

abbrev pub bound_in : Env → ℕ
bound_in e = e.count

abbrev pub bind : ℕ → ℕ → Binding
bind x n = record { name = x; state = n }

abbrev pub binding : Env → ℕ → Binding
binding e i = get_or e.bound i (bind 0 0)

abbrev pub name_in : Env → ℕ → ℕ
name_in e i = (binding e i).name

unfoldable pub empty_env : Env
empty_env = record { count = 0; bound = replicate 16 (bind 0 0) }

-- there is room for d names more
pub record Room (e : Env) (d : ℕ) : Type 0 where
  pub long : length e.bound ≡ 16
  pub count : bound_in e + d ≤ 16

-- one name more, bound to a state
unfoldable pub bind_in : Env → ℕ → ℕ → Env
bind_in e x n = record { count = e.count + 1; bound = set e.bound e.count (bind x n) }

-- the last of the first n bindings that has the name
unfoldable pub find_in : Env → ℕ → ℕ → Option ℕ
find_in e zero x = none
find_in e (suc i) x = cond (eqb (name_in e i) x) (some (binding e i).state) (find_in e i x)

abbrev pub find : Env → ℕ → Option ℕ
find e x = find_in e (bound_in e) x

-- one of the first n bindings, from the one numbered g on, has the name
unfoldable pub since_in : Env → ℕ → ℕ → ℕ → Bool
since_in e g zero x = false
since_in e g (suc i) x = cond (leb g i) (cond (eqb (name_in e i) x) true (since_in e g i x)) false

abbrev pub since : Env → ℕ → ℕ → Bool
since e g x = since_in e g (bound_in e) x

-- what a search found
abbrev pub found : P.Option ℕ → Option ℕ
found (Some n) = some n
found None = none

-- a name or a label that was read
abbrev pub name_read : ℕ → ℕ → ℕ → Name
name_read q at w = record { question = q; at = at; word = w }

abbrev pub told_name : Result ℕ Refusal → ℕ → Name
told_name (Ok word) at = name_read 0 at word
told_name (Err r) at = name_read (number r.question) r.at 0

-- a name that was read before a token
abbrev pub name_then : Step → ℕ → Name
name_then a w = cond (eqb a.question 0) (name_read 0 a.at w) (name_read a.question a.at 0)

-- the name of a rec and its dot
unfoldable pub rec_named : List ℕ → Token → Name
rec_named s k =
    cond (eqb k.kind K.of_name)
    (name_then (expect_at s k.end (K.of ".")) (word_in s k))
    (name_read (unexpected_at k).question (unexpected_at k).at 0)

unfoldable pub open_rec : List ℕ → ℕ → Name
open_rec s p = rec_named s (token_at s p)

-- ---- a branch up to its type

-- a label that no branch of its choice has
unfoldable pub label_from : List ℕ → Token → Table → ℕ → Name
label_from s k t owner =
    cond (eqb k.kind K.of_name)
    (cond (label_used t owner (word_in s k)) (name_read 7 k.start 0) (name_read 0 k.end (word_in s k)))
    (name_read (unexpected_at k).question (unexpected_at k).at 0)

unfoldable pub label_at : List ℕ → ℕ → Table → ℕ → Name
label_at s p t owner = label_from s (token_at s p) t owner

-- the fields that were read, as a list
abbrev pub field_no : Fields → ℕ → Field
field_no f i = record { kind = get_or f.kinds i 0; low = get_or f.lows i 0; high = get_or f.highs i 0 }

abbrev pub listed : Fields → List Field
listed f = upto f.count (field_no f)

-- a branch with its fields; and as the program stores it
abbrev pub branch_of : ℕ → ℕ → ℕ → Fields → Branch
branch_of word owner target f = record { owner = owner; label = label_of word; fields = listed f; target = target }

abbrev pub raw_of : ℕ → ℕ → ℕ → ℕ → Fields → Raw
raw_of label owner target share f = record {
  label = label;
  owner = owner;
  target = target;
  share = share;
  count = f.count;
  kinds = f.kinds;
  lows = f.lows;
  highs = f.highs;
}

-- goes on at the step's place, with the fields or with the count; or refuses as they do
abbrev pub then_read : Step → (ℕ → Built) → Built
then_read a f = cond (eqb a.question 0) (f a.at) (denied a.question a.at)

abbrev pub with_fields : Fields → (Fields → Built) → Built
with_fields f g = cond (eqb f.question 0) (g f) (denied f.question f.at)

abbrev pub with_count : Counted → (Counted → Built) → Built
with_count w g = cond (eqb w.question 0) (g w) (denied w.question w.at)

-- from its label on; it leads to the next state
unfoldable pub body_at : List ℕ → Name → ℕ → Table → Built
body_at s l owner t =
    cond (eqb l.question 0)
    (with_fields (fields_at s l.at)
    (λ f. with_count (shared_at s f.at)
    (λ w. came 0 w.at (add_share (add_branch t (branch_of l.word owner (length t.sorts) f)) w.number))))
    (denied l.question l.at)

unfoldable pub headed : List ℕ → Token → ℕ → ℕ → Table → Built
headed s k sign owner t =
    cond (eqb k.kind sign)
    (cond (leb branches_most (length t.branches)) (denied 8 k.start)
    (body_at s (label_at s k.end t owner) owner t))
    (denied (unexpected_at k).question (unexpected_at k).at)

unfoldable pub head_at : List ℕ → ℕ → ℕ → ℕ → Table → Built
head_at s p sign owner t = headed s (token_at s p) sign owner t

-- ---- types

-- the last branch leads to n
abbrev pub last_aimed : List Branch → ℕ → List Branch
last_aimed [] n = []
last_aimed (b ∷ []) n = aimed b n ∷ []
last_aimed (b ∷ c ∷ bs) n = b ∷ last_aimed (c ∷ bs) n

unfoldable pub aim_last : Table → ℕ → Table
aim_last t n = record { sorts = t.sorts; branches = last_aimed t.branches n; shares = t.shares; edition = t.edition }

-- A name as a type: 4 where it is unbound, 5 where it is bare; the branch whose type it is, the last one, leads to what it means.
abbrev pub name_used : Option ℕ → Token → Bool → Table → Built
name_used none k unguarded t = denied 4 k.start
name_used (some n) k unguarded t = cond unguarded (denied 5 k.start) (came 0 k.end (aim_last t n))

unfoldable pub name_type : List ℕ → Token → ℕ → Env → Table → Built
name_type s k g env t = name_used (find env (word_in s k)) k (since env g (word_in s k)) t

unfoldable pub end_type : Token → Table → Built
end_type k t = cond (leb states_most (length t.sorts)) (denied 8 k.start) (came 0 k.end (add_state t S.ends))

-- the state of a choice, past its brace
unfoldable pub open_choice : List ℕ → Token → Table → Built
open_choice s k t =
    cond (leb states_most (length t.sorts)) (denied 8 k.start)
    (then_read (expect_at s k.end (K.of "{")) (λ q. came 0 q (add_state t (choice_sort k.kind))))

-- A reader of types, at a place, with how many of the bound names have a choice inside their rec, among bound names, into a table:
abbrev pub Reader : Type 0
Reader = ℕ → ℕ → Env → Table → Built

-- where a refused part leaves the whole refused; else the whole goes on
abbrev pub unless : Built → (ℕ → Table → Built) → Built
unless o f = cond (eqb o.question 0) (f o.at o.table) o

-- after a branch: the closing brace, 20 where the shares of the owner's branches are not right, or a comma and the branches that follow
unfoldable pub end_of_branch : Token → ℕ → Table → (ℕ → Table → Built) → Built
end_of_branch k owner t more =
    cond (eqb k.kind (K.of "}")) (cond (choice_right t owner) (came 0 k.end t) (denied 20 k.start))
    (cond (eqb k.kind (K.of ",")) (more k.end t) (denied (unexpected_at k).question (unexpected_at k).at))

-- one branch, whose type `inner` reads, and the branches that follow
unfoldable pub branch_then : Reader → List ℕ → ℕ → ℕ → Env → ℕ → Table → (ℕ → Table → Built) → Built
branch_then inner s sign owner env p t more =
    unless (head_at s p sign owner t) (λ q u. unless (inner q (bound_in env) env u) (λ r v. end_of_branch (token_at s r) owner v more))

-- at most n branches
unfoldable pub branches_read : Reader → List ℕ → ℕ → ℕ → Env → ℕ → ℕ → Table → Built
branches_read inner s sign owner env zero p t = denied 8 p
branches_read inner s sign owner env (suc n) p t = branch_then inner s sign owner env p t (branches_read inner s sign owner env n)

-- a choice and a rec, whose types `inner` reads
unfoldable pub choice_type : Reader → List ℕ → Token → Env → Table → Built
choice_type inner s k env t =
    unless (open_choice s k t) (λ q u. branches_read inner s (sign_of k.kind) (length t.sorts) env (suc branches_most) q u)

unfoldable pub rec_type : Reader → Name → ℕ → Env → Table → Built
rec_type inner o g env t =
    cond (eqb o.question 0) (inner o.at g (bind_in env o.word (length t.sorts)) t) (denied o.question o.at)

-- the type whose first token is k, with d choices and recs left to open
unfoldable pub type_by : ℕ → Reader → List ℕ → Token → ℕ → Env → Table → Built
type_by d inner s k g env t =
    cond (eqb k.kind (K.of "end")) (end_type k t)
    (cond (eqb k.kind K.of_name) (name_type s k g env t)
    (cond (eqb k.kind (K.of "rec"))
    (cond (eqb d 0) (denied 8 k.start) (rec_type inner (open_rec s k.end) g env t))
    (cond (one_of (K.of "&" ∷ K.of "+" ∷ []) k.kind)
    (cond (eqb d 0) (denied 8 k.start) (choice_type inner s k env t))
    (denied (unexpected_at k).question (unexpected_at k).at))))

-- The reader of types with d choices and recs left to open; within one, it is the reader with one less.
unfoldable pub read_type : ℕ → List ℕ → Reader
read_type zero s p g env t = type_by zero (λ q a e u. denied 8 q) s (token_at s p) g env t
read_type (suc d) s p g env t = type_by (suc d) (read_type d s) s (token_at s p) g env t

unfoldable pub read_branches : ℕ → List ℕ → ℕ → ℕ → ℕ → Env → Table → Built
read_branches d s p sign owner env t = branches_read (read_type d s) s sign owner env (suc branches_most) p t

-- ---- whole texts

-- an edition: 23 where it is not 1 or 2
unfoldable pub edition_at : List ℕ → ℕ → Built
edition_at s p = with_count (count_from 2 23 s (token_at s p)) (λ e. came 0 e.at (stateless e.number))

-- the opening of a text whose first token is k; without one the type comes first, and the edition is 1
unfoldable pub opening_from : List ℕ → Token → Built
opening_from s k = cond (eqb k.kind K.edition_word) (edition_at s k.end) (came 0 0 (stateless 1))

abbrev pub opening_of : List ℕ → Built
opening_of s = opening_from s (token_at s 0)

-- after the type of a whole text: nothing more
unfoldable pub end_of_text : Token → Table → Built
end_of_text k t = cond (eqb k.kind K.text_end) (came 0 0 t) (denied (unexpected_at k).question (unexpected_at k).at)

-- a whole text
unfoldable pub read_text : List ℕ → Built
read_text s =
    cond (ltb text_limit (length s)) (denied 1 0)
    (unless (opening_of s)
    (λ p t. unless (read_type open_most s p 0 empty_env t) (λ q u. end_of_text (token_at s q) u)))
