-- The grammar of protocol texts: the edition that a text opens with and its type as a tree, the tokens that they are written with, what is
-- asked of them, and the table that they mean.
-- Assumes nothing.
use Rattle.std.specs.Prelude.{◌≡◌, Bool, true, false, not, ◌&&◌, cond, List, [], ◌∷◌, ◌++◌, map, ℕ, suc, ◌+◌, ◌≤◌, max, leb, eqb, length}
use Rattle.std.proofs.Math.Option.{Option, none, some}
use Rattle.table.specs.Lists.{every}
use Rattle.table.specs.View.{label_of}
use Rattle.grammar.specs.Token.{one_of}
use Rattle.grammar.specs.Number.{Signed, offset, in_kind, in_share, in_edition}
use Rattle.table.specs.Table as T
use Rattle.grammar.specs.Kind as K

-- ---- the limits of document 01 that are not a table's

-- the bytes of a protocol text
abbrev pub text_limit : ℕ
text_limit = 8192

-- choices and `rec`s open around one another
abbrev pub open_most : ℕ
open_most = 16

-- ---- syntax

-- which way the messages of a choice go: sent by the device, or by the host
pub data Way : Type 0 where
  sending receiving : Way

pub data Kind : Type 0 where
  int text flag : Kind

pub record SyntaxField : Type 0 where
  pub kind : Kind
  pub low : Signed
  pub high : Signed

-- the share of a branch, in thousandths, if it has one
abbrev pub Share : Type 0
Share = Option Signed

-- names and labels are words: their eight bytes as one number
mutual
  -- end, a name, rec name . type, a choice
  pub data Ty : Type 0 where
    stop : Ty
    var : ℕ → Ty
    loop : ℕ → Ty → Ty
    choice : Way → Br → Ty

  -- one branch or more: a label, its fields, its share and the type after it
  pub data Br : Type 0 where
    last : ℕ → List SyntaxField → Share → Ty → Br
    also : ℕ → List SyntaxField → Share → Ty → Br → Br

-- what a text gives: the edition that it opens with, if it does, and its type (document 02, request 7)
pub record Protocol : Type 0 where
  pub opening : Option Signed
  pub type : Ty

-- ---- the tokens that a protocol is written with

-- a name by its word, a number by its sign and value, any other token by its kind
pub data Tok : Type 0 where
  word : ℕ → Tok
  number : Signed → Tok
  sign : ℕ → Tok

-- + and ! of a choice that sends, & and ? of one that receives
abbrev pub mark : Way → ℕ
mark sending = K.of "+"
mark receiving = K.of "&"

abbrev pub arrow : Way → ℕ
arrow sending = K.of "!"
arrow receiving = K.of "?"

abbrev pub letter : Kind → ℕ
letter int = K.of "int"
letter text = K.of "text"
letter flag = K.of "flag"

-- each of the following before the tokens ts: kind [ low .. high ]
abbrev pub print_field : SyntaxField → List Tok → List Tok
print_field f ts =
    sign (letter f.kind) ∷ sign (K.of "[") ∷ number f.low ∷ sign K.dots ∷ number f.high ∷ sign (K.of "]") ∷ ts

-- the fields after a first one, up to the parenthesis; all of them
abbrev pub print_more : List SyntaxField → List Tok → List Tok
print_more [] ts = sign (K.of ")") ∷ ts
print_more (f ∷ fs) ts = sign (K.of ",") ∷ print_field f (print_more fs ts)

abbrev pub print_fields : List SyntaxField → List Tok → List Tok
print_fields [] ts = sign (K.of ")") ∷ ts
print_fields (f ∷ fs) ts = print_field f (print_more fs ts)

-- @ number, or nothing
abbrev pub print_share : Share → List Tok → List Tok
print_share none ts = ts
print_share (some n) ts = sign (K.of "@") ∷ number n ∷ ts

-- ! or ?, label ( fields ) share .
abbrev pub print_head : ℕ → ℕ → List SyntaxField → Share → List Tok → List Tok
print_head σ l fs sh ts = sign σ ∷ word l ∷ sign (K.of "(") ∷ print_fields fs (print_share sh (sign (K.of ".") ∷ ts))

-- a type; branches with the brace that closes them
abbrev mutual
  pub print : Ty → List Tok → List Tok
  print stop ts = sign (K.of "end") ∷ ts
  print (var x) ts = word x ∷ ts
  print (loop x t) ts = sign (K.of "rec") ∷ word x ∷ sign (K.of ".") ∷ print t ts
  print (choice w bs) ts = sign (mark w) ∷ sign (K.of "{") ∷ print_br bs (arrow w) ts

  pub print_br : Br → ℕ → List Tok → List Tok
  print_br (last l fs sh t) σ ts = print_head σ l fs sh (print t (sign (K.of "}") ∷ ts))
  print_br (also l fs sh t bs) σ ts = print_head σ l fs sh (print t (sign (K.of ",") ∷ print_br bs σ ts))

-- edition number, or nothing
abbrev pub print_opening : Option Signed → List Tok → List Tok
print_opening none ts = ts
print_opening (some n) ts = sign K.edition_word ∷ number n ∷ ts

-- a whole text: its opening, the type, and the text ran out
abbrev pub print_text : Protocol → List Tok
print_text p = print_opening p.opening (print p.type (sign K.text_end ∷ []))

-- ---- the table that a protocol means

abbrev pub kind_code : Kind → ℕ
kind_code int = 0
kind_code text = 1
kind_code flag = 2

abbrev pub way_sort : Way → T.Sort
way_sort sending = T.sends
way_sort receiving = T.receives

abbrev pub field_of : SyntaxField → T.Field
field_of f = record { kind = kind_code f.kind; low = offset f.low; high = offset f.high }

-- the states in the order in which +, & and end stand in the text
abbrev mutual
  pub sorts : Ty → List T.Sort
  sorts stop = T.ends ∷ []
  sorts (var x) = []
  sorts (loop x t) = sorts t
  sorts (choice w bs) = way_sort w ∷ sorts_br bs

  pub sorts_br : Br → List T.Sort
  sorts_br (last l fs sh t) = sorts t
  sorts_br (also l fs sh t bs) = sorts t ++ sorts_br bs

-- what each name in scope means: the first state of the body of the innermost `rec` of that name
abbrev pub Scope : Type 0
Scope = ℕ → Option ℕ

unfoldable pub nothing_bound : Scope
nothing_bound x = none

unfoldable pub bind : ℕ → ℕ → Scope → Scope
bind x n e y = cond (eqb x y) (some n) (e y)

abbrev pub or_else : Option ℕ → ℕ → ℕ
or_else none n = n
or_else (some k) n = k

-- the first state of a type, where the next free state is n; a `rec` means what its body means
abbrev pub first_state : Ty → Scope → ℕ → ℕ
first_state stop e n = n
first_state (var x) e n = or_else (e x) n
first_state (loop x t) e n = first_state t (bind x n e) n
first_state (choice w bs) e n = n

abbrev pub branch_for : ℕ → ℕ → List SyntaxField → ℕ → T.Branch
branch_for owner label fs target =
    record { owner = owner; label = label_of label; fields = map field_of fs; target = target }

-- the branches in the order of ! and ?; n is the next free state, o the state that owns them
abbrev mutual
  pub branches : Ty → Scope → ℕ → List T.Branch
  branches stop e n = []
  branches (var x) e n = []
  branches (loop x t) e n = branches t (bind x n e) n
  branches (choice w bs) e n = branches_br bs e n (suc n)

  pub branches_br : Br → Scope → ℕ → ℕ → List T.Branch
  branches_br (last l fs sh t) e o n = branch_for o l fs (first_state t e n) ∷ branches t e n
  branches_br (also l fs sh t bs) e o n =
      branch_for o l fs (first_state t e n) ∷ (branches t e n ++ branches_br bs e o (n + length (sorts t)))

-- a share in thousandths, 0 for none
abbrev pub share_of : Share → ℕ
share_of none = 0
share_of (some n) = n.value

-- the shares in the order of the branches
abbrev mutual
  pub shares : Ty → List ℕ
  shares stop = []
  shares (var x) = []
  shares (loop x t) = shares t
  shares (choice w bs) = shares_br bs

  pub shares_br : Br → List ℕ
  shares_br (last l fs sh t) = share_of sh ∷ shares t
  shares_br (also l fs sh t bs) = share_of sh ∷ (shares t ++ shares_br bs)

-- the edition that a text opens with; without an opening, 1
abbrev pub edition_named : Option Signed → ℕ
edition_named none = 1
edition_named (some n) = n.value

unfoldable pub table_of : Protocol → T.Table
table_of p =
    record {
      sorts = sorts p.type;
      branches = branches p.type nothing_bound 0;
      shares = shares p.type;
      edition = edition_named p.opening;
    }

-- ---- what is asked of a type (questions 4 to 8, 19 and 20)

-- one test passes at every `rec` of a type, with its name and its body, another at each of its branches, with those after it in their choice
module _ (rec : ℕ → Ty → Bool) (branch : Br → Bool) where
  abbrev mutual
    pub everywhere : Ty → Bool
    everywhere stop = true
    everywhere (var x) = true
    everywhere (loop x t) = rec x t && everywhere t
    everywhere (choice w bs) = everywhere_br bs

    pub everywhere_br : Br → Bool
    everywhere_br (last l fs sh t) = branch (last l fs sh t) && everywhere t
    everywhere_br (also l fs sh t bs) = branch (also l fs sh t bs) && everywhere t && everywhere_br bs

-- 4. a name is bound by a `rec` around it; xs are the names bound there
abbrev mutual
  pub names_bound : Ty → List ℕ → Bool
  names_bound stop xs = true
  names_bound (var x) xs = one_of xs x
  names_bound (loop x t) xs = names_bound t (x ∷ xs)
  names_bound (choice w bs) xs = names_bound_br bs xs

  pub names_bound_br : Br → List ℕ → Bool
  names_bound_br (last l fs sh t) xs = names_bound t xs
  names_bound_br (also l fs sh t bs) xs = names_bound t xs && names_bound_br bs xs

-- x stands in the type, with no choice around it and no `rec` of that name
abbrev pub bare : Ty → ℕ → Bool
bare stop x = false
bare (var y) x = eqb y x
bare (loop y t) x = cond (eqb y x) false (bare t x)
bare (choice w bs) x = false

-- 5. a choice stands between each name and its own binder, the innermost `rec` of that name around it
abbrev pub recs_guarded : Ty → Bool
recs_guarded t = everywhere (λ x u. not (bare u x)) (λ bs. true) t

-- 6. the numbers are within their kind, and high is not below low
unfoldable pub range_legal : SyntaxField → Bool
range_legal f =
    in_kind (kind_code f.kind) f.low && in_kind (kind_code f.kind) f.high && leb (offset f.low) (offset f.high)

abbrev pub fields_in : Br → List SyntaxField
fields_in (last l fs sh t) = fs
fields_in (also l fs sh t bs) = fs

abbrev pub ranges_legal : Ty → Bool
ranges_legal t = everywhere (λ x u. true) (λ bs. every range_legal (fields_in bs)) t

-- 7. the label is new in its choice
abbrev pub label_among : Br → ℕ → Bool
label_among (last k fs sh t) l = eqb k l
label_among (also k fs sh t bs) l = cond (eqb k l) true (label_among bs l)

abbrev pub label_new : Br → Bool
label_new (last l fs sh t) = true
label_new (also l fs sh t bs) = not (label_among bs l)

abbrev pub labels_new : Ty → Bool
labels_new t = everywhere (λ x u. true) label_new t

-- 8, of fields: at most four in a branch
abbrev pub fields_few : Ty → Bool
fields_few t = everywhere (λ x u. true) (λ bs. leb (length (fields_in bs)) T.fields_most) t

-- 8, of what is open: choices and `rec`s around one another
abbrev mutual
  pub depth : Ty → ℕ
  depth stop = 0
  depth (var x) = 0
  depth (loop x t) = suc (depth t)
  depth (choice w bs) = suc (depth_br bs)

  pub depth_br : Br → ℕ
  depth_br (last l fs sh t) = depth t
  depth_br (also l fs sh t bs) = max (depth t) (depth_br bs)

-- 19. a share is 1 to 1000
abbrev pub share_legal : Share → Bool
share_legal none = true
share_legal (some n) = in_share n

abbrev pub share_in : Br → Share
share_in (last l fs sh t) = sh
share_in (also l fs sh t bs) = sh

abbrev pub shares_legal : Ty → Bool
shares_legal t = everywhere (λ x u. true) (λ bs. share_legal (share_in bs)) t

-- 20. the branches of each choice have no share, or each has one and they add to 1000
abbrev pub choice_shares : Br → List ℕ
choice_shares (last l fs sh t) = share_of sh ∷ []
choice_shares (also l fs sh t bs) = share_of sh ∷ choice_shares bs

abbrev mutual
  pub sums_right : Ty → Bool
  sums_right stop = true
  sums_right (var x) = true
  sums_right (loop x t) = sums_right t
  sums_right (choice w bs) = T.shares_right (choice_shares bs) && sums_right_br bs

  pub sums_right_br : Br → Bool
  sums_right_br (last l fs sh t) = sums_right t
  sums_right_br (also l fs sh t bs) = sums_right t && sums_right_br bs

-- 23. the edition is 1 or 2
abbrev pub opening_legal : Option Signed → Bool
opening_legal none = true
opening_legal (some n) = in_edition n

-- all of them, with the limits on states and branches
pub record Legal (p : Protocol) : Type 0 where
  pub bound : names_bound p.type [] ≡ true
  pub guarded : recs_guarded p.type ≡ true
  pub ranges : ranges_legal p.type ≡ true
  pub labels : labels_new p.type ≡ true
  pub fields : fields_few p.type ≡ true
  pub states : length (table_of p).sorts ≤ T.states_most
  pub branches : length (table_of p).branches ≤ T.branches_most
  pub nested : depth p.type ≤ open_most
  pub shares : shares_legal p.type ≡ true
  pub sums : sums_right p.type ≡ true
  pub edition : opening_legal p.opening ≡ true
