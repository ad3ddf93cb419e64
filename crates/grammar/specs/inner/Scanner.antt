-- How the program finds the tokens of a text, from the left. It need not be believed: what a text spells is said without it, and the two are
-- the same (in spelling/specs, SpeltScanned of Scanned.antt and ReadPlaced of TextTheorems.antt).
-- Assumes nothing.
use Rattle.std.specs.Prelude.{Bool, ◌&&◌, cond, List, [], ◌∷◌, ℕ, zero, suc, ◌+◌, ◌-◌, ◌≤◌, leb, eqb, length, drop, get_or}
use Rattle.table.specs.Ascii.{ascii}
use Rattle.table.specs.Lists.{same}
use Rattle.table.specs.Table.{letter_or_digit}
use Rattle.grammar.specs.Token.{Token, one_of, part, token}
use Rattle.grammar.specs.Kind as K

-- x lies from low to high
abbrev pub between : ℕ → ℕ → ℕ → Bool
between low high x = leb low x && leb x high

-- ---- bytes and runs

-- each is a token by itself
abbrev pub signs : List ℕ
signs = ascii "!&()+,?@[]{}"

-- a space or a line feed; a digit; a dot
abbrev pub is_space : ℕ → Bool
is_space b = one_of (0x20 ∷ 0x0A ∷ []) b

abbrev pub is_digit : ℕ → Bool
is_digit b = between 48 57 b

abbrev pub is_dot : ℕ → Bool
is_dot b = eqb b 46

-- what a byte can begin: a space or line feed, a-z, A-Z, 0-9, a dot, a minus, another sign, nothing
pub data Class : Type 0 where
  Space : Class
  Lower : Class
  Upper : Class
  Digit : Class
  Dot : Class
  Minus : Class
  Sign : Class
  Other : Class

unfoldable pub class_of : ℕ → Class
class_of b =
    cond (between 97 122 b) Lower
    (cond (between 65 90 b) Upper
    (cond (is_digit b) Digit
    (cond (is_space b) Space (cond (is_dot b) Dot (cond (eqb b 45) Minus (cond (one_of signs b) Sign Other))))))

-- how many bytes at the front of a list pass the test; where the longest run of such bytes from p on ends
unfoldable pub run_of : (ℕ → Bool) → List ℕ → ℕ
run_of f [] = 0
run_of f (b ∷ bs) = cond (f b) (1 + run_of f bs) 0

unfoldable pub run_end : (ℕ → Bool) → List ℕ → ℕ → ℕ
run_end f s p = p + run_of f (drop p s)

-- ---- tokens

-- a word that begins in lower case must be one of: end rec int text flag edition
unfoldable pub word_kind : List ℕ → ℕ
word_kind w =
    cond (same w (ascii "end")) (K.of "end")
    (cond (same w (ascii "rec")) (K.of "rec")
    (cond (same w (ascii "int")) (K.of "int")
    (cond (same w (ascii "text")) (K.of "text")
    (cond (same w (ascii "flag")) (K.of "flag") (cond (same w (ascii "edition")) K.edition_word K.no_token)))))

unfoldable pub word_token : List ℕ → ℕ → Token
word_token s a = token (word_kind (part s a (run_end letter_or_digit s a))) a (run_end letter_or_digit s a)

-- a name or label: one to eight bytes in all
unfoldable pub name_token : List ℕ → ℕ → Token
name_token s a = token (cond (leb (run_end letter_or_digit s a - a) 8) K.of_name K.no_token) a (run_end letter_or_digit s a)

-- a number that begins at a, with digits from d up to e: 0, or digits without a leading zero; a minus may not precede 0
unfoldable pub number_kind : List ℕ → ℕ → ℕ → ℕ → ℕ
number_kind s a d e =
    cond (eqb e d) K.no_token (cond (eqb (get_or s d 0) 48) (cond (eqb (e - a) 1) K.of_number K.no_token) K.of_number)

unfoldable pub number_token : List ℕ → ℕ → ℕ → Token
number_token s a d = token (number_kind s a d (run_end is_digit s d)) a (run_end is_digit s d)

-- one dot, or two; a longer run is malformed
unfoldable pub dots_token : List ℕ → ℕ → Token
dots_token s a =
    token (cond (eqb (run_end is_dot s a - a) 1) (K.of ".") (cond (eqb (run_end is_dot s a - a) 2) K.dots K.no_token)) a (run_end is_dot s a)

-- the token whose first byte, at a, is of a class
unfoldable pub begin_at : List ℕ → ℕ → Class → Token
begin_at s a Space = token K.no_token a (a + 1)
begin_at s a Lower = word_token s a
begin_at s a Upper = name_token s a
begin_at s a Digit = number_token s a a
begin_at s a Dot = dots_token s a
begin_at s a Minus = number_token s a (a + 1)
begin_at s a Sign = token (get_or s a 0) a (a + 1)
begin_at s a Other = token K.no_token a (a + 1)

-- the token at p, past the spaces there, or that the text ran out
unfoldable pub token_at : List ℕ → ℕ → Token
token_at s p =
    cond (leb (length s) (run_end is_space s p)) (token K.text_end (length s) (length s))
    (begin_at s (run_end is_space s p) (class_of (get_or s (run_end is_space s p) 0)))

-- the tokens from the left, the last of them that the text ran out; n bytes have at most n + 1
unfoldable pub tokens_from : ℕ → List ℕ → ℕ → List Token
tokens_from zero s p = []
tokens_from (suc n) s p = token_at s p ∷ cond (eqb (token_at s p).kind K.text_end) [] (tokens_from n s (token_at s p).end)

unfoldable pub tokens : List ℕ → List Token
tokens s = tokens_from (suc (length s)) s 0

-- a token's bytes lie in the text
pub record Spans (s : List ℕ) (t : Token) : Type 0 where
  pub forward : t.start ≤ t.end
  pub inside : t.end ≤ length s
