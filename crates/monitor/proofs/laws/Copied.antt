-- A copy eight bytes at a time: what a turn of the loop adds.
-- Assumes nothing.
use mathlib.Core.Path.{◌≡◌, sym, ap, ap₂, ◌∙◌}
use mathlib.Core.List.{List, ◌++◌}
use Rattle.std.proofs.Common.{append_assoc}
use Prim.Native.Nat.{ℕ, ◌+◌, ◌-◌, ◌≤◌}
use native.Mathlib.Omega.{arith}
use lib.ListN.{length, take, drop}
use lib.Seq.{take-append-le, drop-drop, take-take, take-add, drop-append-add, length-take-le, take-length}
use Rattle.message.specs.Make.{opening}

-- the first d bytes are copied
abbrev pub front : List ℕ → List ℕ → ℕ → List ℕ
front m o d = take d m ++ drop d o

-- x with the eight bytes of m from a place on in the place of its own
pub front_more : (m o : List ℕ) (d at : ℕ) {x y : List ℕ} {k : ℕ} → x ≡ front m o d → k ≡ 8 → y ≡ take k (drop at m) → at ≤ d → d ≤ at + 8
    → d ≤ length m → at + 8 ≤ length m → take at x ++ (y ++ drop k (drop at x)) ≡ front m o (at + 8)
front_more m o d at {x} {y} {k} q n e a b c h =
    rw (e, n, q, before) (sym (append_assoc (take at m) (take 8 (drop at m)) (drop 8 (drop at (front m o d)))) ∙ ap₂ (λ x y. x ++ y) (sym (take-add at 8 m)) after)
  where
    size : length (take d m) ≡ d
    size = length-take-le d m c

    before : take at (front m o d) ≡ take at m
    before = take-append-le at (take d m) (drop d o) (omega (arith, size)) ∙ take-take at d m a

    after : drop 8 (drop at (front m o d)) ≡ drop (at + 8) o
    after =
        drop-drop 8 at (front m o d) ∙ ap (λ k. drop k (front m o d)) past ∙ drop-append-add (take d m) (drop d o) (at + 8 - d) ∙ drop-drop (at + 8 - d) d o
        ∙ ap (λ k. drop k o) whole
      where
        past : at + 8 ≡ length (take d m) + (at + 8 - d)
        past = omega (arith, size)

        whole : d + (at + 8 - d) ≡ at + 8
        whole = omega arith

pub front_all : (m o : List ℕ) (d : ℕ) → d ≡ length m → front m o d ≡ opening m o
unfolding opening
front_all m o d e = ap (λ d. front m o d) e ∙ ap (λ x. x ++ drop (length m) o) (take-length m)
