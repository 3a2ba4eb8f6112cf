-- The invariant: the bytes from i on decide.
use Rattle.std.specs.Prelude.{Some, None}
use mathlib.Core.Path.{◌≡◌, sym, ap, ap₂, ◌∙◌}
use mathlib.Core.Bool.{cond, ◌&&◌}
use mathlib.Core.List.{List}
use Prim.Native.Nat.{ℕ, ◌+◌, ◌-◌, ◌≤◌, ◌<◌}
use native.Mathlib.Numerals.{add-one}
use native.Mathlib.Omega.{arith}
use lib.Dec.{eqb}
use lib.ListN.{length, get_or, drop, length-drop}
use lib.Seq.{drop-cons, get_or-drop}
use borrow.Author.Tests.{eq-eqb, ne_eqb}
use Rattle.qasm_read.specs.Statements.{begins}
use Rattle.qasm_read.proofs.after.Given as goal

pub begins_next : (d l : List ℕ) (i : ℕ) → i < length d → i < length l → begins (drop i d) (drop i l) ≡ (eqb (get_or d i 0) (get_or l i 0) && begins (drop (i + 1) d) (drop (i + 1) l))
begins_next d l i h k = ap₂ begins (drop-cons d i 0 h) (drop-cons l i 0 k) ∙ ap (λ n. eqb (get_or d i 0) (get_or l i 0) && begins (drop n d) (drop n l)) (sym (add-one i))

module _ (bs : List ℕ) (at : ℕ) (l : List ℕ) where
  pub record Going (i : ℕ) : Type 0 where
    pub inside : i ≤ length l
    pub room : length l ≤ length bs - at
    pub rest : begins (drop at bs) l ≡ begins (drop i (drop at bs)) (drop i l)

  module _ (i : ℕ) (s : Going i) (h : i < length l) where
    pub next : begins (drop at bs) l ≡ (eqb (get_or bs (at + i) 0) (get_or l i 0) && begins (drop (i + 1) (drop at bs)) (drop (i + 1) l))
    next =
        let r = s.room in
        let d = length-drop at bs in
        s.rest ∙ begins_next (drop at bs) l i (omega arith) h ∙ ap (λ x. eqb x (get_or l i 0) && begins (drop (i + 1) (drop at bs)) (drop (i + 1) l)) (get_or-drop at bs i 0)

    pub other : (get_or bs (at + i) 0 ≡ get_or l i 0 → ⊥) → None ≡ cond (begins (drop at bs) l) (Some (at + length l)) None
    other n = rw (next, ne_eqb (get_or bs (at + i) 0) (get_or l i 0) n)

    pub turn : get_or bs (at + i) 0 ≡ get_or l i 0 → Going (i + 1)
    turn e = record { inside = omega arith; room = s.room; rest = next ∙ rw (eq-eqb (get_or bs (at + i) 0) (get_or l i 0) e) }

abbrev pub invariant-loop-i : goal.invariant-loop-i
invariant-loop-i l = Going l.text l.at l.line l.i
