use mathlib.Core.List.{List}
use mathlib.Core.Path.{◌≡◌, ◌∙◌}
use Prim.Native.Nat.{ℕ, ◌+◌, ◌*◌, ◌^◌, ◌≤◌, ◌<◌}
use native.Mathlib.Omega.{arith}
use lib.IntN.{ℤ, nat_abs, ◌+ℤ◌, ◌-ℤ◌}
use lib.ListN.{length, set, length-set}
use Rattle.matrix.specs.Integer.{half}
use Rattle.matrix.specs.Matrix.{entry}
use Rattle.matrix.specs.Array.{Bounded, half_sums, half_pair}
use Rattle.matrix.specs.Laws.Array.{entry_set_same, entry_set_other, half_sums_case}
use Rattle.matrix.specs.Laws.Rows.{ColumnsDone, columns_more, columns_all}
use Rattle.matrix.proofs.half_sums.Goals as goal

module _ (m : List ℤ) (i j : ℕ) (ij : i < j) (hj : j < 6) (out : List ℤ) (c : ℕ) (hc : c < 6) (d : ColumnsDone (half_sums i j (entry m)) m c out) where
  -- column c is still as it was
  small : Bounded (2 ^ 30) (entry m) → (r : ℕ) → r < 6 → nat_abs (entry out r c) ≤ 2 ^ 30
  small b r hr = rw (d.left r c hr hc (omega arith)) (b.size r c hr hc)

  -- and is written
  turn : ColumnsDone (half_sums i j (entry m)) m (c + 1) (half_pair (i * 6 + c) (j * 6 + c) out)
  turn =
      columns_more (half_sums i j (entry m)) m c out (set first (j * 6 + c) y) hc d (length-set first (j * 6 + c) y ∙ long)
      (λ r s hs w. entry_set_other first j c y hc r s hs (λ _. w) ∙ entry_set_other out i c x hc r s hs (λ _. w))
      (λ r. half_sums_case i j (entry m) (omega arith) c (λ r z. r < 6 → entry (set first (j * 6 + c) y) r c ≡ z)
      (λ hi. entry_set_other first j c y hc i c hc (λ z _. absurd (omega arith)) ∙ entry_set_same out i c x hc hi d.long ∙ rw (at i hi, at j hj))
      (λ _. entry_set_same first j c y hc hj long ∙ rw (at j hj, at i (omega arith)))
      (λ r p q hr. entry_set_other first j c y hc r c hc (λ z _. q z) ∙ entry_set_other out i c x hc r c hc (λ z _. p z) ∙ at r hr) r)
    where
      x : ℤ
      x = half (entry out i c +ℤ entry out j c)

      y : ℤ
      y = half (entry out j c -ℤ entry out i c)

      first : List ℤ
      first = set out (i * 6 + c) x

      long : length first ≡ 36
      long = length-set out (i * 6 + c) x ∙ d.long

      at : (r : ℕ) → r < 6 → entry out r c ≡ entry m r c
      at r hr = d.left r c hr hc (omega arith)

pub loop-c-preserved : goal.loop-c-preserved
loop-c-preserved c =
    let a = c.args in
    let p = c.requires in
    rw c.half_pair.ensures (turn a.m.now a.i a.j p.0 p.1 c.loop-c.m c.loop-c.c c.loop-c-test.true c.loop-c.invariant)

pub returns : goal.returns
returns c = columns_all _ _ _ _ (omega arith) c.loop-c.invariant
