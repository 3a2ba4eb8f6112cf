-- The invariant: `sum` holds the sum of the first c products. Six products of 2^60 fit.
use mathlib.Core.Path.{◌≡◌}
use Prim.Native.Nat.{ℕ, ◌+◌, ◌*◌, ◌^◌, ◌≤◌, ◌<◌}
use native.Mathlib.Omega.{arith}
use lib.Dec.{lit<}
use lib.IntN.{ℤ, ◌+ℤ◌, ◌*ℤ◌}
use mathlib.Core.List.{List}
use mir.Syntax.{w64}
use mir.Val.{to_z, of_z}
use Rattle.matrix.specs.Range as range
use Rattle.matrix.specs.Matrix.{entry}
use Rattle.matrix.specs.Array.{Bounded}
use Rattle.matrix.specs.Laws.Integer.{nat_abs_mul_le}
use Rattle.matrix.specs.Laws.Sum.{sum_bound}
use Rattle.matrix.specs.Laws.Machine.{Sized, again, stored, add, mul}
use Rattle.matrix.proofs.row_product.Given as goal

-- the product of the entries in column s
abbrev pub term : List ℤ → ℕ → ℕ → ℕ → ℤ
term m i j s = entry m i s *ℤ entry m j s

-- what a turn computes
module _ (m : List ℤ) (i j s x : ℕ) (hi : i < 6) (hj : j < 6) (hs : s < 6) (b : Bounded (2 ^ 30) (entry m)) (e : to_z w64 x ≡ range.sum s (term m i j)) where
  pub term_bound : (c : ℕ) → c < 6 → lib.IntN.nat_abs (term m i j c) ≤ 2 ^ 60
  term_bound c h = nat_abs_mul_le (entry m i c) (entry m j c) (b.size i c hi h) (b.size j c hj h)

  pub product : Sized (2 ^ 60) (to_z w64 (of_z w64 (entry m i s)) *ℤ to_z w64 (of_z w64 (entry m j s))) (term m i j s)
  product = mul (stored (entry m i s) (b.size i s hi hs) (lit< tt)) (stored (entry m j s) (b.size j s hj hs) (lit< tt))

  pub so_far : Sized (s * 2 ^ 60) (to_z w64 x) (range.sum s (term m i j))
  so_far = record { is = e; le = sum_bound (2 ^ 60) s (term m i j) (λ c h. term_bound c (omega arith)) }

  pub next : Sized (s * 2 ^ 60 + 2 ^ 60) (to_z w64 x +ℤ to_z w64 (of_z w64 (to_z w64 (of_z w64 (entry m i s)) *ℤ to_z w64 (of_z w64 (entry m j s))))) (range.sum s (term m i j) +ℤ term m i j s)
  next = add so_far (again product (lit< tt))

abbrev pub invariant-loop-c : goal.invariant-loop-c
invariant-loop-c l = l.sum ≡ range.sum l.c (term l.m l.i l.j)
