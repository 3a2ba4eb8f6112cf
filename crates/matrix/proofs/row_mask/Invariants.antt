-- The invariant: `mask` has the bits of the columns from c on, that of column c lowest.
use mathlib.Core.Path.{◌≡◌}
use Prim.Native.Nat.{ℕ, ◌-◌}
use mathlib.Core.List.{List}
use lib.IntN.{ℤ}
use Rattle.matrix.specs.Range.{bits}
use Rattle.matrix.specs.Integer.{parity}
use Rattle.matrix.specs.Matrix.{entry}
use Rattle.matrix.proofs.row_mask.Given as goal

abbrev pub odd_at_lem : List ℤ → ℕ → ℕ → ℕ
odd_at_lem m r c = parity (entry m r c)

abbrev pub invariant-loop-c : goal.invariant-loop-c
invariant-loop-c l = l.mask ≡ bits (odd_at_lem l.m l.r) l.c (6 - l.c)
