-- The invariant: the product of the first n generators is in hand, and times the rest it is the whole.
use Prim.Native.Nat.{ℕ}
use mathlib.Core.List.{List}
use lib.IntN.{ℤ}
use lib.ListN.{drop}
use Rattle.matrix.specs.Matrix.{Matrix, Same, entry, product}
use Rattle.matrix.specs.Operator.{operator, Orthogonal}
use Rattle.clifford.specs.Columns.{columns_matrix}
use Rattle.reduction.specs.Reduction.{normal_form}
use Rattle.sheet.proofs.multiplied.Given as goal

-- m is the product of the first n of the generators gs, C being what stands behind them
pub record Going (gs : List ℕ) (C : Matrix) (m : List ℤ) (n : ℕ) : Type 0 where
  pub orthogonal : Orthogonal (operator n (entry m))
  pub whole : Same 6 (normal_form gs C).matrix (product 6 (entry m) (normal_form (drop n gs) C).matrix)

abbrev pub invariant-loop-number : goal.invariant-loop-number
invariant-loop-number l = Going l.numbers (columns_matrix l.columns) l.m l.number-index
