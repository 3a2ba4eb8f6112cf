-- The sign of what remains tells whether the operator is proper: "A cut keeps its sign, so the remaining Clifford shows it."
use Rattle.std.specs.Prelude.{◌≡◌, refl, List, ℕ, ◌≤◌, ℤ, Err}
use Rattle.matrix.specs.Matrix.{entry}
use Rattle.matrix.specs.Operator.{operator, SameOperator, Orthogonal}
use Rattle.matrix.specs.Laws.Test.{T_true, true_T, same_test_lem}
use Rattle.matrix.specs.Laws.Operator.{same_operator_of, same_operator_sym, same_proper}
use Rattle.clifford.specs.Columns.{columns_matrix, column_bytes, is_even}
use Rattle.clifford.specs.Laws.Columns.{Permutation, matrix_permutation, matrix_columns}
use Rattle.sign.specs.Laws.Sign.{even_proper, proper_even}
use Rattle.reduction.specs.Reduction.{remaining}
use Rattle.reduction.specs.Laws.NormalForm.{cutting}
use Rattle.acceptance.specs.Acceptance.{is_proper}
use Rattle.acceptance.specs.Cutting.{CutAs}

module _ (k : ℕ) (m : List ℤ) (o : Orthogonal (operator k (entry m))) where
  -- the columns that remain, and the matrix that remains
  columns_same : SameOperator (operator 0 (columns_matrix (column_bytes (entry (remaining k m))))) (operator 0 (entry (remaining k m)))
  columns_same = same_operator_of _ _ refl (matrix_columns (entry (remaining k m)) (cutting k m o).orthogonal)

  pub even_is_proper : is_even (column_bytes (entry (remaining k m))) ≡ is_proper (entry m)
  even_is_proper =
      same_test_lem _ _
      (λ e. T_true _ ((cutting k m o).proper (same_proper columns_same (even_proper _ perm e))).positive.lt)
      (λ f. proper_even _ perm (same_proper (same_operator_sym columns_same) ((cutting k m o).clifford (record { positive = record { lt = true_T f } })).proper))
    where
      perm : Permutation (column_bytes (entry (remaining k m)))
      perm = matrix_permutation (entry (remaining k m)) (cutting k m o).orthogonal

-- a refusal leaves the rest open
pub refused_as : {n : ℕ} (k : ℕ) (m : List ℤ) → 1 ≤ n → CutAs n k m (Err n)
refused_as k m h = (refl, h)
