-- Operators that agree up to sign have the same count, L and letters; an operator and its negative have the other sign.
use Rattle.std.specs.Prelude.{◌≡◌, ◌⊎◌, List, ℕ, ◌+◌, ◌%◌, ℤ, negsuc, length}
use Rattle.std.proofs.Common.{ap, ap₂, ◌∙◌, inl, inr, ⊎_elim, arith}
use Rattle.matrix.specs.Matrix.{entry, scaled}
use Rattle.matrix.specs.Operator.{operator, SameUpToSign, Orthogonal, Proper}
use Rattle.matrix.specs.declared.Scaled.{Scaled}
use Rattle.matrix.specs.Array.{least_form}
use Rattle.matrix.specs.Laws.Operator.{same_operator_trans}
use Rattle.matrix.specs.Laws.Array.{length_listed, same_least_form}
use Rattle.clifford.specs.Columns.{column_bytes, signed}
use Rattle.reduction.specs.Reduction.{count, loose, loose_cuts, taken, generators, remainder}
use Rattle.reduction.specs.Laws.NormalForm.{cutting}
use Rattle.reduction.specs.Laws.Negative.{negative_of, negative_same, negative_array_orthogonal, count_negative, taken_negative}
use Rattle.reduction.specs.Laws.Loose.{loose_negative}
use Rattle.sheet_bytes.specs.Laws.Sheet.{columns_left, columns_negative}
use Rattle.letter.specs.declared.Gate.{Gate}
use Rattle.letter.specs.Composition.{identity_columns}
use Rattle.gate_list.specs.List.{gate_list, signs, list_of, sign_of_list}
use Rattle.gate_list.specs.Laws.List.{identity_clifford, left_clifford}
use Rattle.gate_list.specs.Laws.Negative.{stretches_negated, signs_negated}

module _ (k : ℕ) (m : List ℤ) (o : Orthogonal (operator k (entry m))) (p : Proper (operator k (entry m))) where
  list_negative : list_of k (negative_of m) ≡ list_of k m
  list_negative =
      ap₂ gate_list (taken_negative k m o) (columns_negative k m o)
      ∙ stretches_negated identity_columns (taken k m) (columns_left k m) identity_clifford (cutting k m o).numbers (left_clifford k m o p)

  pub sign_negative : sign_of_list k (negative_of m) + sign_of_list k m ≡ 1
  sign_negative =
      let e : signs identity_columns (taken k (negative_of m)) (columns_left k (negative_of m)) ≡ signs identity_columns (taken k m) (signed 1 (columns_left k m)) =
      ap₂ (signs identity_columns) (taken_negative k m o) (columns_negative k m o) in
      let h = signs_negated identity_columns (taken k m) (columns_left k m) identity_clifford (cutting k m o).numbers (left_clifford k m o p) in
      rw e (parities (signs identity_columns (taken k m) (signed 1 (columns_left k m))) (signs identity_columns (taken k m) (columns_left k m)) h)
    where
      parities : (x y : ℕ) → (x + y) % 2 ≡ 1 → x % 2 + y % 2 ≡ 1
      parities x y h = omega arith

module _ (k l : ℕ) (m n : List ℤ) (hm : length m ≡ 36) (hn : length n ≡ 36) (o : Orthogonal (operator k (entry m))) (p : Orthogonal (operator l (entry n))) where
  -- the least form is that of the one, or that of its negative
  least_up_to_sign : SameUpToSign (operator k (entry m)) (operator l (entry n)) → (least_form k m ≡ least_form l n) ⊎ (least_form k m ≡ least_form l (negative_of n))
  least_up_to_sign (inl h) = inl (same_least_form k l m n hm hn o p h)
  least_up_to_sign (inr h) =
      inr (same_least_form k l m (negative_of n) hm (length_listed (scaled (negsuc 0) (entry n))) o (negative_array_orthogonal l n p) (same_operator_trans h (negative_same l n)))

  pub same_count : SameUpToSign (operator k (entry m)) (operator l (entry n)) → count k m ≡ count l n
  same_count h = ⊎_elim (λ e. ap (λ f. f.exponent) e) (λ e. ap (λ f. f.exponent) e ∙ count_negative l n p) (least_up_to_sign h)

  pub same_loose : SameUpToSign (operator k (entry m)) (operator l (entry n)) → loose k m ≡ loose l n
  same_loose h = ⊎_elim (λ e. ap (λ f. loose_cuts f.exponent f.matrix) e) (λ e. ap (λ f. loose_cuts f.exponent f.matrix) e ∙ loose_negative l n p) (least_up_to_sign h)

  pub same_letters : Proper (operator l (entry n)) → SameUpToSign (operator k (entry m)) (operator l (entry n)) → list_of k m ≡ list_of l n
  same_letters q h = ⊎_elim (λ e. ap listed e) (λ e. ap listed e ∙ list_negative l n p q) (least_up_to_sign h)
    where
      listed : Scaled → List Gate
      listed f = gate_list (generators f.exponent f.matrix) (column_bytes (entry (remainder f.exponent f.matrix)))
