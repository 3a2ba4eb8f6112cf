-- Cutting −M takes the generators that cutting M takes, and leaves the negative of what M leaves (document 02, P2: "−M is M with global
-- phase i").
use Rattle.std.specs.Prelude.{◌≡◌, List, ℕ, ℤ, negsuc, ◌*ℤ◌}
use Rattle.std.proofs.Common.{sym, ap, ◌∙◌}
use Rattle.matrix.specs.Matrix.{Matrix, δ, scaled, entry, listed}
use Rattle.matrix.specs.Operator.{operator, negative, SameOperator, Orthogonal}
use Rattle.matrix.specs.Laws.Matrix.{product_id_r, product_scaled_r}
use Rattle.matrix.specs.Laws.Operator.{negative_orthogonal, same_orthogonal}
use Rattle.matrix.specs.Laws.Inverse.{identity_orthogonal}
use Rattle.matrix.specs.Laws.Array.{listed_cong, listed_same}
use Rattle.reduction.specs.Reduction.{count, taken, remaining}
use Rattle.reduction.specs.Laws.Right.{times_right, count_right, taken_right, remaining_right}

-- the array of −M
abbrev pub negative_of : List ℤ → List ℤ
negative_of m = listed (scaled (negsuc 0) (entry m))

pub negative_same : (k : ℕ) (m : List ℤ) → SameOperator (negative (operator k (entry m))) (operator k (entry (negative_of m)))
negative_same k m = listed_same (negative (operator k (entry m)))

-- −1 as a signed permutation on the right
abbrev pub minus_one : Matrix
minus_one = scaled (negsuc 0) δ

pub minus_one_orthogonal : Orthogonal (operator 0 minus_one)
minus_one_orthogonal = negative_orthogonal identity_orthogonal

pub negative_right : (m : List ℤ) → negative_of m ≡ times_right m minus_one
negative_right m =
    listed_cong (scaled (negsuc 0) (entry m)) _
    (λ i j hi hj. sym (ap (λ X. X i j) (product_scaled_r 6 (negsuc 0) (entry m) δ) ∙ ap (λ x. negsuc 0 *ℤ x) (product_id_r 6 (entry m) i j hi hj)))

module _ (k : ℕ) (m : List ℤ) (o : Orthogonal (operator k (entry m))) where
  pub negative_array_orthogonal : Orthogonal (operator k (entry (negative_of m)))
  negative_array_orthogonal = same_orthogonal (negative_same k m) (negative_orthogonal o)

  pub count_negative : count k (negative_of m) ≡ count k m
  count_negative = ap (count k) (negative_right m) ∙ count_right minus_one minus_one_orthogonal k m o

  pub taken_negative : taken k (negative_of m) ≡ taken k m
  taken_negative = ap (taken k) (negative_right m) ∙ taken_right minus_one minus_one_orthogonal k m o

  pub remaining_negative : remaining k (negative_of m) ≡ negative_of (remaining k m)
  remaining_negative = ap (remaining k) (negative_right m) ∙ remaining_right minus_one minus_one_orthogonal k m o ∙ sym (negative_right (remaining k m))
