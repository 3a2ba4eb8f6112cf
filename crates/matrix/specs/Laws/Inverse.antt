-- The transpose of an orthogonal operator is its inverse, so that orthogonal factors can be cancelled, and has the same least exponent. All for
-- every exponent.
use Rattle.std.proofs.Common.{sym, ap, ◌∙◌, subst, arith}
use Rattle.std.specs.Prelude.{ℕ, pos, ◌<ℤ◌}
use Rattle.matrix.specs.Matrix.{δ, transpose}
use Rattle.matrix.specs.Operator.{raised, whole, Operator, times_operator, identity, inverse, SameOperator, Orthogonal, Proper, LeastExponent}
use Rattle.matrix.specs.Laws.Matrix.{product_id_l, product_id_r, transpose_product, orthogonal_δ}
use Rattle.matrix.specs.Laws.Determinant.{det_identity}
use Rattle.matrix.specs.Laws.Operator.{raised_twice, same_operator_refl, same_operator_sym, same_operator_trans, same_operator_of, times_same, times_assoc, inverse_orthogonal}

-- ---- the identity

pub identity_orthogonal : Orthogonal identity
identity_orthogonal = record { rows = orthogonal_δ 6 }

pub identity_proper : Proper identity
identity_proper = record { positive = subst (λ z. pos 0 <ℤ z) (sym (det_identity 6)) (record { lt = tt }) }

pub identity_times : (A : Operator) → SameOperator (times_operator identity A) A
identity_times A = same_operator_of (times_operator identity A) A (omega arith) (product_id_l 6 A.matrix)

pub times_identity : (A : Operator) → SameOperator (times_operator A identity) A
times_identity A = same_operator_of (times_operator A identity) A (omega arith) (product_id_r 6 A.matrix)

-- ---- the inverse

pub inverse_same : {A B : Operator} → SameOperator A B → SameOperator (inverse A) (inverse B)
inverse_same s = record { entries = λ i j hi hj. s.entries j i hj hi }

pub inverse_product : (A B : Operator) → SameOperator (inverse (times_operator A B)) (times_operator (inverse B) (inverse A))
inverse_product A B =
    same_operator_of (inverse (times_operator A B)) (times_operator (inverse B) (inverse A)) (omega arith)
    (λ i j hi hj. ap (λ X. X i j) (transpose_product 6 A.matrix B.matrix))

pub times_inverse : {A : Operator} → Orthogonal A → SameOperator (times_operator A (inverse A)) identity
unfolding raised
times_inverse {A} o = record { entries = λ i j hi hj. ap whole (o.rows i j hi hj) ∙ sym (raised_twice A.exponent (δ i j)) }

pub inverse_times : {A : Operator} → Orthogonal A → SameOperator (times_operator (inverse A) A) identity
inverse_times o = times_inverse (inverse_orthogonal o)

-- ---- factors that cancel

pub cancelled_left : {A : Operator} → Orthogonal A → (X : Operator) → SameOperator (times_operator (inverse A) (times_operator A X)) X
cancelled_left {A} o X =
    same_operator_trans (same_operator_sym (times_assoc (inverse A) A X)) (same_operator_trans (times_same (inverse_times o) (same_operator_refl X)) (identity_times X))

pub cancelled_right : {A : Operator} → Orthogonal A → (X : Operator) → SameOperator (times_operator (times_operator X A) (inverse A)) X
cancelled_right {A} o X =
    same_operator_trans (times_assoc X A (inverse A)) (same_operator_trans (times_same (same_operator_refl X) (times_inverse o)) (times_identity X))

pub cancel_left : {A X Y : Operator} → Orthogonal A → SameOperator (times_operator A X) (times_operator A Y) → SameOperator X Y
cancel_left {A} {X} {Y} o s =
    same_operator_trans (same_operator_sym (cancelled_left o X)) (same_operator_trans (times_same (same_operator_refl (inverse A)) s) (cancelled_left o Y))

-- ---- the least exponent

pub least_inverse : {A : Operator} {l : ℕ} → LeastExponent A l → LeastExponent (inverse A) l
least_inverse h = record {
  attained = let (N, s) = h.attained in (transpose N, inverse_same s);
  smallest = λ B s. h.smallest (inverse B) (inverse_same s);
}
