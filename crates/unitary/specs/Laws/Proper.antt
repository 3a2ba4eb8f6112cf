-- The six-by-six form of a unitary is proper: it or its mirror image is, and then a list multiplies to it, and none does to the mirror image.
use Rattle.std.specs.Prelude.{◌≡◌, refl, ◌⊎◌, Bool, true, false, cond, ℕ, zero, suc, ◌<◌, ℤ, pos, negsuc, ◌*ℤ◌, ◌<ℤ◌}
use Rattle.std.proofs.Common.{sym, ◌∙◌, ap, subst, inl, inr, ⊎_elim, add-zero}
use Rattle.std.proofs.Math.IntN.{*ℤ_comm, pow}
use Rattle.matrix.specs.Range.{sum, every_from}
use Rattle.matrix.specs.Matrix.{Matrix, δ, entry, listed}
use Rattle.matrix.specs.Determinant.{det, minor}
use Rattle.matrix.specs.Operator.{Operator, operator, times_operator, SameOperator, Orthogonal, Proper}
use Rattle.matrix.specs.Array.{least_form, is_orthogonal, operator_of}
use Rattle.matrix.specs.Laws.Integer.{*ℤ-assoc, *ℤ-unit-l, *ℤ-left-comm, times_positive}
use Rattle.matrix.specs.Laws.Sum.{sum_cong, mul_sum, sum_δ_r}
use Rattle.matrix.specs.Laws.Determinant.{det_cong}
use Rattle.matrix.specs.Laws.Operator.{same_operator_refl, same_operator_sym, same_operator_trans, same_operator_of, times_same, times_orthogonal, same_orthogonal, same_proper}
use Rattle.matrix.specs.Laws.Array.{orthogonal_sound, listed_same, least_form_lem, least_orthogonal}
use Rattle.clifford.specs.Columns.{columns_matrix, column_bytes, is_even}
use Rattle.clifford.specs.Laws.Columns.{matrix_columns, matrix_permutation}
use Rattle.sign.specs.Laws.Sign.{columns_det}
use Rattle.reduction.specs.Reduction.{remainder}
use Rattle.reduction.specs.Laws.NormalForm.{reduce}
use Rattle.gate_list.specs.Laws.List.{some_list}
use Rattle.unitary.specs.Unitary.{Quotient, Unitary}
use Rattle.unitary.specs.Form.{form_at, Real}
use Rattle.unitary.specs.Laws.Shape.{form_orthogonal}
use Rattle.unitary.specs.Laws.Mirror.{sign_at, mirrored, mirror}
use Rattle.unitary.specs.Laws.Compare.{not_reflected}

-- ---- mirror images

mirrored_is : (s : ℤ) (A : Operator) → SameOperator (times_operator A (operator 0 (mirror s))) (mirrored s A)
mirrored_is s A =
    same_operator_of (times_operator A (operator 0 (mirror s))) (mirrored s A) (add-zero A.exponent)
    (λ r c hr hc.
    sum_cong (λ j hj. sym (*ℤ-assoc (A.matrix r j) (sign_at s j) (δ j c))) ∙ sum_δ_r 6 c (λ j. A.matrix r j *ℤ sign_at s j) hc ∙ *ℤ_comm (A.matrix r c) (sign_at s c))

mirrored_same : (s : ℤ) {A B : Operator} → SameOperator A B → SameOperator (mirrored s A) (mirrored s B)
mirrored_same s {A} {B} h =
    same_operator_trans (same_operator_sym (mirrored_is s A)) (same_operator_trans (times_same h (same_operator_refl (operator 0 (mirror s)))) (mirrored_is s B))

mirror_orthogonal : Orthogonal (operator 0 (mirror (negsuc 0)))
unfolding is_orthogonal every_from sum δ
mirror_orthogonal = orthogonal_sound 0 (mirror (negsuc 0)) refl

mirrored_orthogonal : (A : Operator) → Orthogonal A → Orthogonal (mirrored (negsuc 0) A)
mirrored_orthogonal A o = same_orthogonal (mirrored_is (negsuc 0) A) (times_orthogonal o mirror_orthogonal)

-- the first column negated
negated : Matrix → Matrix
negated M r zero = negsuc 0 *ℤ M r zero
negated M r (suc c) = M r (suc c)

negated_det : (M : Matrix) → det 6 (negated M) ≡ negsuc 0 *ℤ det 6 M
unfolding det negated
negated_det M =
    sum_cong (λ i hi. ap (λ x. pow (negsuc 0) i *ℤ x) (*ℤ-assoc (negsuc 0) (M i 0) (det 5 (minor M i))) ∙ *ℤ-left-comm (pow (negsuc 0) i) (negsuc 0) (M i 0 *ℤ det 5 (minor M i)))
    ∙ sym (mul_sum 6 (negsuc 0) (λ i. pow (negsuc 0) i *ℤ (M i 0 *ℤ det 5 (minor M i))))

mirrored_det : (A : Operator) → det 6 (mirrored (negsuc 0) A).matrix ≡ negsuc 0 *ℤ det 6 A.matrix
unfolding negated
mirrored_det A = det_cong 6 (mirrored (negsuc 0) A).matrix (negated A.matrix) same ∙ negated_det A.matrix
  where
    same : (r c : ℕ) → r < 6 → c < 6 → sign_at (negsuc 0) c *ℤ A.matrix r c ≡ negated A.matrix r c
    same r zero hr hc = refl
    same r (suc c) hr hc = *ℤ-unit-l (A.matrix r (suc c))

-- ---- one of the two is proper

proper_or : (A : Operator) → Orthogonal A → Proper A ⊎ Proper (mirrored (negsuc 0) A)
proper_or A o =
    let k = A.exponent in
    let m = listed A.matrix in
    let o' : Orthogonal (operator k (entry m)) = same_orthogonal (listed_same A) o in
    let f = least_form_lem k m in
    let g = least_form k m in
    let t = reduce g.exponent g.matrix (least_orthogonal k m o') f.reduced in
    let C = entry (remainder g.exponent g.matrix) in
    let (n, p, e) = t.sign in
    let back : SameOperator (operator_of g) A = same_operator_trans (same_operator_sym f.same) (same_operator_sym (listed_same A)) in
    let q : det 6 C ≡ cond (is_even (column_bytes C)) (pos 1) (negsuc 0) =
    sym (det_cong 6 (columns_matrix (column_bytes C)) C (matrix_columns C t.orthogonal)) ∙ columns_det (column_bytes C) (matrix_permutation C t.orthogonal) in
    go (is_even (column_bytes C)) n p (operator_of g) back (e ∙ ap (λ x. pos n *ℤ x) q)
  where
    go : (b : Bool) (n : ℕ) → 0 < n → (G : Operator) → SameOperator G A → det 6 G.matrix ≡ pos n *ℤ cond b (pos 1) (negsuc 0) → Proper A ⊎ Proper (mirrored (negsuc 0) A)
    go true n p G s e = inl (same_proper s (record { positive = subst (λ z. pos 0 <ℤ z) (sym e) (times_positive n (pos 1) p (record { lt = tt })) }))
    go false n p G s e =
        inr
        (same_proper (mirrored_same (negsuc 0) s)
        (record {
          positive = subst (λ z. pos 0 <ℤ z) (sym (mirrored_det G ∙ ap (λ x. negsuc 0 *ℤ x) e ∙ *ℤ-left-comm (negsuc 0) (pos n) (negsuc 0)))
              (times_positive n (pos 1) p (record { lt = tt }));
        }))

pub form_proper : (U : Quotient) → Unitary U → (t : ℕ) → Real t U → Proper (form_at t U)
form_proper U o t h = ⊎_elim (λ p. p) (λ p. absurd (reflected p)) (proper_or (form_at t U) (form_orthogonal U o t h))
  where
    reflected : Proper (mirrored (negsuc 0) (form_at t U)) → ⊥
    reflected p =
        let (w, m, n) = some_list (mirrored_orthogonal (form_at t U) (form_orthogonal U o t h)) p in
        not_reflected U o t h w m.same
