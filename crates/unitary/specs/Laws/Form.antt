-- The six-by-six form multiplies, and it is unitary and real up to a phase.
use Rattle.std.specs.Prelude.{◌≡◌, refl, [], ◌∷◌, pos}
use Rattle.std.proofs.Common.{sym, ◌∙◌, ap, ap₂}
use Rattle.matrix.specs.Laws.Ring.{var, num, ◌:*◌}
use Rattle.gaussian.specs.declared.Gaussian.{Gaussian}
use Rattle.gaussian.specs.Gaussian.{real, ◌⊗◌, Matrix, Same, identity, product, adjoint, transpose, scaled}
use Rattle.unitary.specs.Form.{compound, basis, six_form}
use Rattle.gaussian.specs.Laws.Gaussian.{ringᴳ}
use Rattle.gaussian.specs.Laws.Matrix.{product_cong, product_assoc, product_scaled_l, product_scaled_r, product_scalar_l, product_scalar_r, adjoint_product, adjoint_adjoint, transpose_product, product_id_l, same_refl}
use Rattle.unitary.specs.Laws.Finite.{basis_rows_lem, basis_columns, basis_dual, dual_basis, dual, conjugate, compound_identity}
use Rattle.unitary.specs.Laws.Compound.{compound_cong, compound_scaled, compound_adjoint, compound_product, pairing, pairing_dual}

abbrev two : Gaussian
two = real (pos 2)

pub six_cong : {N M : Matrix} → Same 4 N M → Same 6 (six_form N) (six_form M)
six_cong h = product_cong (same_refl 6 (adjoint basis)) (product_cong (compound_cong h) (same_refl 6 basis))

pub six_scaled : (c : Gaussian) (N : Matrix) → six_form (scaled c N) ≡ scaled (c ⊗ c) (six_form N)
six_scaled c N =
    ap (λ X. product 6 (adjoint basis) (product 6 X basis)) (compound_scaled c N)
    ∙ ap (product 6 (adjoint basis)) (product_scaled_l 6 (c ⊗ c) (compound N) basis)
    ∙ product_scaled_r 6 (c ⊗ c) (adjoint basis) (product 6 (compound N) basis)

pub six_adjoint : (N : Matrix) → six_form (adjoint N) ≡ adjoint (six_form N)
six_adjoint N =
    ap (λ X. product 6 (adjoint basis) (product 6 X basis)) (compound_adjoint N)
    ∙ sym (product_assoc 6 (adjoint basis) (adjoint (compound N)) basis)
    ∙ ap₂ (product 6) (sym (adjoint_product 6 (compound N) basis)) (sym (adjoint_adjoint basis))
    ∙ sym (adjoint_product 6 (adjoint basis) (product 6 (compound N) basis))

pub six_product : (N M : Matrix) → Same 6 (product 6 (six_form N) (six_form M)) (scaled (real (pos 2)) (six_form (product 4 N M)))
six_product N M i k hi hk =
    ap (λ X. X i k) (product_assoc 6 (adjoint basis) (product 6 (compound N) basis) (six_form M))
    ∙ product_cong (same_refl 6 (adjoint basis)) inner i k hi hk
    ∙ ap (λ X. X i k) (product_scaled_r 6 two (adjoint basis) (product 6 (compound N) (product 6 (compound M) basis)))
    ∙ ap (λ X. two ⊗ product 6 (adjoint basis) X i k)
    (sym (product_assoc 6 (compound N) (compound M) basis) ∙ ap (λ Y. product 6 Y basis) (sym (compound_product N M)))
  where
    middle : Same 6 (product 6 basis (six_form M)) (scaled two (product 6 (compound M) basis))
    middle i k hi hk =
        ap (λ X. X i k) (sym (product_assoc 6 basis (adjoint basis) (product 6 (compound M) basis)))
        ∙ product_scalar_l 6 two (product 6 basis (adjoint basis)) (product 6 (compound M) basis) basis_rows_lem i k hi hk

    inner : Same 6 (product 6 (product 6 (compound N) basis) (six_form M)) (scaled two (product 6 (compound N) (product 6 (compound M) basis)))
    inner i k hi hk =
        ap (λ X. X i k) (product_assoc 6 (compound N) basis (six_form M))
        ∙ product_cong (same_refl 6 (compound N)) middle i k hi hk
        ∙ ap (λ X. X i k) (product_scaled_r 6 two (compound N) (product 6 (compound M) basis))

pub six_identity : Same 6 (six_form identity) (scaled (real (pos 2)) identity)
six_identity i k hi hk =
    product_cong (same_refl 6 (adjoint basis)) (λ i k hi hk. product_cong compound_identity (same_refl 6 basis) i k hi hk ∙ product_id_l 6 basis i k hi hk) i k hi hk
    ∙ basis_columns i k hi hk

-- back from the form to the minors
pub six_back : (N : Matrix) → Same 6 (product 6 basis (product 6 (six_form N) (adjoint basis))) (scaled two (scaled two (compound N)))
six_back N i k hi hk =
    product_cong (same_refl 6 basis) right i k hi hk
    ∙ ap (λ X. X i k) (product_scaled_r 6 two basis (product 6 (adjoint basis) (compound N)))
    ∙ ap (λ x. two ⊗ x)
    (ap (λ X. X i k) (sym (product_assoc 6 basis (adjoint basis) (compound N))) ∙ product_scalar_l 6 two (product 6 basis (adjoint basis)) (compound N) basis_rows_lem i k hi hk)
  where
    right : Same 6 (product 6 (six_form N) (adjoint basis)) (scaled two (product 6 (adjoint basis) (compound N)))
    right i k hi hk =
        ap (λ X. X i k) (product_assoc 6 (adjoint basis) (product 6 (compound N) basis) (adjoint basis) ∙ ap (product 6 (adjoint basis)) (product_assoc 6 (compound N) basis (adjoint basis)))
        ∙ product_cong (same_refl 6 (adjoint basis)) (product_scalar_r 6 two (compound N) (product 6 basis (adjoint basis)) basis_rows_lem) i k hi hk
        ∙ ap (λ X. X i k) (product_scaled_r 6 two (adjoint basis) (compound N))

-- ---- of a unitary

module _ (N : Matrix) (q : Gaussian) (o : Same 4 (product 4 N (adjoint N)) (scaled q identity)) where
  compound_rows : Same 6 (product 6 (compound N) (adjoint (compound N))) (scaled (q ⊗ q) identity)
  compound_rows i k hi hk =
      ap (λ X. product 6 (compound N) X i k) (sym (compound_adjoint N))
      ∙ ap (λ X. X i k) (sym (compound_product N (adjoint N)))
      ∙ compound_cong o i k hi hk
      ∙ ap (λ X. X i k) (compound_scaled q identity)
      ∙ ap (λ x. q ⊗ q ⊗ x) (compound_identity i k hi hk)

  pub six_rows : Same 6 (product 6 (six_form N) (adjoint (six_form N))) (scaled (real (pos 4) ⊗ (q ⊗ q)) identity)
  six_rows i k hi hk =
      ap (λ X. product 6 (six_form N) X i k) (sym (six_adjoint N))
      ∙ six_product N (adjoint N) i k hi hk
      ∙ ap (λ x. two ⊗ x) (six_cong o i k hi hk ∙ ap (λ X. X i k) (six_scaled q identity) ∙ ap (λ x. q ⊗ q ⊗ x) (six_identity i k hi hk))
      ∙ ringᴳ (q ∷ identity i k ∷ []) (num (pos 2) :* (var 0 :* var 0 :* (num (pos 2) :* var 1))) (num (pos 4) :* (var 0 :* var 0) :* var 1) refl refl

  -- with d the determinant: d times the conjugate of the form is a number times the form
  dual_rows : Same 6 (scaled (pairing N 0 5) (product 6 dual (adjoint (compound N)))) (scaled (q ⊗ q) (product 6 (transpose (compound N)) dual))
  dual_rows i k hi hk =
      let C = compound N in
      ap (λ X. X i k) (sym (product_scaled_l 6 (pairing N 0 5) dual (adjoint C)))
      ∙ sym (product_cong (pairing_dual N) (same_refl 6 (adjoint C)) i k hi hk)
      ∙ ap (λ X. X i k) (product_assoc 6 (transpose C) (product 6 dual C) (adjoint C) ∙ ap (product 6 (transpose C)) (product_assoc 6 dual C (adjoint C)))
      ∙ product_cong (same_refl 6 (transpose C)) (product_scalar_r 6 (q ⊗ q) dual (product 6 C (adjoint C)) compound_rows) i k hi hk
      ∙ ap (λ X. X i k) (product_scaled_r 6 (q ⊗ q) (transpose C) dual)

  pub six_conjugate : Same 6 (scaled (pairing N 0 5) (conjugate (six_form N))) (scaled (q ⊗ q) (six_form N))
  six_conjugate i k hi hk =
      let C = compound N in
      let B = basis in
      let d = pairing N 0 5 in
      ap (λ X. d ⊗ X k i) (sym (six_adjoint N) ∙ ap (λ X. product 6 (adjoint B) (product 6 X B)) (compound_adjoint N))
      ∙ ap (λ x. d ⊗ x) (sym (product_cong basis_dual (same_refl 6 (product 6 (adjoint C) B)) k i hk hi))
      ∙ ap (λ X. d ⊗ X k i) (product_assoc 6 (transpose B) dual (product 6 (adjoint C) B) ∙ ap (product 6 (transpose B)) (sym (product_assoc 6 dual (adjoint C) B)))
      ∙ ap (λ X. X k i) (sym (product_scaled_r 6 d (transpose B) (product 6 (product 6 dual (adjoint C)) B)) ∙ ap (product 6 (transpose B)) (sym (product_scaled_l 6 d (product 6 dual (adjoint C)) B)))
      ∙ product_cong (same_refl 6 (transpose B)) (product_cong dual_rows (same_refl 6 B)) k i hk hi
      ∙ ap (λ X. X k i) (ap (product 6 (transpose B)) (product_scaled_l 6 (q ⊗ q) (product 6 (transpose C) dual) B) ∙ product_scaled_r 6 (q ⊗ q) (transpose B) (product 6 (product 6 (transpose C) dual) B))
      ∙ ap (λ X. q ⊗ q ⊗ product 6 (transpose B) X k i) (product_assoc 6 (transpose C) dual B)
      ∙ ap (λ x. q ⊗ q ⊗ x) (product_cong (same_refl 6 (transpose B)) (product_cong (same_refl 6 (transpose C)) dual_basis) k i hk hi)
      ∙ ap (λ X. q ⊗ q ⊗ X k i)
      (sym (transpose_product 6 (adjoint B) (product 6 C B) ∙ ap (λ X. product 6 X (conjugate B)) (transpose_product 6 C B) ∙ product_assoc 6 (transpose B) (transpose C) (conjugate B)))
