-- Products of unitaries are unitary; so the matrix of a list of plain gates is, by its rows and by its columns.
use Rattle.std.specs.Prelude.{◌≡◌, List, [], ◌∷◌, ℕ}
use Rattle.std.proofs.Common.{sym, ◌∙◌, ap, ap₂}
use Rattle.matrix.specs.Matrix.{δ}
use Rattle.letter.specs.declared.Gate.{Gate}
use Rattle.gaussian.specs.declared.Gaussian.{Gaussian}
use Rattle.gaussian.specs.Gaussian.{real, ◌⊗◌, Matrix, Same, identity, product, adjoint, scaled}
use Rattle.unitary.specs.Unitary.{Unitary, plain, plain_of}
use Rattle.gaussian.specs.Laws.Gaussian.{⊗-assoc, ⊗-comm, ⊗-unit-l, conj_real}
use Rattle.gaussian.specs.Laws.Matrix.{product_cong, product_assoc, product_id_l, product_scaled_r, product_scalar_l, adjoint_product, adjoint_adjoint, same_refl}
use Rattle.gaussian.specs.Laws.Power.{norm, norm_sum}
use Rattle.unitary.specs.Laws.Finite.{plain_rows, plain_columns}
use Rattle.matrix.specs.Laws.Sum.{δ_sym}

abbrev pub Rows : Matrix → Gaussian → Type 0
Rows A q = Same 4 (product 4 A (adjoint A)) (scaled q identity)

abbrev pub Columns : Matrix → Gaussian → Type 0
Columns A q = Same 4 (product 4 (adjoint A) A) (scaled q identity)

pub product_rows : (A B : Matrix) (p q : Gaussian) → Rows A p → Rows B q → Rows (product 4 A B) (p ⊗ q)
product_rows A B p q a b i j hi hj =
    ap (λ X. product 4 (product 4 A B) X i j) (adjoint_product 4 A B)
    ∙ ap (λ X. X i j) (product_assoc 4 A B (product 4 (adjoint B) (adjoint A)))
    ∙ ap (λ X. product 4 A X i j) (sym (product_assoc 4 B (adjoint B) (adjoint A)))
    ∙ product_cong (same_refl 4 A) (product_scalar_l 4 q (product 4 B (adjoint B)) (adjoint A) b) i j hi hj
    ∙ ap (λ X. X i j) (product_scaled_r 4 q A (adjoint A))
    ∙ ap (λ x. q ⊗ x) (a i j hi hj)
    ∙ sym (⊗-assoc q p (identity i j)) ∙ ap (λ x. x ⊗ identity i j) (⊗-comm q p)

pub columns_rows : (A : Matrix) (q : Gaussian) → Columns A q → Rows (adjoint A) q
columns_rows A q h i j hi hj = ap (λ X. product 4 (adjoint A) X i j) (adjoint_adjoint A) ∙ h i j hi hj

product_columns : (A B : Matrix) (p q : Gaussian) → Columns A p → Columns B q → Columns (product 4 A B) (p ⊗ q)
product_columns A B p q a b i j hi hj =
    ap (λ X. product 4 X (product 4 A B) i j) (adjoint_product 4 A B)
    ∙ ap₂ (λ X Y. product 4 (product 4 (adjoint B) (adjoint A)) (product 4 X Y) i j) (sym (adjoint_adjoint A)) (sym (adjoint_adjoint B))
    ∙ ap (λ X. product 4 (product 4 (adjoint B) (adjoint A)) X i j) (sym (adjoint_product 4 (adjoint B) (adjoint A)))
    ∙ product_rows (adjoint B) (adjoint A) q p (columns_rows B q b) (columns_rows A p a) i j hi hj
    ∙ ap (λ x. x ⊗ identity i j) (⊗-comm q p)

pub identity_adjoint : (i j : ℕ) → adjoint identity i j ≡ identity i j
identity_adjoint i j = conj_real (δ j i) ∙ ap real (δ_sym j i)

pub list_rows : (w : List Gate) → Rows (plain_of w).matrix (norm (plain_of w).exponent)
unfolding plain_of
list_rows [] i j hi hj = product_id_l 4 (adjoint identity) i j hi hj ∙ identity_adjoint i j ∙ sym (⊗-unit-l (identity i j))
list_rows (g ∷ w) i j hi hj =
    product_rows (plain g).matrix (plain_of w).matrix (norm (plain g).exponent) (norm (plain_of w).exponent) (plain_rows g) (list_rows w) i j hi hj
    ∙ ap (λ x. x ⊗ identity i j) (norm_sum (plain g).exponent (plain_of w).exponent)

pub list_columns : (w : List Gate) → Columns (plain_of w).matrix (norm (plain_of w).exponent)
unfolding plain_of
list_columns [] i j hi hj = product_cong (λ i j hi hj. identity_adjoint i j) (same_refl 4 identity) i j hi hj ∙ product_id_l 4 identity i j hi hj ∙ sym (⊗-unit-l (identity i j))
list_columns (g ∷ w) i j hi hj =
    product_columns (plain g).matrix (plain_of w).matrix (norm (plain g).exponent) (norm (plain_of w).exponent) (plain_columns g) (list_columns w) i j hi hj
    ∙ ap (λ x. x ⊗ identity i j) (norm_sum (plain g).exponent (plain_of w).exponent)

-- every list of plain gates gives a unitary
pub list_unitary : (w : List Gate) → Unitary (plain_of w)
list_unitary w = record { rows = list_rows w }
