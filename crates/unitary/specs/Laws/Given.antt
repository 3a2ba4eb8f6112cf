-- A list that multiplies to a six-by-six form of a unitary gives the unitary, up to a power of ω.
use Rattle.std.specs.Prelude.{◌≡◌, refl, ◌≢◌, List, [], ◌∷◌, ℕ, zero, suc, ◌+◌, ◌*◌, ◌/◌, ◌%◌, ◌^◌, ◌<◌, pos, ◌*ℤ◌}
use Rattle.std.proofs.Common.{sym, ◌∙◌, ap, inl, arith}
use Rattle.matrix.specs.Operator.{SameOperator}
use Rattle.matrix.specs.Laws.Integer.{*ℤ-unit-l}
use Rattle.matrix.specs.Laws.Ring.{var, ◌:*◌}
use Rattle.matrix.specs.Laws.Sum.{δ_same, δ_other}
use Rattle.matrix.specs.Laws.Operator.{same_operator_trans, same_operator_of}
use Rattle.letter.specs.declared.Gate.{Gate}
use Rattle.gate.specs.Product.{product_of}
use Rattle.gaussian.specs.declared.Gaussian.{Gaussian}
use Rattle.gaussian.specs.Gaussian.{gaussian, real, unit, one+i, ◌⊗◌, conj, power, Matrix, Same, identity, product, adjoint, scaled, norm_of}
use Rattle.unitary.specs.Unitary.{Quotient, Unitary, plain_of, Gives}
use Rattle.unitary.specs.Form.{form_at, Real}
use Rattle.gaussian.specs.Laws.Gaussian.{ringᴳ, ⊗-assoc, ⊗-zero, zero-⊗, ⊗-unit-r, real_times, times_conj, power_sum}
use Rattle.gaussian.specs.Laws.Matrix.{sum_only, product_assoc, product_scalar_l, product_scalar_r}
use Rattle.gaussian.specs.Laws.Descent.{descent}
use Rattle.gaussian.specs.Laws.Power.{norm, norm_sum, twice_unit, eight}
use Rattle.unitary.specs.Laws.Plain.{product_rows, columns_rows, list_rows, list_columns}
use Rattle.unitary.specs.Laws.Quotient.{equal_by}
use Rattle.unitary.specs.Laws.Mirror.{sign_at, mirrored}
use Rattle.unitary.specs.Laws.Compare.{x_is, multiple}

-- P† N is a number z, so 2^l N is z P; and z is a power of i times a power of 1 + i
module _ (U : Quotient) (o : Unitary U) (w : List Gate) (z : Gaussian) (is : Same 4 (product 4 (adjoint (plain_of w).matrix) U.matrix) (scaled z identity)) where
  abbrev M : Matrix
  M = (plain_of w).matrix

  abbrev l : ℕ
  l = (plain_of w).exponent

  abbrev N : Matrix
  N = U.matrix

  abbrev k : ℕ
  k = U.exponent

  multiplied : Same 4 (scaled (norm l) N) (scaled z M)
  multiplied i j hi hj =
      sym (product_scalar_l 4 (norm l) (product 4 M (adjoint M)) N (list_rows w) i j hi hj)
      ∙ ap (λ X. X i j) (product_assoc 4 M (adjoint M) N)
      ∙ product_scalar_r 4 z M (product 4 (adjoint M) N) is i j hi hj

  z_norm : norm_of z ≡ pos (2 ^ (l + k))
  z_norm =
      let Y = product 4 (adjoint M) N in
      let first : Y 0 0 ≡ z = is 0 0 (omega arith) (omega arith) ∙ ap (λ x. z ⊗ real x) (δ_same 0) ∙ ⊗-unit-r z in
      let rest : (c : ℕ) → c < 4 → c ≢ 0 → Y 0 c ⊗ conj (Y 0 c) ≡ real (pos 0) = λ c hc n.
      ap (λ x. x ⊗ conj (Y 0 c)) (is 0 c (omega arith) hc ∙ ap (λ x. z ⊗ real x) (δ_other 0 c (λ e. n (sym e))) ∙ ⊗-zero z) ∙ zero-⊗ (conj (Y 0 c)) in
      ap (λ x. x.re)
      (sym (times_conj z) ∙ ap (λ x. x ⊗ conj x) (sym first) ∙ sym (sum_only 4 0 (λ c. Y 0 c ⊗ conj (Y 0 c)) (omega arith) rest)
      ∙ product_rows (adjoint M) N (norm l) (norm k) (columns_rows M (norm l) (list_columns w)) o.rows 0 0 (omega arith) (omega arith)
      ∙ ap (λ x. norm l ⊗ norm k ⊗ real x) (δ_same 0) ∙ ⊗-unit-r (norm l ⊗ norm k) ∙ norm_sum l k)

  module _ (a : ℕ) (e : z ≡ power unit a ⊗ power one+i (l + k)) where
    abbrev b : ℕ
    b = a + a + (l + k)

    abbrev j : ℕ
    j = b / 8

    abbrev c : ℕ
    c = b % 8

    entries : (r s : ℕ) → r < 4 → s < 4 → norm (4 * j) ⊗ (power one+i c ⊗ M r s) ≡ norm (a + l) ⊗ N r s
    entries r s hr hs =
        sym
        (ap (λ x. x ⊗ N r s) (sym (norm_sum a l)) ∙ ⊗-assoc (norm a) (norm l) (N r s) ∙ ap (λ x. norm a ⊗ x) (multiplied r s hr hs)
        ∙ ap (λ x. norm a ⊗ (x ⊗ M r s)) e
        ∙ ringᴳ (norm a ∷ power unit a ∷ power one+i (l + k) ∷ M r s ∷ []) (var 0 :* (var 1 :* var 2 :* var 3)) (var 0 :* var 1 :* var 2 :* var 3) refl refl
        ∙ ap (λ x. x ⊗ power one+i (l + k) ⊗ M r s) (twice_unit a)
        ∙ ap (λ x. x ⊗ M r s) (sym (power_sum one+i (a + a) (l + k)) ∙ ap (power one+i) (split b) ∙ power_sum one+i (8 * j) c ∙ ap (λ x. x ⊗ power one+i c) (eight j))
        ∙ ⊗-assoc (norm (4 * j)) (power one+i c) (M r s))
      where
        split : (b : ℕ) → b ≡ 8 * (b / 8) + b % 8
        split b = omega arith

    parts : (r s : ℕ) → r < 4 → s < 4
        → gaussian (pos (2 ^ (4 * j)) *ℤ (power one+i c ⊗ M r s).re) (pos (2 ^ (4 * j)) *ℤ (power one+i c ⊗ M r s).im)
        ≡ gaussian (pos (2 ^ (a + l)) *ℤ (N r s).re) (pos (2 ^ (a + l)) *ℤ (N r s).im)
    parts r s hr hs = sym (real_times (pos (2 ^ (4 * j))) (power one+i c ⊗ M r s)) ∙ entries r s hr hs ∙ real_times (pos (2 ^ (a + l))) (N r s)

    exponents : c + l + (4 * j + 4 * j) ≡ k + (a + l + (a + l))
    exponents = omega arith

    given : Gives w c U
    given = record {
      entries_re = λ r s hr hs. equal_by (c + l) k (4 * j) (a + l) (power one+i c ⊗ M r s).re (N r s).re exponents (ap (λ x. x.re) (parts r s hr hs));
      entries_im = λ r s hr hs. equal_by (c + l) k (4 * j) (a + l) (power one+i c ⊗ M r s).im (N r s).im exponents (ap (λ x. x.im) (parts r s hr hs));
    }

  given_some : (a : ℕ) × (a < 8) × Gives w a U
  given_some = let (a, e) = descent (l + k) z z_norm in (c a e, (omega arith), given a e)

sign_one : (c : ℕ) → sign_at (pos 1) c ≡ pos 1
sign_one zero = refl
sign_one (suc c) = refl

-- a list that multiplies to the form gives the unitary up to a power of ω
pub gives : (U : Quotient) → Unitary U → (t : ℕ) → Real t U → (w : List Gate) → SameOperator (product_of w) (form_at t U) → (a : ℕ) × (a < 8) × Gives w a U
gives U o t h w m =
    let A = form_at t U in
    let m' : SameOperator (product_of w) (mirrored (pos 1) A) =
    same_operator_trans m (same_operator_of A (mirrored (pos 1) A) refl (λ r c hr hc. sym (ap (λ x. x *ℤ A.matrix r c) (sign_one c) ∙ *ℤ-unit-l (A.matrix r c)))) in
    let (d, is) = x_is U o t h (pos 1) (inl refl) w m' in
    given_some U o w (product 4 (adjoint (plain_of w).matrix) U.matrix 0 0) (multiple U o t h (pos 1) (inl refl) w m' d is refl)
