-- Sums of Gaussian integers, products of matrices, and equality as a test.
use Rattle.std.specs.Prelude.{◌≡◌, refl, ◌≢◌, true, ◌&&◌, ℕ, zero, suc, ◌<◌, ℤ, pos}
use Rattle.std.proofs.Common.{sym, ◌∙◌, ap, ap₂, arith}
use Rattle.std.proofs.Math.Path.{fun_ext}
use Rattle.std.proofs.Math.Decide.{ℕ_discrete}
use Rattle.matrix.specs.Range.{every}
use Rattle.matrix.specs.Laws.Test.{and_left, and_right}
use Rattle.matrix.specs.Laws.Integer.{equals_eq, equals_yes}
use Rattle.matrix.specs.Laws.Range.{every_sound}
use Rattle.matrix.specs.Laws.Sum.{δ_same, δ_other, δ_sym}
use Rattle.gaussian.specs.declared.Gaussian.{Gaussian}
use Rattle.gaussian.specs.Gaussian.{gaussian, real, ◌⊕◌, ◌⊗◌, conj, sum, Matrix, Same, identity, product, adjoint, transpose, scaled, equals, same_test}
use Rattle.gaussian.specs.Laws.Gaussian.{conj_conj, conj_real, conj-⊕, conj-⊗, real-⊕, zero-⊗, ⊕-idl, ⊕-idr, ⊕-swap, ⊗-assoc, ⊗-comm, ⊗-distr-l, ⊗-distr-r, ⊗-left-comm, ⊗-swap, ⊗-unit-l, ⊗-zero}

-- ---- sums

pub sum_cong : {n : ℕ} {f g : ℕ → Gaussian} → ((i : ℕ) → i < n → f i ≡ g i) → sum n f ≡ sum n g
unfolding sum
sum_cong {n = zero} h = refl
sum_cong {n = suc n} h = ap₂ (λ x y. x ⊕ y) (sum_cong {n = n} (λ i l. h i (omega arith))) (h n (omega arith))

pub sum_zero : (n : ℕ) → sum n (λ i. real (pos 0)) ≡ real (pos 0)
unfolding sum
sum_zero zero = refl
sum_zero (suc n) = ap (λ x. x ⊕ real (pos 0)) (sum_zero n) ∙ ⊕-idl (real (pos 0))

pub sum_add : (n : ℕ) (f g : ℕ → Gaussian) → sum n (λ i. f i ⊕ g i) ≡ sum n f ⊕ sum n g
unfolding sum
sum_add zero f g = sym (⊕-idl (real (pos 0)))
sum_add (suc n) f g = ap (λ x. x ⊕ (f n ⊕ g n)) (sum_add n f g) ∙ ⊕-swap (sum n f) (sum n g) (f n) (g n)

pub mul_sum : (n : ℕ) (a : Gaussian) (f : ℕ → Gaussian) → a ⊗ sum n f ≡ sum n (λ i. a ⊗ f i)
unfolding sum
mul_sum zero a f = ⊗-zero a
mul_sum (suc n) a f = ⊗-distr-l a (sum n f) (f n) ∙ ap (λ x. x ⊕ a ⊗ f n) (mul_sum n a f)

pub sum_mul : (n : ℕ) (a : Gaussian) (f : ℕ → Gaussian) → sum n f ⊗ a ≡ sum n (λ i. f i ⊗ a)
unfolding sum
sum_mul zero a f = zero-⊗ a
sum_mul (suc n) a f = ⊗-distr-r (sum n f) (f n) a ∙ ap (λ x. x ⊕ f n ⊗ a) (sum_mul n a f)

pub sum_sum : (n m : ℕ) (f : ℕ → ℕ → Gaussian) → sum n (λ i. sum m (λ j. f i j)) ≡ sum m (λ j. sum n (λ i. f i j))
unfolding sum
sum_sum zero m f = sym (sum_zero m)
sum_sum (suc n) m f = ap (λ x. x ⊕ sum m (λ j. f n j)) (sum_sum n m f) ∙ sym (sum_add m (λ j. sum n (λ i. f i j)) (λ j. f n j))

pub conj_sum : (n : ℕ) (f : ℕ → Gaussian) → conj (sum n f) ≡ sum n (λ i. conj (f i))
unfolding sum
conj_sum zero f = conj_real (pos 0)
conj_sum (suc n) f = conj-⊕ (sum n f) (f n) ∙ ap (λ x. x ⊕ conj (f n)) (conj_sum n f)

pub real_sum : (n : ℕ) (f : ℕ → ℤ) → sum n (λ i. real (f i)) ≡ real (Rattle.matrix.specs.Range.sum n f)
unfolding sum Rattle.matrix.specs.Range.sum
real_sum zero f = refl
real_sum (suc n) f = ap (λ x. x ⊕ real (f n)) (real_sum n f) ∙ real-⊕ (Rattle.matrix.specs.Range.sum n f) (f n)

-- one index only
pub sum_only : (n j : ℕ) (f : ℕ → Gaussian) → j < n → ((i : ℕ) → i < n → i ≢ j → f i ≡ real (pos 0)) → sum n f ≡ f j
unfolding sum
sum_only zero j f l h = absurd (omega arith)
sum_only (suc n) j f l h = elim (ℕ_discrete j n) [
  | yes e ↦ ap₂ (λ x y. x ⊕ y) (sum_cong {n = n} {f = f} {g = λ i. real (pos 0)} (λ i u. h i (omega arith) (omega arith)) ∙ sum_zero n) (ap f (sym e))
      ∙ ⊕-idl (f j)
  | no d ↦ ap₂ (λ x y. x ⊕ y) (sum_only n j f (omega arith) (λ i u w. h i (omega arith) w)) (h n (omega arith) (λ e. d (sym e))) ∙ ⊕-idr (f j)
]

-- two indices only
pub sum_two : (n i j : ℕ) (f : ℕ → Gaussian) → i < j → j < n → ((l : ℕ) → l < n → l ≢ i → l ≢ j → f l ≡ real (pos 0)) → sum n f ≡ f i ⊕ f j
unfolding sum
sum_two zero i j f u l h = absurd (omega arith)
sum_two (suc n) i j f u l h = elim (ℕ_discrete j n) [
  | yes e ↦ ap₂ (λ x y. x ⊕ y) (sum_only n i f (omega arith) (λ m v w. h m (omega arith) w (omega arith))) (ap f (sym e))
  | no d ↦ ap₂ (λ x y. x ⊕ y) (sum_two n i j f u (omega arith) (λ m v w z. h m (omega arith) w z)) (h n (omega arith) (omega arith) (λ e. d (sym e))) ∙ ⊕-idr (f i ⊕ f j)
]

pub sum_δ : (n j : ℕ) (f : ℕ → Gaussian) → j < n → sum n (λ i. identity i j ⊗ f i) ≡ f j
sum_δ n j f l =
    sum_only n j (λ i. identity i j ⊗ f i) l (λ i m w. ap (λ x. real x ⊗ f i) (δ_other i j w) ∙ zero-⊗ (f i))
    ∙ ap (λ x. real x ⊗ f j) (δ_same j) ∙ ⊗-unit-l (f j)

-- ---- products of matrices

pub same_refl : (n : ℕ) (A : Matrix) → Same n A A
same_refl n A i j hi hj = refl

pub product_cong : {n : ℕ} {A A' B B' : Matrix} → Same n A A' → Same n B B' → Same n (product n A B) (product n A' B')
product_cong p q i k hi hk = sum_cong (λ j hj. ap₂ (λ x y. x ⊗ y) (p i j hi hj) (q j k hj hk))

pub product_assoc : (n : ℕ) (A B C : Matrix) → product n (product n A B) C ≡ product n A (product n B C)
product_assoc n A B C = fun_ext λ i. fun_ext λ l. simp (sum_mul, mul_sum, ⊗-assoc) (sum_sum n n (λ k j. A i j ⊗ (B j k ⊗ C k l)))

pub product_id_l : (n : ℕ) (A : Matrix) → Same n (product n identity A) A
product_id_l n A i k hi hk = sum_cong (λ j hj. ap (λ x. real x ⊗ A j k) (δ_sym i j)) ∙ sum_δ n i (λ j. A j k) hi

pub product_id_r : (n : ℕ) (A : Matrix) → Same n (product n A identity) A
product_id_r n A i k hi hk = sum_cong (λ j hj. ⊗-comm (A i j) (identity j k)) ∙ sum_δ n k (λ j. A i j) hk

pub product_scaled_r : (n : ℕ) (c : Gaussian) (A B : Matrix) → product n A (scaled c B) ≡ scaled c (product n A B)
product_scaled_r n c A B = fun_ext λ i. fun_ext λ k. simp (mul_sum, ⊗-left-comm)

pub product_scaled_l : (n : ℕ) (c : Gaussian) (A B : Matrix) → product n (scaled c A) B ≡ scaled c (product n A B)
product_scaled_l n c A B = fun_ext λ i. fun_ext λ k. simp (mul_sum, ⊗-assoc)

pub adjoint_product : (n : ℕ) (A B : Matrix) → adjoint (product n A B) ≡ product n (adjoint B) (adjoint A)
adjoint_product n A B = fun_ext λ i. fun_ext λ k. conj_sum n (λ j. A k j ⊗ B j i) ∙ ap (sum n) (fun_ext λ j. conj-⊗ (A k j) (B j i) ∙ ⊗-comm (conj (A k j)) (conj (B j i)))

pub transpose_product : (n : ℕ) (A B : Matrix) → transpose (product n A B) ≡ product n (transpose B) (transpose A)
transpose_product n A B = fun_ext λ i. fun_ext λ k. ap (sum n) (fun_ext λ j. ⊗-comm (A k j) (B j i))

pub adjoint_adjoint : (A : Matrix) → adjoint (adjoint A) ≡ A
adjoint_adjoint A = fun_ext λ i. fun_ext λ j. conj_conj (A i j)

-- the products of the rows, where the matrix is multiplied by c
pub scaled_rows : (n : ℕ) (c : Gaussian) (A : Matrix) → product n (scaled c A) (adjoint (scaled c A)) ≡ scaled (c ⊗ conj c) (product n A (adjoint A))
scaled_rows n c A = fun_ext λ i. fun_ext λ k.
    ap (sum n) (fun_ext λ j. ap (λ x. c ⊗ A i j ⊗ x) (conj-⊗ c (A k j)) ∙ ⊗-swap c (A i j) (conj c) (conj (A k j))) ∙ sym (mul_sum n (c ⊗ conj c) (λ j. A i j ⊗ conj (A k j)))

-- a matrix that is c times the identity, as a factor
pub product_scalar_l : (n : ℕ) (c : Gaussian) (D A : Matrix) → Same n D (scaled c identity) → Same n (product n D A) (scaled c A)
product_scalar_l n c D A h i k hi hk =
    product_cong h (same_refl n A) i k hi hk ∙ ap (λ X. X i k) (product_scaled_l n c identity A) ∙ ap (λ x. c ⊗ x) (product_id_l n A i k hi hk)

pub product_scalar_r : (n : ℕ) (c : Gaussian) (A D : Matrix) → Same n D (scaled c identity) → Same n (product n A D) (scaled c A)
product_scalar_r n c A D h i k hi hk =
    product_cong (same_refl n A) h i k hi hk ∙ ap (λ X. X i k) (product_scaled_r n c A identity) ∙ ap (λ x. c ⊗ x) (product_id_r n A i k hi hk)

-- ---- equality as a test

pub equals_sound : (x y : Gaussian) → equals x y ≡ true → x ≡ y
equals_sound x y t =
    let p = Rattle.matrix.specs.Integer.equals x.re y.re in
    let q = Rattle.matrix.specs.Integer.equals x.im y.im in
    ap₂ gaussian (equals_eq x.re y.re (and_left p q t)) (equals_eq x.im y.im (and_right p q t))

pub equals_complete : {x y : Gaussian} → x ≡ y → equals x y ≡ true
equals_complete e = ap₂ (λ p q. p && q) (equals_yes (ap (λ z. z.re) e)) (equals_yes (ap (λ z. z.im) e))

pub same_sound : (m n : ℕ) (A B : Matrix) → same_test m n A B ≡ true → (i j : ℕ) → i < m → j < n → A i j ≡ B i j
same_sound m n A B e i j hi hj =
    equals_sound (A i j) (B i j) (every_sound n (λ j. equals (A i j) (B i j)) (every_sound m (λ i. every n (λ j. equals (A i j) (B i j))) e i hi) j hj)
