-- Finite sums, and Kronecker's delta in them.
use Rattle.std.specs.Prelude.{◌≡◌, refl, ◌≢◌, Bool, true, false, cond, ℕ, zero, suc, ◌+◌, ◌*◌, ◌<◌, ◌≤◌, T, eqb, ℤ, pos, neg_ℤ, ◌+ℤ◌, ◌*ℤ◌, nat_abs}
use Rattle.std.proofs.Common.{sym, ◌∙◌, ap, ap₂, ⊎_elim, suc-mul, arith, eqb→eq}
use Rattle.std.proofs.Math.Decide.{ℕ_discrete}
use Rattle.std.proofs.Math.Dec.{eqb_refl}
use Rattle.std.proofs.Math.IntN.{+ℤ_idl, +ℤ_idr, zero-*ℤ, *ℤ-zero, *ℤ_comm, neg_ℤ-+ℤ}
use Rattle.matrix.specs.Range.{sum}
use Rattle.matrix.specs.Matrix.{δ}
use Rattle.matrix.specs.Laws.Integer.{+ℤ-swap, *ℤ-distr-r, *ℤ-distr-l, *ℤ-unit-l, sumℤ, square_size, nat_abs_add_le, nat_abs_zero, no_zero_divisors}

pub sum_cong : {n : ℕ} {f g : ℕ → ℤ} → ((i : ℕ) → i < n → f i ≡ g i) → sum n f ≡ sum n g
unfolding sum
sum_cong {n = zero} h = refl
sum_cong {n = suc n} h = ap₂ (λ x y. x +ℤ y) (sum_cong {n = n} (λ i l. h i (omega arith))) (h n (omega arith))

pub sum_zero : (n : ℕ) → sum n (λ i. pos 0) ≡ pos 0
unfolding sum
sum_zero zero = refl
sum_zero (suc n) = ap (λ x. x +ℤ pos 0) (sum_zero n)

pub sum_add : (n : ℕ) (f g : ℕ → ℤ) → sum n (λ i. f i +ℤ g i) ≡ sum n f +ℤ sum n g
unfolding sum
sum_add zero f g = refl
sum_add (suc n) f g = ap (λ x. x +ℤ (f n +ℤ g n)) (sum_add n f g) ∙ +ℤ-swap (sum n f) (sum n g) (f n) (g n)

pub mul_sum : (n : ℕ) (a : ℤ) (f : ℕ → ℤ) → a *ℤ sum n f ≡ sum n (λ i. a *ℤ f i)
unfolding sum
mul_sum zero a f = *ℤ-zero a
mul_sum (suc n) a f = *ℤ-distr-l a (sum n f) (f n) ∙ ap (λ x. x +ℤ a *ℤ f n) (mul_sum n a f)

pub sum_mul : (n : ℕ) (a : ℤ) (f : ℕ → ℤ) → sum n f *ℤ a ≡ sum n (λ i. f i *ℤ a)
unfolding sum
sum_mul zero a f = zero-*ℤ a
sum_mul (suc n) a f = *ℤ-distr-r (sum n f) (f n) a ∙ ap (λ x. x +ℤ f n *ℤ a) (sum_mul n a f)

pub sum_neg : (n : ℕ) (f : ℕ → ℤ) → sum n (λ i. neg_ℤ (f i)) ≡ neg_ℤ (sum n f)
unfolding sum
sum_neg zero f = refl
sum_neg (suc n) f = ap (λ x. x +ℤ neg_ℤ (f n)) (sum_neg n f) ∙ sym (neg_ℤ-+ℤ (sum n f) (f n))

-- linear in two functions at once
pub sum_linear : (n : ℕ) (s t : ℤ) (f g : ℕ → ℤ) → sum n (λ i. s *ℤ f i +ℤ t *ℤ g i) ≡ s *ℤ sum n f +ℤ t *ℤ sum n g
sum_linear n s t f g = sum_add n (λ i. s *ℤ f i) (λ i. t *ℤ g i) ∙ ap₂ (λ x y. x +ℤ y) (sym (mul_sum n s f)) (sym (mul_sum n t g))

-- the order of two sums
pub sum_sum : (n m : ℕ) (f : ℕ → ℕ → ℤ) → sum n (λ i. sum m (λ j. f i j)) ≡ sum m (λ j. sum n (λ i. f i j))
unfolding sum
sum_sum zero m f = sym (sum_zero m)
sum_sum (suc n) m f = ap (λ x. x +ℤ sum m (λ j. f n j)) (sum_sum n m f) ∙ sym (sum_add m (λ j. sum n (λ i. f i j)) (λ j. f n j))

-- one index only
pub sum_only : (n j : ℕ) (f : ℕ → ℤ) → j < n → ((i : ℕ) → i < n → i ≢ j → f i ≡ pos 0) → sum n f ≡ f j
unfolding sum
sum_only zero j f l h = absurd (omega arith)
sum_only (suc n) j f l h = elim (ℕ_discrete j n) [
  | yes e ↦ ap₂ (λ x y. x +ℤ y) (sum_cong {n = n} {f = f} {g = λ i. pos 0} (λ i u. h i (omega arith) (omega arith)) ∙ sum_zero n) (ap f (sym e))
      ∙ +ℤ_idl (f j)
  | no d ↦ ap₂ (λ x y. x +ℤ y) (sum_only n j f (omega arith) (λ i u w. h i (omega arith) w)) (h n (omega arith) (λ e. d (sym e))) ∙ +ℤ_idr (f j)
]

-- two functions that differ only in the order of two neighbours
pub sum_exchange : (n k : ℕ) (f g : ℕ → ℤ) → suc k < n → f k ≡ g (suc k) → f (suc k) ≡ g k
    → ((i : ℕ) → i < n → i ≢ k → i ≢ suc k → f i ≡ g i) → sum n f ≡ sum n g
unfolding sum
sum_exchange zero k f g l p q h = absurd (omega arith)
sum_exchange (suc n) k f g l p q h = elim (ℕ_discrete n (suc k)) [
  | yes e ↦ rw (e, p, q, sum_cong {n = k} {f = f} {g = g} (λ i u. h i (omega arith) (omega arith) (omega arith))) (simp sumℤ)
  | no d ↦ ap₂ (λ x y. x +ℤ y) (sum_exchange n k f g (omega arith) p q (λ i u. h i (omega arith))) (h n (omega arith) (omega arith) d)
]

-- terms of size at most b
pub sum_bound : (b n : ℕ) (f : ℕ → ℤ) → ((i : ℕ) → i < n → nat_abs (f i) ≤ b) → nat_abs (sum n f) ≤ n * b
unfolding sum
sum_bound b zero f h = omega arith
sum_bound b (suc n) f h =
    omega (arith, nat_abs_add_le (sum n f) (f n), sum_bound b n f (λ i l. h i (omega arith)), h n (omega arith), suc-mul n b)

-- ---- Kronecker's delta

pub δ_same : (i : ℕ) → δ i i ≡ pos 1
unfolding δ
δ_same i = go (eqb i i) (eqb_refl i)
  where
    go : (b : Bool) → T b → cond b (pos 1) (pos 0) ≡ pos 1
    go true t = refl
    go false t = absurd t

pub δ_other : (i j : ℕ) → i ≢ j → δ i j ≡ pos 0
unfolding δ
δ_other i j h = go (eqb i j) (λ t. h (eqb→eq i j t))
  where
    go : (b : Bool) → (T b → ⊥) → cond b (pos 1) (pos 0) ≡ pos 0
    go true f = absurd (f tt)
    go false f = refl

pub δ_sym : (i j : ℕ) → δ i j ≡ δ j i
δ_sym i j = go (ℕ_discrete i j)
  where
    go : Dec (i ≡ j) → δ i j ≡ δ j i
    go (yes e) = rw e
    go (no f) = δ_other i j f ∙ sym (δ_other j i (λ e. f (sym e)))

pub sum_δ : (n j : ℕ) (f : ℕ → ℤ) → j < n → sum n (λ i. δ i j *ℤ f i) ≡ f j
sum_δ n j f l =
    sum_only n j (λ i. δ i j *ℤ f i) l (λ i m w. ap (λ x. x *ℤ f i) (δ_other i j w) ∙ zero-*ℤ (f i))
    ∙ ap (λ x. x *ℤ f j) (δ_same j) ∙ *ℤ-unit-l (f j)

pub sum_δ_r : (n j : ℕ) (f : ℕ → ℤ) → j < n → sum n (λ i. f i *ℤ δ i j) ≡ f j
sum_δ_r n j f l = sum_cong (λ i m. *ℤ_comm (f i) (δ i j)) ∙ sum_δ n j f l

-- ---- sums of numbers that are not negative

abbrev pub NonNegative : ℤ → Type 0
NonNegative x = (m : ℕ) × (x ≡ pos m)

pub square_nonnegative : (x : ℤ) → NonNegative (x *ℤ x)
square_nonnegative x = (nat_abs x * nat_abs x, square_size x)

pub sum_nonnegative : (n : ℕ) (f : ℕ → ℤ) → ((i : ℕ) → i < n → NonNegative (f i)) → NonNegative (sum n f)
unfolding sum
sum_nonnegative zero f h = (0, refl)
sum_nonnegative (suc n) f h = go (sum_nonnegative n f (λ i l. h i (omega arith))) (h n (omega arith))
  where
    go : {x y : ℤ} → NonNegative x → NonNegative y → NonNegative (x +ℤ y)
    go (a, p) (b, q) = (a + b, ap₂ (λ x y. x +ℤ y) p q)

-- each term is at most the sum
pub term_le_sum : (n : ℕ) (f : ℕ → ℕ) (i : ℕ) → i < n → (s : ℕ) → sum n (λ j. pos (f j)) ≡ pos s → f i ≤ s
unfolding sum
term_le_sum zero f i l s e = absurd (omega arith)
term_le_sum (suc n) f i l s e =
    let (r, p) = sum_nonnegative n (λ j. pos (f j)) (λ j m. (f j, refl)) in
    let z : pos (r + f n) ≡ pos s = sym (ap (λ x. x +ℤ pos (f n)) p) ∙ e in
    let q : r + f n ≡ s = ap nat_abs z in
    elim (ℕ_discrete i n) [
      | yes d ↦ let w : f i ≡ f n = ap f d in omega arith
      | no d ↦ let w : f i ≤ r = term_le_sum n f i (omega arith) r p in omega arith
    ]

-- such a sum that is 0 has no term but 0
pub sum_nonnegative_zero : (n : ℕ) (f : ℕ → ℤ) → ((i : ℕ) → i < n → NonNegative (f i)) → sum n f ≡ pos 0 → (i : ℕ) → i < n → f i ≡ pos 0
sum_nonnegative_zero n f h e i l =
    let z : nat_abs (f i) ≤ 0 = term_le_sum n (λ j. nat_abs (f j)) i l 0 (sum_cong (λ j m. sym (size (h j m))) ∙ e) in
    nat_abs_zero (f i) (omega arith)
  where
    size : {x : ℤ} → NonNegative x → x ≡ pos (nat_abs x)
    size {x} (m, e) = e ∙ ap pos (sym (ap nat_abs e))

pub sum_squares_zero : (n : ℕ) (f : ℕ → ℤ) → sum n (λ i. f i *ℤ f i) ≡ pos 0 → (i : ℕ) → i < n → f i ≡ pos 0
sum_squares_zero n f e i l =
    ⊎_elim (λ z. z) (λ z. z)
    (no_zero_divisors (f i) (f i) (sum_nonnegative_zero n (λ j. f j *ℤ f j) (λ j m. square_nonnegative (f j)) e i l))
