-- The laws of ℤ that the kit's `lib.IntN` lacks: the ring laws of the product, sizes (`nat_abs`), cancellation, equality as a test, and
-- the sign of a product.
use Rattle.std.specs.Prelude.{◌≡◌, refl, ◌≢◌, ◌⊎◌, Bool, true, false, not, cond, ℕ, zero, suc, ◌+◌, ◌*◌, ◌-◌, ◌<◌, ◌≤◌, T, ltb, ℤ, pos, negsuc, neg_ℤ, nat_abs, ◌+ℤ◌, ◌-ℤ◌, ◌*ℤ◌, ◌<ℤ◌}
use Rattle.std.proofs.Common.{sym, ◌∙◌, ap, ap₂, inl, inr, ⊎_elim, mul-pos, mul-le-mul, arith, ltb→lt, lt→ltb, nltb→le, eq-eqb, eqb-true, ltb-true, ltb-false, le-leb}
use Rattle.std.proofs.Math.IntN.{suc_ℤ, pred_ℤ, one, sub_ℕ, +ℤ_idl, +ℤ_assoc, +ℤ_comm, +ℤ_invr, neg_ℤ-neg_ℤ, neg_ℤ-+ℤ, -ℤ-+ℤ_cancel, zero-*ℤ, *ℤ-one, *ℤ_comm, suc_ℤ-*ℤ, pred_ℤ-*ℤ, suc_ℤ-+ℤ, pred_ℤ-+ℤ}
use Rattle.std.specs.Int.Signed.{le_z, lt_z}
use Rattle.std.proofs.lemmas.Bool.{lt-leb}
use Rattle.matrix.specs.Integer.{equals}

-- induction by successor and predecessor
ind : (P : ℤ → Type 0) → P (pos zero) → ((k : ℤ) → P k → P (suc_ℤ k)) → ((k : ℤ) → P k → P (pred_ℤ k)) → (k : ℤ) → P k
ind P z s p (pos zero) = z
ind P z s p (pos (suc n)) = s (pos n) (ind P z s p (pos n))
ind P z s p (negsuc zero) = p (pos zero) z
ind P z s p (negsuc (suc n)) = p (negsuc n) (ind P z s p (negsuc n))

-- ---- sums

pub +ℤ-left-comm : (a b c : ℤ) → a +ℤ (b +ℤ c) ≡ b +ℤ (a +ℤ c)
+ℤ-left-comm a b c = sym (+ℤ_assoc a b c) ∙ ap (λ x. x +ℤ c) (+ℤ_comm a b) ∙ +ℤ_assoc b a c

-- sorts sums
pub ruleset sumℤ = (+ℤ_assoc, +ℤ_comm, +ℤ-left-comm)

pub +ℤ-swap : (a b c d : ℤ) → (a +ℤ b) +ℤ (c +ℤ d) ≡ (a +ℤ c) +ℤ (b +ℤ d)
+ℤ-swap a b c d = simp sumℤ

-- ---- products

pub negℤ-*ℤ_l : (a b : ℤ) → neg_ℤ a *ℤ b ≡ neg_ℤ (a *ℤ b)
negℤ-*ℤ_l (pos zero) b = zero-*ℤ b ∙ ap neg_ℤ (sym (zero-*ℤ b))
negℤ-*ℤ_l (pos (suc n)) (pos m) = refl
negℤ-*ℤ_l (pos (suc n)) (negsuc m) = sym (neg_ℤ-neg_ℤ (pos (suc n * suc m)))
negℤ-*ℤ_l (negsuc n) (pos m) = sym (neg_ℤ-neg_ℤ (pos (suc n * m)))
negℤ-*ℤ_l (negsuc n) (negsuc m) = refl

pub negℤ-*ℤ_r : (a b : ℤ) → a *ℤ neg_ℤ b ≡ neg_ℤ (a *ℤ b)
negℤ-*ℤ_r a b = *ℤ_comm a (neg_ℤ b) ∙ negℤ-*ℤ_l b a ∙ ap neg_ℤ (*ℤ_comm b a)

pub *ℤ-distr-r : (a b c : ℤ) → (a +ℤ b) *ℤ c ≡ a *ℤ c +ℤ b *ℤ c
*ℤ-distr-r a b c =
    ind (λ k. (k +ℤ b) *ℤ c ≡ k *ℤ c +ℤ b *ℤ c)
    (rw (+ℤ_idl, zero-*ℤ, +ℤ_idl))
    (λ k h. rw (suc_ℤ-+ℤ, suc_ℤ-*ℤ (k +ℤ b) c, suc_ℤ-*ℤ k c, h) (simp sumℤ))
    (λ k h. rw (pred_ℤ-+ℤ, pred_ℤ-*ℤ (k +ℤ b) c, pred_ℤ-*ℤ k c, h) (simp sumℤ))
    a

pub *ℤ-distr-l : (a b c : ℤ) → a *ℤ (b +ℤ c) ≡ a *ℤ b +ℤ a *ℤ c
*ℤ-distr-l a b c = *ℤ_comm a (b +ℤ c) ∙ *ℤ-distr-r b c a ∙ ap₂ (λ x y. x +ℤ y) (*ℤ_comm b a) (*ℤ_comm c a)

pub *ℤ-distr-sub-r : (a b c : ℤ) → (a -ℤ b) *ℤ c ≡ a *ℤ c -ℤ b *ℤ c
*ℤ-distr-sub-r a b c = *ℤ-distr-r a (neg_ℤ b) c ∙ ap (λ x. a *ℤ c +ℤ x) (negℤ-*ℤ_l b c)

pub *ℤ-distr-sub-l : (a b c : ℤ) → a *ℤ (b -ℤ c) ≡ a *ℤ b -ℤ a *ℤ c
*ℤ-distr-sub-l a b c = *ℤ-distr-l a b (neg_ℤ c) ∙ ap (λ x. a *ℤ b +ℤ x) (negℤ-*ℤ_r a c)

pub *ℤ-assoc : (a b c : ℤ) → (a *ℤ b) *ℤ c ≡ a *ℤ (b *ℤ c)
*ℤ-assoc a b c =
    ind (λ k. (k *ℤ b) *ℤ c ≡ k *ℤ (b *ℤ c))
    (rw (zero-*ℤ b, zero-*ℤ c, zero-*ℤ (b *ℤ c)))
    (λ k h. rw (suc_ℤ-*ℤ k b, *ℤ-distr-r (k *ℤ b) b c, h, suc_ℤ-*ℤ k (b *ℤ c)))
    (λ k h. rw (pred_ℤ-*ℤ k b, *ℤ-distr-sub-r (k *ℤ b) b c, h, pred_ℤ-*ℤ k (b *ℤ c)))
    a

pub *ℤ-left-comm : (a b c : ℤ) → a *ℤ (b *ℤ c) ≡ b *ℤ (a *ℤ c)
*ℤ-left-comm a b c = sym (*ℤ-assoc a b c) ∙ ap (λ x. x *ℤ c) (*ℤ_comm a b) ∙ *ℤ-assoc b a c

-- sorts products
pub ruleset prodℤ = (*ℤ-assoc, *ℤ_comm, *ℤ-left-comm)

-- multiplies out and sorts; what cancels is left to the solver `ring`
pub ruleset ringℤ = (*ℤ-distr-r, *ℤ-distr-l, negℤ-*ℤ_l, negℤ-*ℤ_r, neg_ℤ-+ℤ, prodℤ, sumℤ)

pub *ℤ-unit-r : (a : ℤ) → a *ℤ pos 1 ≡ a
unfolding one
*ℤ-unit-r a = *ℤ-one a

pub *ℤ-unit-l : (a : ℤ) → pos 1 *ℤ a ≡ a
*ℤ-unit-l a = *ℤ_comm (pos 1) a ∙ *ℤ-unit-r a

pub minus_one-*ℤ : (a : ℤ) → negsuc 0 *ℤ a ≡ neg_ℤ a
minus_one-*ℤ a = negℤ-*ℤ_l (pos 1) a ∙ ap neg_ℤ (*ℤ-unit-l a)

pub two-*ℤ : (a : ℤ) → pos 2 *ℤ a ≡ a +ℤ a
two-*ℤ a = suc_ℤ-*ℤ (pos 1) a ∙ ap (λ x. x +ℤ a) (*ℤ-unit-l a)

-- ---- sizes

pub nat_abs_neg : (a : ℤ) → nat_abs (neg_ℤ a) ≡ nat_abs a
nat_abs_neg (pos zero) = refl
nat_abs_neg (pos (suc n)) = refl
nat_abs_neg (negsuc n) = refl

pub nat_abs_mul : (a b : ℤ) → nat_abs (a *ℤ b) ≡ nat_abs a * nat_abs b
nat_abs_mul (pos a) (pos b) = refl
nat_abs_mul (pos a) (negsuc b) = nat_abs_neg (pos (a * suc b))
nat_abs_mul (negsuc a) (pos b) = nat_abs_neg (pos (suc a * b))
nat_abs_mul (negsuc a) (negsuc b) = refl

pub nat_abs_mul_le : (a b : ℤ) {x y : ℕ} → nat_abs a ≤ x → nat_abs b ≤ y → nat_abs (a *ℤ b) ≤ x * y
nat_abs_mul_le a b p q = rw nat_abs_mul (mul-le-mul p q)

pub square_size : (a : ℤ) → a *ℤ a ≡ pos (nat_abs a * nat_abs a)
square_size (pos a) = refl
square_size (negsuc a) = refl

-- what holds of a difference of two natural numbers, from its two cases
pub subℕ_ind : (a b : ℕ) (P : ℤ → Type 0) → (a < b → P (negsuc (b - suc a))) → (b ≤ a → P (pos (a - b))) → P (sub_ℕ a b)
subℕ_ind a b P f g = go (ltb a b) (λ t. f (ltb→lt a b t)) (λ t. g (nltb→le a b t))
  where
    go : (c : Bool) → (T c → P (negsuc (b - suc a))) → (T (not c) → P (pos (a - b))) → P (cond c (negsuc (b - suc a)) (pos (a - b)))
    go true f g = f tt
    go false f g = g tt

nat_abs_sub_le : (a b : ℕ) → nat_abs (sub_ℕ a b) ≤ a + b
nat_abs_sub_le a b = subℕ_ind a b (λ z. nat_abs z ≤ a + b) (λ h. omega arith) (λ h. omega arith)

pub nat_abs_add_le : (a b : ℤ) → nat_abs (a +ℤ b) ≤ nat_abs a + nat_abs b
nat_abs_add_le (pos a) (pos b) = omega arith
nat_abs_add_le (pos a) (negsuc b) = nat_abs_sub_le a (suc b)
nat_abs_add_le (negsuc a) (pos b) = omega (arith, nat_abs_sub_le b (suc a))
nat_abs_add_le (negsuc a) (negsuc b) = omega arith

pub nat_abs_minus_le : (a b : ℤ) → nat_abs (a -ℤ b) ≤ nat_abs a + nat_abs b
nat_abs_minus_le a b = rw nat_abs_neg at (nat_abs_add_le a (neg_ℤ b))

pub nat_abs_zero : (a : ℤ) → nat_abs a ≡ zero → a ≡ pos zero
nat_abs_zero (pos n) h = ap pos h
nat_abs_zero (negsuc n) h = let z : suc n ≡ zero = h in absurd (omega arith)

-- ---- cancellation

-- x = −x only at 0
pub self_neg : (a : ℤ) → a ≡ neg_ℤ a → a ≡ pos 0
self_neg (pos zero) h = refl
self_neg (pos (suc n)) h = cc
self_neg (negsuc n) h = cc

no_zero_divisors_ℕ : (m n : ℕ) → m * n ≡ zero → (m ≡ zero) ⊎ (n ≡ zero)
no_zero_divisors_ℕ zero n h = inl refl
no_zero_divisors_ℕ (suc m) zero h = inr refl
no_zero_divisors_ℕ (suc m) (suc n) h = absurd (omega (arith, mul-pos {m = suc m} {n = suc n} (omega arith) (omega arith)))

pub no_zero_divisors : (a b : ℤ) → a *ℤ b ≡ pos zero → (a ≡ pos zero) ⊎ (b ≡ pos zero)
no_zero_divisors a b h =
    ⊎_elim (λ e. inl (nat_abs_zero a e)) (λ e. inr (nat_abs_zero b e))
    (no_zero_divisors_ℕ (nat_abs a) (nat_abs b) (sym (nat_abs_mul a b) ∙ ap nat_abs h))

pub sub_zero→eq : (a b : ℤ) → a -ℤ b ≡ pos zero → a ≡ b
sub_zero→eq a b h = sym (-ℤ-+ℤ_cancel a b) ∙ ap (λ x. x +ℤ b) h ∙ +ℤ_idl b

pub eq→sub_zero : {a b : ℤ} → a ≡ b → a -ℤ b ≡ pos zero
eq→sub_zero {a} {b} h = ap (λ x. x -ℤ b) h ∙ +ℤ_invr b

pub *ℤ-cancel-l : (a b c : ℤ) → c ≢ pos zero → c *ℤ a ≡ c *ℤ b → a ≡ b
*ℤ-cancel-l a b c nz h =
    ⊎_elim (λ e. absurd (nz e)) (λ e. sub_zero→eq a b e) (no_zero_divisors c (a -ℤ b) (*ℤ-distr-sub-l c a b ∙ eq→sub_zero h))

pub pos_nz : (n : ℕ) → 0 < n → pos n ≢ pos zero
pos_nz n h e = omega (arith, ap nat_abs e)

pub double_cancel : (a b : ℤ) → a +ℤ a ≡ b +ℤ b → a ≡ b
double_cancel a b h = *ℤ-cancel-l a b (pos 2) (pos_nz 2 (omega arith)) (two-*ℤ a ∙ h ∙ sym (two-*ℤ b))

-- ---- equality as a test

pub equals_yes : {a b : ℤ} → a ≡ b → equals a b ≡ true
equals_yes {a} {b} e = rw (sym e) (same a)
  where
    same : (a : ℤ) → equals a a ≡ true
    same (pos a) = eq-eqb a a refl
    same (negsuc a) = eq-eqb a a refl

pub equals_eq : (a b : ℤ) → equals a b ≡ true → a ≡ b
equals_eq (pos a) (pos b) e = ap pos (eqb-true a b e)
equals_eq (pos a) (negsuc b) e = cc
equals_eq (negsuc a) (pos b) e = cc
equals_eq (negsuc a) (negsuc b) e = ap negsuc (eqb-true a b e)

pub equals_no : {a b : ℤ} → a ≢ b → equals a b ≡ false
equals_no {a} {b} n = go (equals a b) (λ e. n (equals_eq a b e))
  where
    go : (t : Bool) → (t ≡ true → ⊥) → t ≡ false
    go true n = absurd (n refl)
    go false n = refl

-- ---- order as a test

pub above→not_le : (a b : ℤ) → lt_z b a ≡ true → le_z a b ≡ false
above→not_le (pos a) (pos b) e = lt-leb a b (ltb-true b a e)
above→not_le (pos a) (negsuc b) e = refl
above→not_le (negsuc a) (pos b) e = cc
above→not_le (negsuc a) (negsuc b) e = lt-leb b a (ltb-true a b e)

pub not_above→le : (a b : ℤ) → lt_z b a ≡ false → le_z a b ≡ true
not_above→le (pos a) (pos b) e = le-leb a b (ltb-false b a e)
not_above→le (pos a) (negsuc b) e = cc
not_above→le (negsuc a) (pos b) e = refl
not_above→le (negsuc a) (negsuc b) e = le-leb b a (ltb-false a b e)

-- ---- the sign of a product: a positive number changes nothing

pub positive_of_times : (n : ℕ) (z : ℤ) → pos 0 <ℤ (pos n *ℤ z) → pos 0 <ℤ z
positive_of_times n (pos zero) h = let p : 0 < n * 0 = ltb→lt 0 (n * 0) h.lt in absurd (omega arith)
positive_of_times n (pos (suc m)) h = record { lt = lt→ltb 0 (suc m) (omega arith) }
positive_of_times n (negsuc m) h = absurd (go (n * suc m) h)
  where
    go : (k : ℕ) → pos 0 <ℤ neg_ℤ (pos k) → ⊥
    go zero h = h.lt
    go (suc k) h = h.lt

pub times_positive : (n : ℕ) (z : ℤ) → 0 < n → pos 0 <ℤ z → pos 0 <ℤ (pos n *ℤ z)
times_positive n (pos m) p h = record { lt = lt→ltb 0 (n * m) (mul-pos {m = n} {n = m} p (ltb→lt 0 m h.lt)) }
times_positive n (negsuc m) p h = absurd h.lt
