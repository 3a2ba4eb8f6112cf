-- Operators: what standing for the same matrix keeps, and the one pair that is least. All for every exponent.
use Rattle.std.specs.Prelude.{◌≡◌, refl, ◌⊎◌, [], ◌∷◌, ℕ, zero, suc, ◌+◌, ◌*◌, ◌-◌, ◌/◌, ◌%◌, ◌^◌, ◌<◌, ◌≤◌, ◌<ℤ◌}
use Rattle.std.proofs.Common.{sym, ◌∙◌, ap, ap₂, subst, inl, inr, arith, zero-add, suc-add, mul_comm, mul-pos, mul-le-mul, mul-le-mul_left, le_trans, pow-add, pow_pos, pow_mono}
use Rattle.std.proofs.Math.Decide.{dec_le}
use Rattle.std.proofs.Math.Nat.{two-pow-succ, le_of_mul-le-mul_left}
use lib.IntN.{ℤ, pos, negsuc, nat_abs, pow, ◌+ℤ◌, ◌*ℤ◌, zero-*ℤ, *ℤ-zero, *ℤ_comm}
use Rattle.matrix.specs.Range.{sum}
use Rattle.matrix.specs.Matrix.{Matrix, Same, δ, scaled, row_product}
use Rattle.matrix.specs.Determinant.{det}
use Rattle.matrix.specs.Operator.{Surd, whole, root, raised, Equal, Operator, operator, SameOperator, times_operator, inverse, negative, Orthogonal, Proper, ProperOrthogonal, LeastExponent, Reduced}
use Rattle.matrix.specs.Laws.Integer.{+ℤ-swap, *ℤ-distr-r, *ℤ-distr-l, *ℤ-unit-l, *ℤ-unit-r, *ℤ-left-comm, *ℤ-cancel-l, pos_nz, double_cancel, self_neg, minus_one-*ℤ, positive_of_times, times_positive, square_size}
use Rattle.matrix.specs.Laws.Ring.{var, num, ◌:+◌, ◌:*◌, ring}
use Rattle.matrix.specs.Laws.Sum.{sum_cong, sum_zero, term_le_sum, δ_same}
use Rattle.matrix.specs.Laws.Matrix.{product_assoc, orthogonal_product, orthogonal_columns}
use Rattle.matrix.specs.Laws.Determinant.{det_cong, det_scaled}

-- ---- powers of √2

abbrev surd : ℤ → ℤ → Surd
surd a b = (a, b)

-- √2 √2 is 2
pub root_root : (x : Surd) → root (root x) ≡ surd (pos 2 *ℤ x.0) (pos 2 *ℤ x.1)
root_root x = ap₂ surd (twice x.0) (twice x.1)
  where
    twice : (a : ℤ) → a +ℤ a ≡ pos 2 *ℤ a
    twice a = ring (a ∷ []) (var 0 :+ var 0) (num (pos 2) :* var 0) refl

raised_root : (k : ℕ) (x : Surd) → raised k (root x) ≡ root (raised k x)
unfolding raised
raised_root zero x = refl
raised_root (suc k) x = ap root (raised_root k x)

raised_raised : (k l : ℕ) (x : Surd) → raised k (raised l x) ≡ raised l (raised k x)
unfolding raised
raised_raised zero l x = refl
raised_raised (suc k) l x = ap root (raised_raised k l x) ∙ sym (raised_root l (raised k x))

pub raised_sum : (k l : ℕ) (x : Surd) → raised (k + l) x ≡ raised k (raised l x)
unfolding raised
raised_sum zero l x = ap (λ m. raised m x) (zero-add l)
raised_sum (suc k) l x = ap (λ m. raised m x) (suc-add k l) ∙ ap root (raised_sum k l x)

pub raised_inj : (k : ℕ) (x y : Surd) → raised k x ≡ raised k y → x ≡ y
unfolding raised
raised_inj zero x y e = e
raised_inj (suc k) x y e =
    raised_inj k x y (ap₂ surd (ap (λ z. z.1) e) (double_cancel (raised k x).1 (raised k y).1 (ap (λ z. z.0) e)))

abbrev plus : Surd → Surd → Surd
plus x y = (x.0 +ℤ y.0, x.1 +ℤ y.1)

raised_plus : (k : ℕ) (x y : Surd) → raised k (plus x y) ≡ plus (raised k x) (raised k y)
unfolding raised
raised_plus zero x y = refl
raised_plus (suc k) x y = ap root (raised_plus k x y) ∙ ap₂ surd (+ℤ-swap (raised k x).1 (raised k y).1 (raised k x).1 (raised k y).1) refl

abbrev times : ℤ → Surd → Surd
times s x = (s *ℤ x.0, s *ℤ x.1)

raised_times : (k : ℕ) (s : ℤ) (x : Surd) → raised k (times s x) ≡ times s (raised k x)
unfolding raised
raised_times zero s x = refl
raised_times (suc k) s x = ap root (raised_times k s x) ∙ ap₂ surd (sym (*ℤ-distr-l s (raised k x).1 (raised k x).1)) refl

-- an even power of √2 is a power of 2
pub raised_twice : (d : ℕ) (x : ℤ) → raised (d + d) (whole x) ≡ whole (pos (2 ^ d) *ℤ x)
unfolding raised
raised_twice zero x = ap₂ surd (sym (*ℤ-unit-l x)) refl
raised_twice (suc d) x =
    ap (λ m. raised m (whole x)) (twice d) ∙ ap (λ z. root (root z)) (raised_twice d x)
    ∙ ap₂ surd (sym (*ℤ-distr-r (pos (2 ^ d)) (pos (2 ^ d)) x) ∙ ap (λ m. pos m *ℤ x) (sym (two-pow-succ d))) refl
  where
    twice : (d : ℕ) → suc d + suc d ≡ suc (suc (d + d))
    twice d = omega arith

-- ---- equal entries

pub equal_times : (k l : ℕ) (s a b : ℤ) → Equal k a l b → Equal k (s *ℤ a) l (s *ℤ b)
equal_times k l s a b e =
    ap (λ z. raised l (s *ℤ a, z)) (sym (*ℤ-zero s)) ∙ raised_times l s (whole a) ∙ ap (times s) e ∙ sym (raised_times k s (whole b))
    ∙ ap (λ z. raised k (s *ℤ b, z)) (*ℤ-zero s)

equal_trans : (k l m : ℕ) (a b c : ℤ) → Equal k a l b → Equal l b m c → Equal k a m c
equal_trans k l m a b c p q =
    raised_inj l (raised m (whole a)) (raised k (whole c))
    (raised_raised l m (whole a) ∙ ap (raised m) p ∙ raised_raised m k (whole b) ∙ ap (raised k) q ∙ raised_raised k l (whole c))

-- more powers of √2 below both
equal_more : (m k l : ℕ) (a b : ℤ) → Equal k a l b → Equal (m + k) a (m + l) b
equal_more m k l a b e = raised_sum m l (whole a) ∙ ap (raised m) e ∙ sym (raised_sum m k (whole b))

equal_more_r : (k l m : ℕ) (a b : ℤ) → Equal k a l b → Equal (k + m) a (l + m) b
equal_more_r k l m a b e =
    raised_sum l m (whole a) ∙ raised_raised l m (whole a) ∙ ap (raised m) e ∙ sym (raised_raised k m (whole b)) ∙ sym (raised_sum k m (whole b))

equal_product : (k l k' l' : ℕ) (a b a' b' : ℤ) → Equal k a l b → Equal k' a' l' b' → Equal (k + k') (a *ℤ a') (l + l') (b *ℤ b')
equal_product k l k' l' a b a' b' p q =
    equal_trans (k + k') (l + k') (l + l') (a *ℤ a') (b *ℤ a') (b *ℤ b')
    (equal_more_r k l k' (a *ℤ a') (b *ℤ a') (rw (*ℤ_comm a a', *ℤ_comm b a') (equal_times k l a' a b p)))
    (equal_more l k' l' (b *ℤ a') (b *ℤ b') (equal_times k' l' b a' b' q))

equal_sum : (k l n : ℕ) (f g : ℕ → ℤ) → ((i : ℕ) → i < n → Equal k (f i) l (g i)) → Equal k (sum n f) l (sum n g)
unfolding sum
equal_sum k l zero f g h = raised_zero l ∙ sym (raised_zero k)
  where
    raised_zero : (k : ℕ) → raised k (whole (pos 0)) ≡ whole (pos 0)
    raised_zero k = raised_times k (pos 0) (whole (pos 0)) ∙ ap₂ surd (zero-*ℤ (raised k (whole (pos 0))).0) (zero-*ℤ (raised k (whole (pos 0))).1)
equal_sum k l (suc n) f g h =
    raised_plus l (whole (sum n f)) (whole (f n)) ∙ ap₂ plus (equal_sum k l n f g (λ i d. h i (omega arith))) (h n (omega arith))
    ∙ sym (raised_plus k (whole (sum n g)) (whole (g n)))

-- ---- sameness is an equivalence, and products keep it

pub same_operator_refl : (A : Operator) → SameOperator A A
same_operator_refl A = record { entries = λ i j hi hj. refl }

pub same_operator_sym : {A B : Operator} → SameOperator A B → SameOperator B A
same_operator_sym h = record { entries = λ i j hi hj. sym (h.entries i j hi hj) }

pub same_operator_trans : {A B C : Operator} → SameOperator A B → SameOperator B C → SameOperator A C
same_operator_trans {A} {B} {C} p q = record {
  entries = λ i j hi hj. equal_trans A.exponent B.exponent C.exponent (A.matrix i j) (B.matrix i j) (C.matrix i j) (p.entries i j hi hj) (q.entries i j hi hj);
}

-- equal exponents and equal entries
pub same_operator_of : (A B : Operator) → A.exponent ≡ B.exponent → Same 6 A.matrix B.matrix → SameOperator A B
same_operator_of A B p q = record { entries = λ i j hi hj. ap₂ (λ k x. raised k (whole x)) (sym p) (q i j hi hj) }

pub times_same : {A A' B B' : Operator} → SameOperator A A' → SameOperator B B' → SameOperator (times_operator A B) (times_operator A' B')
times_same {A} {A'} {B} {B'} p q = record {
  entries = λ i j hi hj.
      equal_sum (A.exponent + B.exponent) (A'.exponent + B'.exponent) 6 (λ k. A.matrix i k *ℤ B.matrix k j) (λ k. A'.matrix i k *ℤ B'.matrix k j)
      (λ k hk. equal_product A.exponent A'.exponent B.exponent B'.exponent (A.matrix i k) (A'.matrix i k) (B.matrix k j) (B'.matrix k j) (p.entries i k hi hk) (q.entries k j hk hj));
}

pub times_assoc : (A B C : Operator) → SameOperator (times_operator (times_operator A B) C) (times_operator A (times_operator B C))
times_assoc A B C =
    same_operator_of (times_operator (times_operator A B) C) (times_operator A (times_operator B C)) (omega arith)
    (λ i j hi hj. ap (λ X. X i j) (product_assoc 6 A.matrix B.matrix C.matrix))

pub times_orthogonal : {A B : Operator} → Orthogonal A → Orthogonal B → Orthogonal (times_operator A B)
times_orthogonal {A} {B} p q = record {
  rows = λ i j hi hj.
      orthogonal_product 6 (pos (2 ^ A.exponent)) (pos (2 ^ B.exponent)) A.matrix B.matrix p.rows q.rows i j hi hj
      ∙ ap (λ m. pos m *ℤ δ i j) (sym (pow-add 2 A.exponent B.exponent));
}

-- rows that are orthogonal make columns that are
pub inverse_orthogonal : {A : Operator} → Orthogonal A → Orthogonal (inverse A)
inverse_orthogonal {A} o = record { rows = orthogonal_columns 6 (pos (2 ^ A.exponent)) A.matrix o.rows }

pub negative_orthogonal : {A : Operator} → Orthogonal A → Orthogonal (negative A)
negative_orthogonal {A} o = record { rows = λ i j hi hj. sum_cong (λ c hc. twice (A.matrix i c) (A.matrix j c)) ∙ o.rows i j hi hj }
  where
    twice : (x y : ℤ) → negsuc 0 *ℤ x *ℤ (negsuc 0 *ℤ y) ≡ x *ℤ y
    twice x y = ring (x ∷ y ∷ []) (num (negsuc 0) :* var 0 :* (num (negsuc 0) :* var 1)) (var 0 :* var 1) refl

-- ---- being orthogonal or proper is a property of the matrix that the operator stands for

pub same_orthogonal : {A B : Operator} → SameOperator A B → Orthogonal A → Orthogonal B
same_orthogonal {A} {B} h o = record { rows = λ i j hi hj. at i j hi hj }
  where
    here : (i j : ℕ) → i < 6 → j < 6 → Equal (A.exponent + A.exponent) (row_product 6 A.matrix i j) (B.exponent + B.exponent) (row_product 6 B.matrix i j)
    here i j hi hj =
        equal_sum (A.exponent + A.exponent) (B.exponent + B.exponent) 6 (λ c. A.matrix i c *ℤ A.matrix j c) (λ c. B.matrix i c *ℤ B.matrix j c)
        (λ c hc. equal_product A.exponent B.exponent A.exponent B.exponent (A.matrix i c) (B.matrix i c) (A.matrix j c) (B.matrix j c) (h.entries i c hi hc) (h.entries j c hj hc))

    at : (i j : ℕ) → i < 6 → j < 6 → row_product 6 B.matrix i j ≡ pos (2 ^ B.exponent) *ℤ δ i j
    at i j hi hj =
        *ℤ-cancel-l (row_product 6 B.matrix i j) (pos (2 ^ B.exponent) *ℤ δ i j) (pos (2 ^ A.exponent)) (pos_nz (2 ^ A.exponent) (pow_pos A.exponent))
        (ap (λ z. z.0) (sym (raised_twice A.exponent (row_product 6 B.matrix i j)) ∙ sym (here i j hi hj) ∙ raised_twice B.exponent (row_product 6 A.matrix i j))
        ∙ ap (λ x. pos (2 ^ B.exponent) *ℤ x) (o.rows i j hi hj)
        ∙ *ℤ-left-comm (pos (2 ^ B.exponent)) (pos (2 ^ A.exponent)) (δ i j))

-- of the larger of two exponents: an entry is the other's, times the power of √2 by which they differ
raised_by : {A B : Operator} → SameOperator A B → (d : ℕ) → A.exponent ≡ B.exponent + d
    → (i j : ℕ) → i < 6 → j < 6 → whole (A.matrix i j) ≡ raised d (whole (B.matrix i j))
raised_by {A} {B} h d e i j hi hj =
    raised_inj B.exponent (whole (A.matrix i j)) (raised d (whole (B.matrix i j)))
    (h.entries i j hi hj ∙ ap (λ m. raised m (whole (B.matrix i j))) e ∙ raised_sum B.exponent d (whole (B.matrix i j)))

-- exponents that differ by an even number: a power of 2 between the matrices
even_apart : {A B : Operator} → SameOperator A B → (d : ℕ) → A.exponent ≡ B.exponent + (d + d) → Same 6 A.matrix (scaled (pos (2 ^ d)) B.matrix)
even_apart {A} {B} h d e i j hi hj = ap (λ z. z.0) (raised_by h (d + d) e i j hi hj ∙ raised_twice d (B.matrix i j))

-- by an odd number: both matrices are 0
odd_apart : {A B : Operator} → SameOperator A B → (d : ℕ) → A.exponent ≡ B.exponent + suc (d + d)
    → (i j : ℕ) → i < 6 → j < 6 → (A.matrix i j ≡ pos 0) × (B.matrix i j ≡ pos 0)
unfolding raised
odd_apart {A} {B} h d e i j hi hj =
    let p : whole (A.matrix i j) ≡ root (whole (pos (2 ^ d) *ℤ B.matrix i j)) = raised_by h (suc (d + d)) e i j hi hj ∙ ap root (raised_twice d (B.matrix i j)) in
    (ap (λ z. z.0) p, *ℤ-cancel-l (B.matrix i j) (pos 0) (pos (2 ^ d)) (pos_nz (2 ^ d) (pow_pos d)) (sym (ap (λ z. z.1) p) ∙ sym (*ℤ-zero (pos (2 ^ d)))))

apart : (a b : ℕ) → b ≤ a → ((d : ℕ) × (a ≡ b + (d + d))) ⊎ ((d : ℕ) × (a ≡ b + suc (d + d)))
apart a b h = go ((a - b) % 2) (omega arith) refl
  where
    go : (r : ℕ) → r < 2 → (a - b) % 2 ≡ r → ((d : ℕ) × (a ≡ b + (d + d))) ⊎ ((d : ℕ) × (a ≡ b + suc (d + d)))
    go zero l e = inl ((a - b) / 2, omega arith)
    go (suc r) l e = inr ((a - b) / 2, omega arith)

power_of_two : (d n : ℕ) → (m : ℕ) × (0 < m) × (pow (pos (2 ^ d)) n ≡ pos m)
unfolding pow lib.IntN.one
power_of_two d zero = (1, omega arith, refl)
power_of_two d (suc n) =
    let (m, l, e) = power_of_two d n in (m * 2 ^ d, mul-pos {m = m} {n = 2 ^ d} l (pow_pos d), ap (λ x. x *ℤ pos (2 ^ d)) e)

det_zero : (M : Matrix) → ((i j : ℕ) → i < 6 → j < 6 → M i j ≡ pos 0) → det 6 M ≡ pos 0
unfolding pow
det_zero M h =
    det_cong 6 M (scaled (pos 0) M) (λ i j hi hj. h i j hi hj ∙ sym (zero-*ℤ (M i j))) ∙ det_scaled 6 (pos 0) M
    ∙ ap (λ x. x *ℤ det 6 M) (*ℤ-zero (pow (pos 0) 5)) ∙ zero-*ℤ (det 6 M)

-- what the determinants have in common: a positive number between them, or both are 0
abbrev Apart : Operator → Operator → Type 0
Apart A B = ((m : ℕ) × (0 < m) × (det 6 A.matrix ≡ pos m *ℤ det 6 B.matrix)) ⊎ ((det 6 A.matrix ≡ pos 0) × (det 6 B.matrix ≡ pos 0))

det_apart : (A B : Operator) → SameOperator A B → B.exponent ≤ A.exponent → Apart A B
det_apart A B h l = go (apart A.exponent B.exponent l)
  where
    go : ((d : ℕ) × (A.exponent ≡ B.exponent + (d + d))) ⊎ ((d : ℕ) × (A.exponent ≡ B.exponent + suc (d + d))) → Apart A B
    go (inl (d, e)) =
        let (m, p, q) = power_of_two d 6 in
        inl (m, p, det_cong 6 _ _ (even_apart h d e) ∙ det_scaled 6 (pos (2 ^ d)) B.matrix ∙ ap (λ x. x *ℤ det 6 B.matrix) q)
    go (inr (d, e)) = inr (det_zero A.matrix (λ i j hi hj. (odd_apart h d e i j hi hj).0), det_zero B.matrix (λ i j hi hj. (odd_apart h d e i j hi hj).1))

pub same_proper : {A B : Operator} → SameOperator A B → Proper A → Proper B
same_proper {A} {B} h p = record { positive = go (dec_le B.exponent A.exponent) }
  where
    zero_det : det 6 A.matrix ≡ pos 0 → ⊥
    zero_det e = (subst (λ x. pos 0 <ℤ x) e p.positive).lt

    down : Apart A B → pos 0 <ℤ det 6 B.matrix
    down (inl (m, l, e)) = positive_of_times m (det 6 B.matrix) (subst (λ x. pos 0 <ℤ x) e p.positive)
    down (inr (e, f)) = absurd (zero_det e)

    up : Apart B A → pos 0 <ℤ det 6 B.matrix
    up (inl (m, l, e)) = subst (λ x. pos 0 <ℤ x) (sym e) (times_positive m (det 6 A.matrix) l p.positive)
    up (inr (f, e)) = absurd (zero_det e)

    go : Dec (B.exponent ≤ A.exponent) → pos 0 <ℤ det 6 B.matrix
    go (yes l) = down (det_apart A B h l)
    go (no f) = up (det_apart B A (same_operator_sym h) (omega arith))

pub same_proper_orthogonal : {A B : Operator} → SameOperator A B → ProperOrthogonal A → ProperOrthogonal B
same_proper_orthogonal s p = record { orthogonal = same_orthogonal s p.orthogonal; proper = same_proper s p.proper }

-- ---- the least exponent

not_zero_lem : {A : Operator} → Orthogonal A → ((i j : ℕ) → i < 6 → j < 6 → A.matrix i j ≡ pos 0) → ⊥
not_zero_lem {A} o z =
    let e : pos (2 ^ A.exponent) ≡ pos 0 =
    sym (o.rows 0 0 (omega arith) (omega arith) ∙ ap (λ x. pos (2 ^ A.exponent) *ℤ x) (δ_same 0) ∙ *ℤ-unit-r (pos (2 ^ A.exponent)))
    ∙ sum_cong (λ c hc. ap (λ x. x *ℤ A.matrix 0 c) (z 0 c (omega arith) hc) ∙ zero-*ℤ (A.matrix 0 c)) ∙ sum_zero 6 in
    pos_nz (2 ^ A.exponent) (pow_pos A.exponent) e

-- the exponents with which an orthogonal matrix can be written differ by even numbers
pub even_difference : {A B : Operator} → Orthogonal A → SameOperator A B → B.exponent ≤ A.exponent → (d : ℕ) × (A.exponent ≡ B.exponent + (d + d))
even_difference {A} {B} o s l = elim (apart A.exponent B.exponent l) [
  | inl x ↦ x
  | inr (d, e) ↦ absurd (not_zero_lem o (λ i j hi hj. (odd_apart s d e i j hi hj).0))
]

-- an operator is not its own negative
pub not_negative : {A : Operator} → Orthogonal A → SameOperator A (negative A) → ⊥
not_negative {A} o h =
    not_zero_lem o
    (λ i j hi hj.
    self_neg (A.matrix i j)
    (ap (λ z. z.0) (raised_inj A.exponent (whole (A.matrix i j)) (whole (negsuc 0 *ℤ A.matrix i j)) (h.entries i j hi hj)) ∙ minus_one-*ℤ (A.matrix i j)))

-- a reduced pair has the smallest exponent of all that stand for its matrix
reduced_below : {A B : Operator} → Orthogonal A → Reduced A → SameOperator A B → A.exponent ≤ B.exponent
unfolding raised
reduced_below {A} {B} o r s = go (dec_le A.exponent B.exponent)
  where
    more : (d : ℕ) → A.exponent ≡ B.exponent + suc d → ⊥
    more zero e = not_zero_lem o (λ i j hi hj. (odd_apart s 0 e i j hi hj).0)
    more (suc d) e =
        let small : A.exponent ≤ 1 = r.small (λ i j hi hj. ((raised d (whole (B.matrix i j))).0, ap (λ z. z.0) (raised_by s (suc (suc d)) e i j hi hj))) in
        omega arith

    go : Dec (A.exponent ≤ B.exponent) → A.exponent ≤ B.exponent
    go (yes h) = h
    go (no h) = absurd (more (A.exponent - suc B.exponent) (omega arith))

pub reduced_least : {A B : Operator} → SameOperator A B → Orthogonal B → Reduced B → LeastExponent A B.exponent
reduced_least {A} {B} s o r = record {
  attained = (B.matrix, s);
  smallest = λ C h. reduced_below o r (same_operator_trans (same_operator_sym s) h);
}

pub least_unique : {A : Operator} {l l' : ℕ} → LeastExponent A l → LeastExponent A l' → l ≡ l'
least_unique {A} {l} {l'} p q =
    let a : l ≤ l' = p.smallest (operator l' q.attained.0) q.attained.1 in
    let b : l' ≤ l = q.smallest (operator l p.attained.0) p.attained.1 in
    omega arith

pub least_same : {A B : Operator} {l : ℕ} → SameOperator A B → LeastExponent A l → LeastExponent B l
least_same s p = record {
  attained = (p.attained.0, same_operator_trans (same_operator_sym s) p.attained.1);
  smallest = λ C h. p.smallest C (same_operator_trans s h);
}

-- the least exponent of a product of orthogonal operators is the sum of theirs, less an even number
pub least_product : {A B : Operator} {a b c : ℕ} → Orthogonal A → Orthogonal B → LeastExponent A a → LeastExponent B b → LeastExponent (times_operator A B) c
    → (d : ℕ) × (a + b ≡ c + (d + d))
least_product {A} {B} {a} {b} {c} o p h j k =
    let (M, s) = h.attained in
    let (N, t) = j.attained in
    let u = times_same s t in
    even_difference (times_orthogonal (same_orthogonal s o) (same_orthogonal t p)) (same_operator_trans (same_operator_sym u) k.attained.1) (k.smallest (times_operator (operator a M) (operator b N)) u)

-- two reduced pairs of one matrix are equal
pub reduced_unique : {A B : Operator} → Orthogonal A → Orthogonal B → Reduced A → Reduced B → SameOperator A B
    → (A.exponent ≡ B.exponent) × Same 6 A.matrix B.matrix
reduced_unique {A} {B} a b r s h =
    let p : A.exponent ≤ B.exponent = reduced_below a r h in
    let q : B.exponent ≤ A.exponent = reduced_below b s (same_operator_sym h) in
    let e : A.exponent ≡ B.exponent = omega arith in
    (e, λ i j hi hj. ap (λ z. z.0) (raised_inj B.exponent (whole (A.matrix i j)) (whole (B.matrix i j)) (h.entries i j hi hj ∙ ap (λ k. raised k (whole (B.matrix i j))) e)))

-- ---- half of every entry, and two powers of √2 less

pub halved_same : (k : ℕ) (M H : Matrix) → ((i j : ℕ) → i < 6 → j < 6 → M i j ≡ H i j +ℤ H i j) → SameOperator (operator (suc (suc k)) M) (operator k H)
unfolding raised
halved_same k M H h = record {
  entries = λ i j hi hj. ap (λ x. raised k (whole x)) (h i j hi hj) ∙ raised_root k (root (whole (H i j))) ∙ ap root (raised_root k (whole (H i j)));
}

-- ---- the size of the entries

square_le : (n b : ℕ) → n * n ≤ b * b → n ≤ b
square_le n b h = elim (dec_le n b) [
  | yes l ↦ l
  | no f ↦ let l : suc b ≤ n = omega arith in absurd (omega (arith, mul-le-mul l l))
]

pub entry_square : {A : Operator} → Orthogonal A → (i j : ℕ) → i < 6 → j < 6 → nat_abs (A.matrix i j) * nat_abs (A.matrix i j) ≤ 2 ^ A.exponent
entry_square {A} o i j hi hj =
    term_le_sum 6 (λ c. nat_abs (A.matrix i c) * nat_abs (A.matrix i c)) j hj (2 ^ A.exponent)
    (sum_cong (λ c hc. sym (square_size (A.matrix i c))) ∙ o.rows i i hi hi ∙ ap (λ x. pos (2 ^ A.exponent) *ℤ x) (δ_same i) ∙ *ℤ-unit-r (pos (2 ^ A.exponent)))

-- an exponent of at most 2 b keeps the entries within 2 to the power b
pub power_bound : (n k b : ℕ) → n * n ≤ 2 ^ k → k ≤ b + b → n ≤ 2 ^ b
power_bound n k b s h = square_le n (2 ^ b) (subst (λ x. n * n ≤ x) (pow-add 2 b b) (le_trans s (pow_mono h)))

pub entry_bound : {A : Operator} → Orthogonal A → (b : ℕ) → A.exponent ≤ b + b → (i j : ℕ) → i < 6 → j < 6 → nat_abs (A.matrix i j) ≤ 2 ^ b
entry_bound {A} o b h i j hi hj = power_bound (nat_abs (A.matrix i j)) A.exponent b (entry_square o i j hi hj) h

-- whether an entry's square is at most 2 to the power k is a property of the matrix that the operator stands for
pub same_square : {A B : Operator} → SameOperator A B → (i j : ℕ) → i < 6 → j < 6 → nat_abs (A.matrix i j) * nat_abs (A.matrix i j) ≤ 2 ^ A.exponent
    → nat_abs (B.matrix i j) * nat_abs (B.matrix i j) ≤ 2 ^ B.exponent
same_square {A} {B} h i j hi hj l =
    let a = A.matrix i j in
    let b = B.matrix i j in
    let x = nat_abs a * nat_abs a in
    let y = nat_abs b * nat_abs b in
    let p = 2 ^ A.exponent in
    let q = 2 ^ B.exponent in
    let e : pos q *ℤ (a *ℤ a) ≡ pos p *ℤ (b *ℤ b) =
    ap (λ z. z.0) (sym (raised_twice B.exponent (a *ℤ a)) ∙ equal_product A.exponent B.exponent A.exponent B.exponent a b a b (h.entries i j hi hj) (h.entries i j hi hj) ∙ raised_twice A.exponent (b *ℤ b)) in
    let f : q * x ≡ p * y = ap nat_abs (rw (square_size a, square_size b) at e) in
    le_of_mul-le-mul_left (subst (λ z. z ≤ p * q) f (rw (mul_comm p q) (mul-le-mul_left q l))) (pow_pos A.exponent)
