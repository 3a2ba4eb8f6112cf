-- Operators times a sign (document 02, P9: "0 for M and 1 for −M"): signs come out of products, the least exponent does not see them, and an
-- operator has one.
use Rattle.std.specs.Prelude.{◌≡◌, refl, Bool, true, false, cond, ℕ, zero, suc, ◌+◌, ◌%◌, ◌<◌, ◌≤◌, eqb, pos, negsuc, ◌*ℤ◌}
use Rattle.std.proofs.Common.{sym, ap, ◌∙◌, inl, inr, arith}
use Rattle.matrix.specs.Matrix.{Matrix, product, scaled}
use Rattle.matrix.specs.Operator.{Operator, operator, times_operator, SameOperator, SameUpToSign, Orthogonal, LeastExponent}
use Rattle.matrix.specs.Laws.Integer.{*ℤ-assoc, *ℤ-left-comm, *ℤ-unit-l}
use Rattle.matrix.specs.Laws.Matrix.{product_scaled_l, product_scaled_r}
use Rattle.matrix.specs.Laws.Operator.{equal_times, same_operator_sym, same_operator_trans, same_operator_of, times_same, not_negative}
use Rattle.clifford.specs.Columns.{sign_of, times_sign}

-- ---- signs alone

-- the sign of a product is that of the sum
sign_product : (s t : ℕ) → sign_of (s % 2) *ℤ sign_of (t % 2) ≡ sign_of ((s + t) % 2)
sign_product s t = let e : (s % 2 + t % 2) % 2 ≡ (s + t) % 2 = omega arith in go (s % 2) (t % 2) (omega arith) (omega arith) ∙ ap sign_of e
  where
    go : (a b : ℕ) → a < 2 → b < 2 → sign_of a *ℤ sign_of b ≡ sign_of ((a + b) % 2)
    go zero zero l u = refl
    go zero (suc zero) l u = refl
    go zero (suc (suc b)) l u = absurd (omega arith)
    go (suc zero) zero l u = refl
    go (suc zero) (suc zero) l u = refl
    go (suc zero) (suc (suc b)) l u = absurd (omega arith)
    go (suc (suc a)) b l u = absurd (omega arith)

square : (s : ℕ) → sign_of s *ℤ sign_of s ≡ pos 1
square s = go (eqb s 0)
  where
    go : (t : Bool) → cond t (pos 1) (negsuc 0) *ℤ cond t (pos 1) (negsuc 0) ≡ pos 1
    go true = refl
    go false = refl

-- ---- operators

pub sign_same : (s : ℕ) {A B : Operator} → SameOperator A B → SameOperator (times_sign s A) (times_sign s B)
sign_same s {A} {B} h = record {
  entries = λ i j hi hj. equal_times A.exponent B.exponent (sign_of s) (A.matrix i j) (B.matrix i j) (h.entries i j hi hj);
}

-- the sign 0 is none
pub sign_none : (A : Operator) → SameOperator (times_sign 0 A) A
sign_none A = same_operator_of (times_sign 0 A) A refl (λ i j hi hj. *ℤ-unit-l (A.matrix i j))

pub times_sign_r : (t : ℕ) (A B : Operator) → SameOperator (times_operator A (times_sign t B)) (times_sign t (times_operator A B))
times_sign_r t A B =
    same_operator_of (times_operator A (times_sign t B)) (times_sign t (times_operator A B)) refl
    (λ i j hi hj. ap (λ X. X i j) (product_scaled_r 6 (sign_of t) A.matrix B.matrix))

pub times_signs : (s t : ℕ) (A B : Operator) → SameOperator (times_operator (times_sign (s % 2) A) (times_sign (t % 2) B)) (times_sign ((s + t) % 2) (times_operator A B))
times_signs s t A B =
    let a = sign_of (s % 2) in
    let b = sign_of (t % 2) in
    let P = product 6 A.matrix B.matrix in
    same_operator_trans (times_sign_r (t % 2) (times_sign (s % 2) A) B)
    (same_operator_of (times_sign (t % 2) (times_operator (times_sign (s % 2) A) B)) (times_sign ((s + t) % 2) (times_operator A B)) refl
    (λ i j hi hj.
    ap (λ (X : Matrix). b *ℤ X i j) (product_scaled_l 6 a A.matrix B.matrix) ∙ *ℤ-left-comm b a (P i j) ∙ sym (*ℤ-assoc a b (P i j)) ∙ ap (λ x. x *ℤ P i j) (sign_product s t)))

-- a sign twice is none
twice : (s : ℕ) (A : Operator) → SameOperator (times_sign s (times_sign s A)) A
twice s A =
    same_operator_of (times_sign s (times_sign s A)) A refl
    (λ i j hi hj. sym (*ℤ-assoc (sign_of s) (sign_of s) (A.matrix i j)) ∙ ap (λ x. x *ℤ A.matrix i j) (square s) ∙ *ℤ-unit-l (A.matrix i j))

-- a sign taken to the other side
pub sign_other : (s : ℕ) {A B : Operator} → SameOperator A (times_sign s B) → SameOperator (times_sign s A) B
sign_other s {A} {B} h = same_operator_trans (sign_same s h) (twice s B)

-- "the CS count remains least for both": an operator and its negative have one least exponent
pub sign_least : (s : ℕ) {A : Operator} {l : ℕ} → LeastExponent A l → LeastExponent (times_sign s A) l
sign_least s {A} {l} h = record {
  attained = let (N, e) = h.attained in (scaled (sign_of s) N, sign_same s e);
  smallest = λ B e. h.smallest (times_sign s B) (same_operator_sym (sign_other s (same_operator_sym e)));
}

-- ---- up to sign

-- an operator times a sign is the operator up to sign, and so the other way round
pub up_to_sign : (s : ℕ) {A B : Operator} → SameOperator A (times_sign s B) → SameUpToSign A B
up_to_sign s {A} {B} h = go (eqb s 0) h
  where
    go : (t : Bool) → SameOperator A (operator B.exponent (scaled (cond t (pos 1) (negsuc 0)) B.matrix)) → SameUpToSign A B
    go true h = inl (same_operator_trans h (sign_none B))
    go false h = inr h

pub sign_of_both : {A B : Operator} → SameUpToSign A B → (s : ℕ) × SameOperator A (times_sign s B)
sign_of_both {A} {B} (inl h) = (0, same_operator_trans h (same_operator_sym (sign_none B)))
sign_of_both {A} {B} (inr h) = (1, h)

pub up_sym : {A B : Operator} → SameUpToSign A B → SameUpToSign B A
up_sym u = let (s, h) = sign_of_both u in up_to_sign s (same_operator_sym (sign_other s h))

pub up_trans : {A B C : Operator} → SameUpToSign A B → SameUpToSign B C → SameUpToSign A C
up_trans (inl p) (inl q) = inl (same_operator_trans p q)
up_trans (inl p) (inr q) = inr (same_operator_trans p q)
up_trans (inr p) (inl q) = inr (same_operator_trans p (sign_same 1 q))
up_trans {C = C} (inr p) (inr q) = inl (same_operator_trans p (same_operator_trans (sign_same 1 q) (twice 1 C)))

pub up_times : {A A' B B' : Operator} → SameUpToSign A A' → SameUpToSign B B' → SameUpToSign (times_operator A B) (times_operator A' B')
up_times (inl p) (inl q) = inl (times_same p q)
up_times {A' = A} {B' = B} (inl p) (inr q) = inr (same_operator_trans (times_same p q) (times_sign_r 1 A B))
up_times {A' = A} {B' = B} (inr p) (inl q) = inr (same_operator_trans (times_same p (same_operator_trans q (same_operator_sym (sign_none B)))) (times_signs 1 0 A B))
up_times {A' = A} {B' = B} (inr p) (inr q) = inl (same_operator_trans (times_same p q) (same_operator_trans (times_signs 1 1 A B) (sign_none (times_operator A B))))

-- "a number that follows from the letters": of the two signs one alone makes an operator what it is
pub sign_follows : (s t : ℕ) → s ≤ 1 → t ≤ 1 → {A B : Operator} → Orthogonal B → SameOperator A (times_sign s B) → SameOperator A (times_sign t B) → s ≡ t
sign_follows zero zero l u o g h = refl
sign_follows zero (suc zero) l u {A} {B} o g h = absurd (not_negative o (same_operator_trans (same_operator_sym (sign_none B)) (same_operator_trans (same_operator_sym g) h)))
sign_follows zero (suc (suc t)) l u o g h = absurd (omega arith)
sign_follows (suc zero) zero l u {A} {B} o g h = absurd (not_negative o (same_operator_trans (same_operator_sym (sign_none B)) (same_operator_trans (same_operator_sym h) g)))
sign_follows (suc zero) (suc zero) l u o g h = refl
sign_follows (suc zero) (suc (suc t)) l u o g h = absurd (omega arith)
sign_follows (suc (suc s)) t l u o g h = absurd (omega arith)
