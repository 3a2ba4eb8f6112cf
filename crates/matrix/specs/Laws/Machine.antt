-- Signed machine arithmetic, a step at a time. A signed local holds bits, so what a proof of code is asked speaks of `to_z w64 (of_z w64 z)`
-- at each operand. `Sized b x y` says that x, so written, is the whole number y, of size at most b.
use Rattle.std.specs.Prelude.{◌≡◌, refl, ℕ, zero, suc, ◌+◌, ◌*◌, ◌/◌, ◌%◌, ◌^◌, ◌<◌, ◌≤◌, eqb, ℤ, pos, negsuc, neg_ℤ, nat_abs, ◌+ℤ◌, ◌-ℤ◌, ◌*ℤ◌}
use Rattle.std.proofs.Common.{sym, ap, ◌∙◌, lt_of_le_of_lt, le_trans, mul-le-mul, add-le-add, arith, eq-eqb, ne_eqb, SFits, to_z, of_z, to_z-of_z}
use Rattle.std.proofs.Math.IntN.{ℤ_discrete}
use Rattle.std.specs.Int.Signed.{mag, rem_z}
use Rattle.std.specs.Int.{w64}
use Rattle.matrix.specs.Integer.{parity, half, equals}
use Rattle.matrix.specs.Laws.Integer.{nat_abs_add_le, nat_abs_minus_le, nat_abs_mul, equals_yes, equals_no}
use Rattle.matrix.specs.Laws.Parity.{nat_abs_half}

pub record Sized (b : ℕ) (x y : ℤ) : Type 0 where
  pub is : x ≡ y
  pub le : nat_abs y ≤ b

pub mag_le : (z : ℤ) → mag z ≤ nat_abs z
mag_le (pos n) = omega arith
mag_le (negsuc n) = omega arith

module _ {b : ℕ} {x y : ℤ} (s : Sized b x y) (t : b < 2 ^ 63) where
  -- no overflow
  pub fits : SFits w64 x
  fits = record { sfits = lt_of_le_of_lt (mag_le x) (rw s.is (lt_of_le_of_lt s.le t)) }

  -- stored and read back
  pub again : Sized b (to_z w64 (of_z w64 x)) y
  again = record { is = to_z-of_z fits ∙ s.is; le = s.le }

pub exact : (z : ℤ) {b : ℕ} → nat_abs z ≤ b → Sized b z z
exact z h = record { is = refl; le = h }

-- a number that is stored, as a parameter or an element
pub stored : (z : ℤ) {b : ℕ} → nat_abs z ≤ b → b < 2 ^ 63 → Sized b (to_z w64 (of_z w64 z)) z
stored z h t = again (exact z h) t

module _ {b c : ℕ} {x x' y y' : ℤ} (s : Sized b x x') (t : Sized c y y') where
  pub add : Sized (b + c) (x +ℤ y) (x' +ℤ y')
  add = record { is = rw (s.is, t.is); le = le_trans (nat_abs_add_le x' y') (add-le-add s.le t.le) }

  pub sub : Sized (b + c) (x -ℤ y) (x' -ℤ y')
  sub = record { is = rw (s.is, t.is); le = le_trans (nat_abs_minus_le x' y') (add-le-add s.le t.le) }

  pub mul : Sized (b * c) (x *ℤ y) (x' *ℤ y')
  mul = record { is = rw (s.is, t.is); le = rw nat_abs_mul (mul-le-mul s.le t.le) }

pub halve : {b : ℕ} {x y : ℤ} → Sized b x y → Sized (b / 2) (half x) (half y)
halve {b} {x} {y} s = record { is = rw s.is; le = let h = s.le in let e = nat_abs_half y in omega arith }

-- a call's result of type i64, stored and read back
pub kept : {z : ℤ} → mag z < 2 ^ 63 → to_z w64 (of_z w64 z) ≡ z
kept h = to_z-of_z {w = w64} (record { sfits = h })

-- the test `x == y` of two signed numbers compares their bits
pub same_bits : {x y : ℤ} → mag x < 2 ^ 63 → mag y < 2 ^ 63 → of_z w64 x ≡ of_z w64 y → x ≡ y
same_bits f g e = sym (kept f) ∙ ap (to_z w64) e ∙ kept g

pub equal_bits : (x y : ℤ) → mag x < 2 ^ 63 → mag y < 2 ^ 63 → eqb (of_z w64 x) (of_z w64 y) ≡ equals x y
equal_bits x y f g = elim (ℤ_discrete x y) [
  | yes e ↦ eq-eqb _ _ (ap (of_z w64) e) ∙ sym (equals_yes e)
  | no n ↦ ne_eqb _ _ (λ e. n (same_bits f g e)) ∙ sym (equals_no n)
]

-- ---- division by 2

pub fits_half : (z : ℤ) → SFits w64 z → SFits w64 (half z)
fits_half z f = record { sfits = lt_of_le_of_lt (mag_half z) f.sfits }
  where
    mag_half : (z : ℤ) → mag (half z) ≤ mag z
    mag_half (pos a) = omega arith
    mag_half (negsuc a) = let h = mag_le (half (negsuc a)) in let e = nat_abs_half (negsuc a) in omega arith

-- the test `z % 2 == 0`
pub rem_even : (z : ℤ) → of_z w64 (rem_z z (pos 2)) ≡ 0 → parity z ≡ 0
unfolding parity
rem_even (pos a) e = e
rem_even (negsuc a) e = go (suc a % 2) (omega arith) e
  where
    go : (r : ℕ) → r < 2 → of_z w64 (neg_ℤ (pos r)) ≡ 0 → r ≡ 0
    go zero h e = refl
    go (suc r) h e = absurd (omega arith)

pub rem_odd : (z : ℤ) → (of_z w64 (rem_z z (pos 2)) ≡ 0 → ⊥) → parity z ≡ 1
unfolding parity
rem_odd (pos a) n = let h : (a % 2 ≡ 0 → ⊥) = n in omega arith
rem_odd (negsuc a) n = let h : (suc a % 2 ≡ 0 → ⊥) = λ e. n (ap (λ r. of_z w64 (neg_ℤ (pos r))) e) in omega arith
