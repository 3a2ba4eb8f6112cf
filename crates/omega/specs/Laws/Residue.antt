-- The residue of an entry, as the code computes it.
use Rattle.std.specs.Prelude.{◌≡◌, refl, true, ℕ, zero, suc, ◌+◌, ◌*◌, ◌-◌, ◌%◌, ◌^◌, ◌<◌, ◌≤◌, eqb, ℤ, pos, negsuc, neg_ℤ, ◌+ℤ◌, ◌*ℤ◌}
use Rattle.std.proofs.Common.{ap, arith, eqb-true, le-ltb}
use Rattle.std.specs.Int.Signed.{rem_z}
use Rattle.matrix.specs.Range.{every_from, every}
use Rattle.matrix.specs.Laws.Range.{every_sound}
use Rattle.gaussian.specs.Gaussian.{gaussian}
use Rattle.omega.specs.Modular.{remainder, residue_of}
use Rattle.omega.specs.Laws.Congruence.{Alike, alike_of, alike_sym, alike_trans, alike_add, alike_mul, alike_remainder, remainder_lt, alike_equal}

-- 14 to the power 16 is 1
repeated : every 256 (λ k. eqb (14 ^ (k % 16) % 17) (14 ^ k % 17)) ≡ true
unfolding every_from
repeated = refl

pub power_repeated : (k : ℕ) → k < 256 → 14 ^ (k % 16) % 17 ≡ 14 ^ k % 17
power_repeated k h = eqb-true (14 ^ (k % 16) % 17) (14 ^ k % 17) (every_sound 256 (λ k. eqb (14 ^ (k % 16) % 17) (14 ^ k % 17)) repeated k h)

-- the machine's remainder has the sign of z; 17 more is positive
abbrev pub lifted : ℤ → ℕ
lifted (pos n) = n % 17 + 17
lifted (negsuc n) = 17 - suc n % 17

pub lifted_is : (z : ℤ) → rem_z z (pos 17) +ℤ pos 17 ≡ pos (lifted z)
lifted_is (pos n) = refl
lifted_is (negsuc n) = go (suc n % 17) (omega arith)
  where
    go : (r : ℕ) → r < 17 → neg_ℤ (pos r) +ℤ pos 17 ≡ pos (17 - r)
    go zero h = refl
    go (suc r) h = rw (le-ltb 17 (suc r) (omega arith))

pub lifted_most : (z : ℤ) → lifted z ≤ 33
lifted_most (pos n) = omega arith
lifted_most (negsuc n) = omega arith

pub lifted_remainder : (z : ℤ) → lifted z % 17 ≡ remainder z
unfolding remainder
lifted_remainder (pos n) = omega arith
lifted_remainder (negsuc n) = omega arith

-- from the remainders of its parts
pub residue_is : (re im : ℤ) (k p a b : ℕ) → p ≡ 14 ^ k % 17 → a ≡ remainder re → b ≡ remainder im → p * (a + 4 * b) % 17 ≡ residue_of k (gaussian re im)
unfolding remainder
residue_is re im k p a b e f g =
    alike_equal (p * (a + 4 * b) % 17) (residue_of k (gaussian re im)) (omega arith) (remainder_lt (pos (14 ^ k) *ℤ (re +ℤ pos 4 *ℤ im)))
    (alike_trans (alike_remainder (pos (p * (a + 4 * b))))
    (alike_trans (alike_mul (same (pos (14 ^ k)) e) (alike_add (same re f) (alike_mul (alike_of {x = pos 4} refl) (same im g))))
    (alike_sym (alike_remainder (pos (14 ^ k) *ℤ (re +ℤ pos 4 *ℤ im))))))
  where
    same : (z : ℤ) {n : ℕ} → n ≡ remainder z → Alike (pos n) z
    same z e = alike_trans (alike_of (ap pos e)) (alike_remainder z)
