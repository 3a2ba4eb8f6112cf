-- Congruence modulo 17.
use Rattle.std.specs.Prelude.{◌≡◌, refl, [], ◌∷◌, ℕ, suc, ◌+◌, ◌*◌, ◌-◌, ◌/◌, ◌%◌, ◌<◌, ℤ, pos, negsuc, nat_abs, ◌+ℤ◌, ◌-ℤ◌, ◌*ℤ◌}
use Rattle.std.proofs.Common.{sym, ap, arith}
use Rattle.matrix.specs.Laws.Ring.{var, num, :neg, ◌:+◌, ◌:-◌, ◌:*◌, ◌:=◌, ◌of◌, ring_by}
use Rattle.omega.specs.Modular.{remainder}

pub record Alike (x y : ℤ) : Type 0 where
  pub less : ℤ
  pub more : ℤ
  pub equal : x +ℤ pos 17 *ℤ less ≡ y +ℤ pos 17 *ℤ more

pub alike_of : {x y : ℤ} → x ≡ y → Alike x y
alike_of e = record { less = pos 0; more = pos 0; equal = ap (λ z. z +ℤ pos 17 *ℤ pos 0) e }

pub alike_sym : {x y : ℤ} → Alike x y → Alike y x
alike_sym h = record { less = h.more; more = h.less; equal = sym h.equal }

pub alike_trans : {x y z : ℤ} → Alike x y → Alike y z → Alike x z
alike_trans {x} {y} {z} h k = record {
  less = h.less +ℤ k.less;
  more = h.more +ℤ k.more;
  equal = ring_by (x ∷ y ∷ z ∷ h.less ∷ h.more ∷ k.less ∷ k.more ∷ []) (var 0 :+ num (pos 17) :* (var 3 :+ var 5)) (var 2 :+ num (pos 17) :* (var 4 :+ var 6))
      ((num (pos 1) of (var 0 :+ num (pos 17) :* var 3 := var 1 :+ num (pos 17) :* var 4)) ∷ (num (pos 1) of (var 1 :+ num (pos 17) :* var 5 := var 2 :+ num (pos 17) :* var 6)) ∷ [])
      (h.equal, (k.equal, tt)) refl;
}

pub alike_add : {x y a b : ℤ} → Alike x y → Alike a b → Alike (x +ℤ a) (y +ℤ b)
alike_add {x} {y} {a} {b} h k = record {
  less = h.less +ℤ k.less;
  more = h.more +ℤ k.more;
  equal = ring_by (x ∷ y ∷ a ∷ b ∷ h.less ∷ h.more ∷ k.less ∷ k.more ∷ []) (var 0 :+ var 2 :+ num (pos 17) :* (var 4 :+ var 6)) (var 1 :+ var 3 :+ num (pos 17) :* (var 5 :+ var 7))
      ((num (pos 1) of (var 0 :+ num (pos 17) :* var 4 := var 1 :+ num (pos 17) :* var 5)) ∷ (num (pos 1) of (var 2 :+ num (pos 17) :* var 6 := var 3 :+ num (pos 17) :* var 7)) ∷ [])
      (h.equal, (k.equal, tt)) refl;
}

pub alike_mul : {x y a b : ℤ} → Alike x y → Alike a b → Alike (x *ℤ a) (y *ℤ b)
alike_mul {x} {y} {a} {b} h k = record {
  less = x *ℤ k.less +ℤ b *ℤ h.less;
  more = x *ℤ k.more +ℤ b *ℤ h.more;
  equal = ring_by (x ∷ y ∷ a ∷ b ∷ h.less ∷ h.more ∷ k.less ∷ k.more ∷ [])
      (var 0 :* var 2 :+ num (pos 17) :* (var 0 :* var 6 :+ var 3 :* var 4)) (var 1 :* var 3 :+ num (pos 17) :* (var 0 :* var 7 :+ var 3 :* var 5))
      ((var 3 of (var 0 :+ num (pos 17) :* var 4 := var 1 :+ num (pos 17) :* var 5)) ∷ (var 0 of (var 2 :+ num (pos 17) :* var 6 := var 3 :+ num (pos 17) :* var 7)) ∷ [])
      (h.equal, (k.equal, tt)) refl;
}

pub alike_remainder : (z : ℤ) → Alike (pos (remainder z)) z
unfolding remainder
alike_remainder (pos n) = record { less = pos (n / 17); more = pos 0; equal = ap pos (omega arith) }
alike_remainder (negsuc n) = record {
  less = pos 0;
  more = pos (n / 17 + 1);
  equal = let e : pos (16 - n % 17 + suc n) ≡ pos (17 * (n / 17 + 1)) = ap pos (omega arith) in
      ring_by (pos (16 - n % 17) ∷ pos (suc n) ∷ pos (17 * (n / 17 + 1)) ∷ []) (var 0 :+ num (pos 0)) (:neg (var 1) :+ var 2)
      ((num (pos 1) of (var 0 :+ var 1 := var 2)) ∷ []) (e, tt) refl;
}

pub remainder_lt : (z : ℤ) → remainder z < 17
unfolding remainder
remainder_lt (pos n) = omega arith
remainder_lt (negsuc n) = omega arith

-- two numbers below 17 that are alike are equal
pub alike_equal : (m n : ℕ) → m < 17 → n < 17 → Alike (pos m) (pos n) → m ≡ n
alike_equal m n hm hn h =
    go (h.more -ℤ h.less)
    (ring_by (pos m ∷ pos n ∷ h.less ∷ h.more ∷ []) (var 0) (var 1 :+ num (pos 17) :* (var 3 :- var 2)) ((num (pos 1) of (var 0 :+ num (pos 17) :* var 2 := var 1 :+ num (pos 17) :* var 3)) ∷ []) (h.equal, tt) refl)
  where
    go : (q : ℤ) → pos m ≡ pos n +ℤ pos 17 *ℤ q → m ≡ n
    go (pos j) e = let f : m ≡ n + 17 * j = ap nat_abs e in omega arith
    go (negsuc j) e =
        let f : m + 17 * suc j ≡ n = ap nat_abs (ring_by (pos m ∷ pos n ∷ pos (suc j) ∷ []) (var 0 :+ num (pos 17) :* var 2) (var 1) ((num (pos 1) of (var 0 := var 1 :+ num (pos 17) :* :neg (var 2))) ∷ []) (e, tt) refl) in
        absurd (omega arith)
