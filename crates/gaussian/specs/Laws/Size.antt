-- How large sums, differences and products of Gaussian integers are.
use Rattle.std.specs.Prelude.{ℕ, zero, suc, ◌+◌, ◌*◌, ◌<◌, ◌≤◌, ◌*ℤ◌}
use Rattle.std.proofs.Math.Nat.{le_trans}
use Rattle.std.proofs.Common.{add-le-add, suc-mul, arith}
use Rattle.matrix.specs.Laws.Integer.{nat_abs_add_le, nat_abs_minus_le, nat_abs_mul_le, nat_abs_neg}
use Rattle.gaussian.specs.declared.Gaussian.{Gaussian}
use Rattle.gaussian.specs.Gaussian.{Within, ◌⊕◌, ◌⊖◌, ◌⊗◌, conj, sum}

pub within_more : {a b : ℕ} {x : Gaussian} → a ≤ b → Within a x → Within b x
within_more l h = record { re = le_trans h.re l; im = le_trans h.im l }

module _ {a b : ℕ} {x y : Gaussian} (h : Within a x) (l : Within b y) where
  pub within-⊕ : Within (a + b) (x ⊕ y)
  unfolding ◌⊕◌
  within-⊕ = record {
    re = le_trans (nat_abs_add_le x.re y.re) (add-le-add h.re l.re);
    im = le_trans (nat_abs_add_le x.im y.im) (add-le-add h.im l.im);
  }

  pub within-⊖ : Within (a + b) (x ⊖ y)
  unfolding ◌⊖◌
  within-⊖ = record {
    re = le_trans (nat_abs_minus_le x.re y.re) (add-le-add h.re l.re);
    im = le_trans (nat_abs_minus_le x.im y.im) (add-le-add h.im l.im);
  }

  pub within-⊗ : Within (a * b + a * b) (x ⊗ y)
  unfolding ◌⊗◌
  within-⊗ = record {
    re = le_trans (nat_abs_minus_le (x.re *ℤ y.re) (x.im *ℤ y.im)) (add-le-add (nat_abs_mul_le x.re y.re h.re l.re) (nat_abs_mul_le x.im y.im h.im l.im));
    im = le_trans (nat_abs_add_le (x.re *ℤ y.im) (x.im *ℤ y.re)) (add-le-add (nat_abs_mul_le x.re y.im h.re l.im) (nat_abs_mul_le x.im y.re h.im l.re));
  }

pub within_conj : {a : ℕ} {x : Gaussian} → Within a x → Within a (conj x)
unfolding conj
within_conj {x = x} h = record { re = h.re; im = rw (nat_abs_neg x.im) h.im }

pub within_sum : (b n : ℕ) (f : ℕ → Gaussian) → ((i : ℕ) → i < n → Within b (f i)) → Within (n * b) (sum n f)
unfolding sum
within_sum b zero f h = record { re = omega arith; im = omega arith }
within_sum b (suc n) f h = within_more (rw suc-mul (omega arith)) (within-⊕ (within_sum b n f (λ i l. h i (omega arith))) (h n (omega arith)))
