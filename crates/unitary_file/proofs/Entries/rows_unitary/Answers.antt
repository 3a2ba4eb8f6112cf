-- Two numbers of 64 bits are equal exactly if their bits are.
use mathlib.Core.Path.{◌≡◌, refl, ap, ◌∙◌}
use mathlib.Core.Bool.{Bool, true, false, ◌&&◌}
use Prim.Native.Nat.{◌^◌, ◌<◌}
use native.Mathlib.Nat.{lt_of_le_of_lt}
use native.Mathlib.Omega.{arith}
use borrow.Author.Tests.{ne_eqb}
use lib.Dec.{lit<, eqb}
use lib.IntN.{ℤ, pos, ◌*ℤ◌, *ℤ-zero}
use lib.Signed.{mag}
use mir.Syntax.{w64}
use mir.Val.{of_z}
use Rattle.matrix.specs.Integer as integer
use Rattle.matrix.specs.Matrix.{δ}
use Rattle.matrix.specs.Laws.Integer.{equals_yes, equals_no, *ℤ-unit-r}
use Rattle.matrix.specs.Laws.Sum.{δ_same, δ_other}
use Rattle.matrix.specs.Laws.Machine.{mag_le, same_bits, equal_bits}
use Rattle.gaussian.specs.declared.Gaussian.{Gaussian}
use Rattle.gaussian.specs.Gaussian.{real, Within, equals}
use Rattle.unitary_file.specs.Laws.Unitary.{terms_within}
use Rattle.unitary_file.proofs.Entries.rows_unitary.Goals.{then-i-j, else-i-j}
use Rattle.unitary_file.proofs.Entries.rows_unitary.Goals as goal

module _ (z : Gaussian) (h : Within (2 ^ 33) z) (x : ℤ) where
  re_fits : mag z.re < 2 ^ 63
  re_fits = lt_of_le_of_lt (mag_le z.re) (lt_of_le_of_lt h.re (lit< tt))

  im_fits : mag z.im < 2 ^ 63
  im_fits = lt_of_le_of_lt (mag_le z.im) (lt_of_le_of_lt h.im (lit< tt))

  not_real : (of_z w64 z.im ≡ 0 → ⊥) → eqb (of_z w64 z.im) 0 ≡ equals z (real x)
  not_real n = ne_eqb _ _ n ∙ rw (equals_no {a = z.im} {b = pos 0} (λ e. n (ap (of_z w64) e))) (go (integer.equals z.re x))
    where
      go : (b : Bool) → false ≡ (b && false)
      go true = refl
      go false = refl

  is_real : of_z w64 z.im ≡ 0 → mag x < 2 ^ 63 → eqb (of_z w64 z.re) (of_z w64 x) ≡ equals z (real x)
  is_real e f = equal_bits z.re x re_fits f ∙ rw (equals_yes {a = z.im} {b = pos 0} (same_bits im_fits (lit< tt) e)) (go (integer.equals z.re x))
    where
      go : (b : Bool) → b ≡ (b && true)
      go true = refl
      go false = refl

pub returns-after-i-j : goal.returns-after-i-j
returns-after-i-j c =
    let p = c.row_product-product in
    let a = c.args in
    let w = terms_within a.self.now.entries a.self.now.narrow a.i a.j 4 (omega arith) in
    elim c.if-i-j.branch [
      | then-i-j b ↦
          let e : c.if-i-j.result-bits ≡ of_z w64 a.norm = cc in
          let d : a.norm *ℤ δ a.i a.j ≡ a.norm = rw b.if-i-j.true (rw δ_same (*ℤ-unit-r a.norm)) in
          rw (e, p.ensures, d) (is_real _ w a.norm (rw p.ensures at c.if-product-eq0.true) c.ranges.norm.sfits)
      | else-i-j b ↦
          let e : c.if-i-j.result-bits ≡ 0 = cc in
          rw (e, p.ensures, δ_other a.i a.j b.if-i-j.false, *ℤ-zero a.norm) (is_real _ w (pos 0) (rw p.ensures at c.if-product-eq0.true) (lit< tt))
    ]

pub returns-else-product-eq0 : goal.returns-else-product-eq0
returns-else-product-eq0 c =
    let p = c.row_product-product in
    let a = c.args in
    rw p.ensures (not_real _ (terms_within a.self.now.entries a.self.now.narrow a.i a.j 4 (omega arith)) (a.norm *ℤ δ a.i a.j) (rw p.ensures at c.if-product-eq0.false))
