-- Each part is the sum or the difference of two products of at most 2^55.
use mathlib.Core.Path.{ap₂}
use Prim.Native.Nat.{◌*◌, ◌^◌, ◌≤◌}
use lib.Dec.{lit<}
use lib.IntN.{ℤ, nat_abs, ◌*ℤ◌}
use mir.Syntax.{w64}
use mir.Val.{to_z, of_z}
use Rattle.matrix.specs.Laws.Machine.{Sized, fits, again, stored, add, sub, mul}
use Rattle.gaussian.specs.Gaussian.{gaussian, ◌⊗◌}
use Rattle.gaussian.proofs.times.Goals as goal

product : (x y : ℤ) → nat_abs x ≤ 2 ^ 15 → nat_abs y ≤ 2 ^ 40 → Sized (2 ^ 15 * 2 ^ 40) (to_z w64 (of_z w64 x) *ℤ to_z w64 (of_z w64 y)) (x *ℤ y)
product x y hx hy = mul (stored x hx (lit< tt)) (stored y hy (lit< tt))

pub overflow_sub-result : goal.overflow_sub-result
overflow_sub-result c =
    fits (sub (again (product c.args.a.re c.args.b.re c.requires.0.re c.requires.1.re) (lit< tt)) (again (product c.args.a.im c.args.b.im c.requires.0.im c.requires.1.im) (lit< tt))) (lit< tt)

pub overflow_mul-result-3 : goal.overflow_mul-result-3
overflow_mul-result-3 c = fits (product c.args.a.re c.args.b.im c.requires.0.re c.requires.1.im) (lit< tt)

pub overflow_mul-result-4 : goal.overflow_mul-result-4
overflow_mul-result-4 c = fits (product c.args.a.im c.args.b.re c.requires.0.im c.requires.1.re) (lit< tt)

pub overflow_add-result : goal.overflow_add-result
overflow_add-result c =
    fits (add (again (product c.args.a.re c.args.b.im c.requires.0.re c.requires.1.im) (lit< tt)) (again (product c.args.a.im c.args.b.re c.requires.0.im c.requires.1.re) (lit< tt))) (lit< tt)

pub returns : goal.returns
unfolding ◌⊗◌
returns c =
    ap₂ gaussian
    (again (sub (again (product c.args.a.re c.args.b.re c.requires.0.re c.requires.1.re) (lit< tt)) (again (product c.args.a.im c.args.b.im c.requires.0.im c.requires.1.im) (lit< tt))) (lit< tt)).is
    (again (add (again (product c.args.a.re c.args.b.im c.requires.0.re c.requires.1.im) (lit< tt)) (again (product c.args.a.im c.args.b.re c.requires.0.im c.requires.1.re) (lit< tt))) (lit< tt)).is
