-- Each square is at most 2^30.
use mathlib.Core.Path.{ap, ◌∙◌}
use Prim.Native.Nat.{◌*◌, ◌^◌}
use lib.Dec.{lit<}
use lib.IntN.{◌*ℤ◌}
use mir.Syntax.{w64}
use mir.Val.{to_z, of_z}
use Rattle.matrix.specs.Laws.Machine.{Sized, again, stored, add, mul}
use Rattle.gaussian.specs.declared.Gaussian.{Gaussian}
use Rattle.gaussian.specs.Gaussian.{Within, norm_of}
use Rattle.unitary_file.proofs.Entries.square_size.Goals as goal

module _ (x : Gaussian) (h : Within (2 ^ 15) x) where
  real_square : Sized (2 ^ 15 * 2 ^ 15) (to_z w64 (of_z w64 x.re) *ℤ to_z w64 (of_z w64 x.re)) (x.re *ℤ x.re)
  real_square = let s = stored x.re h.re (lit< tt) in mul s s

  imaginary_square : Sized (2 ^ 15 * 2 ^ 15) (to_z w64 (of_z w64 x.im) *ℤ to_z w64 (of_z w64 x.im)) (x.im *ℤ x.im)
  imaginary_square = let s = stored x.im h.im (lit< tt) in mul s s

pub returns : goal.returns
unfolding norm_of
returns c =
    let h = c.entry-x.ensures.1 in
    (again (add (again (real_square c.entry-x.result h) (lit< tt)) (again (imaginary_square c.entry-x.result h) (lit< tt))) (lit< tt)).is ∙ ap norm_of c.entry-x.ensures.0
