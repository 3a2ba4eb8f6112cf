use mathlib.Core.Path.{refl, sym, ap₂, subst, ◌∙◌}
use mathlib.Core.List.{[], ◌∷◌}
use Prim.Native.Nat.{◌^◌}
use lib.Dec.{lit<}
use lib.IntN.{pos}
use native.Mathlib.Omega.{arith}
use Rattle.matrix.specs.Laws.Machine.{again, exact, stored, sub}
use Rattle.matrix.specs.Laws.Ring.{var, num, ◌:-◌, :neg, ring}
use Rattle.gaussian.specs.Gaussian.{gaussian, Within, conj}
use Rattle.gaussian.specs.Laws.Size.{within_conj}
use Rattle.gaussian.proofs.conjugate.Goals as goal

pub returns : goal.returns
unfolding conj
returns c =
    let e =
    ap₂ gaussian (stored c.args.a.re c.requires.re (lit< tt)).is
    ((again (sub (exact (pos 0) {b = 0} (omega arith)) (stored c.args.a.im c.requires.im (lit< tt))) (lit< tt)).is
    ∙ ring (c.args.a.im ∷ []) (num (pos 0) :- var 0) (:neg (var 0)) refl) in
    (e, subst (Within (2 ^ 15)) (sym e) (within_conj c.requires))
