use mathlib.Core.Path.{sym, ap₂, subst, ◌∙◌}
use Prim.Native.Nat.{◌^◌}
use Rattle.gaussian.specs.Gaussian.{Within, ◌⊗◌}
use Rattle.gaussian.specs.Laws.Size.{within-⊗}
use Rattle.six_form.proofs.product_of.Goals as goal

pub returns : goal.returns
returns c =
    let x = c.entry.ensures in
    let y = c.entry-2.ensures in
    (c.times.ensures ∙ ap₂ (λ x y. x ⊗ y) x.0 y.0, subst (Within (2 ^ 31)) (sym c.times.ensures) (within-⊗ x.1 y.1))
