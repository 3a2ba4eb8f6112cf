use mathlib.Core.Path.{refl, sym, ap₂, subst, ◌∙◌}
use Prim.Native.Nat.{◌^◌}
use native.Mathlib.Numerals.{add-one}
use native.Mathlib.Omega.{arith}
use Rattle.gaussian.specs.Gaussian as gaussian
use Rattle.gaussian.specs.Gaussian.{Within, ◌⊕◌, ◌⊗◌}
use Rattle.gaussian.specs.Laws.Size.{within_more, within-⊗}
use Rattle.unitary_file.specs.Laws.Unitary.{terms_within}
use Rattle.unitary_file.proofs.Entries.row_product.Goals as goal

pub loop-c-init : goal.loop-c-init
unfolding gaussian.sum
loop-c-init c = refl

pub plus-sum-requires : goal.plus-sum-requires
plus-sum-requires c = (
  within_more (omega arith) (subst (Within (2 ^ 33)) (sym c.loop-c.invariant) (terms_within c.args.self.now.entries c.args.self.now.narrow c.args.i c.args.j c.loop-c.c (omega arith))),
  within_more (omega arith) (subst (Within (2 ^ 31)) (sym c.times.ensures) (within-⊗ c.entry-x.ensures.1 c.conjugate-y.ensures.1)),
)

pub loop-c-preserved : goal.loop-c-preserved
unfolding gaussian.sum
loop-c-preserved c =
    let e = c.times.ensures ∙ ap₂ (λ x y. x ⊗ y) c.entry-x.ensures.0 c.conjugate-y.ensures.0 in
    rw add-one (c.plus-sum.ensures ∙ ap₂ (λ x y. x ⊕ y) c.loop-c.invariant e)
