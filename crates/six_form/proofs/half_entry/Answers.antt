use mathlib.Core.Path.{◌≡◌, sym, ap, ap₂, subst, ◌∙◌}
use mathlib.Core.List.{List}
use Prim.Native.Nat.{ℕ, ◌-◌, ◌^◌}
use native.Mathlib.Omega.{arith}
use lib.IntN.{ℤ}
use Rattle.gaussian.specs.declared.Gaussian.{Gaussian}
use Rattle.gaussian.specs.Gaussian.{Within, Matrix, ◌⊕◌, ◌⊗◌}
use Rattle.gaussian.specs.Laws.Size.{within_more, within-⊕, within-⊗}
use Rattle.unitary.specs.Unitary.{matrix_of}
use Rattle.unitary.specs.Form.{compound, basis}
use Rattle.six_form.specs.Places.{place_of}
use Rattle.six_form.specs.Laws.Places.{half_entry}
use Rattle.six_form.proofs.half_entry.Goals as goal

-- the two terms, at the place that the table gives
abbrev C : List ℤ → Matrix
C n = compound (matrix_of n)

first_term : (n : List ℤ) (p c q : ℕ) {x y : Gaussian} → q ≡ place_of c → x ≡ basis (place_of c) c → y ≡ C n p q → x ⊗ y ≡ basis (place_of c) c ⊗ C n p (place_of c)
first_term n p c q e f g = ap₂ (λ x y. x ⊗ y) f (g ∙ ap (C n p) e)

second_term : (n : List ℤ) (p c q : ℕ) {x y : Gaussian} → q ≡ place_of c → x ≡ basis (5 - place_of c) c → y ≡ C n p (5 - q) → x ⊗ y ≡ basis (5 - place_of c) c ⊗ C n p (5 - place_of c)
second_term n p c q e f g = ap₂ (λ x y. x ⊗ y) f (g ∙ ap (λ q. C n p (5 - q)) e)

pub plus-requires : goal.plus-requires
plus-requires c = (
  within_more (omega arith) (subst (Within (2 ^ 33)) (sym c.times-left.ensures) (within-⊗ c.basis-q.ensures.lower.1 c.minor.ensures.1)),
  within_more (omega arith) (subst (Within (2 ^ 33)) (sym c.times-right.ensures) (within-⊗ c.basis-q.ensures.upper.1 c.minor-2.ensures.1)),
)

pub returns : goal.returns
returns c =
    let a = c.args in
    let e = c.basis-q.ensures.place.0 in (
      c.plus.ensures
          ∙ ap₂ (λ x y. x ⊕ y)
          (c.times-left.ensures ∙ first_term a.u.now.entries a.p a.c _ e c.basis-q.ensures.lower.0 c.minor.ensures.0)
          (c.times-right.ensures ∙ second_term a.u.now.entries a.p a.c _ e c.basis-q.ensures.upper.0 c.minor-2.ensures.0)
          ∙ sym (half_entry (compound (matrix_of a.u.now.entries)) a.p a.c c.requires.1),
      subst (Within (2 ^ 34)) (sym c.plus.ensures) (within-⊕ (subst (Within (2 ^ 33)) (sym c.times-left.ensures) (within-⊗ c.basis-q.ensures.lower.1 c.minor.ensures.1)) (subst (Within (2 ^ 33)) (sym c.times-right.ensures) (within-⊗ c.basis-q.ensures.upper.1 c.minor-2.ensures.1))),
    )
