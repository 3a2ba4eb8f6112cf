use mathlib.Core.Path.{◌≡◌, sym, ap, ap₂, subst, ◌∙◌}
use mathlib.Core.List.{List}
use Prim.Native.Nat.{ℕ, ◌-◌, ◌^◌}
use native.Mathlib.Omega.{arith}
use lib.IntN.{ℤ}
use Rattle.gaussian.specs.declared.Gaussian.{Gaussian}
use Rattle.gaussian.specs.Gaussian.{Within, Matrix, ◌⊕◌, ◌⊗◌, conj, product}
use Rattle.gaussian.specs.Laws.Size.{within_more, within_conj, within-⊕, within-⊗}
use Rattle.unitary.specs.Unitary.{matrix_of}
use Rattle.unitary.specs.Form.{compound, basis}
use Rattle.six_form.specs.Places.{place_of}
use Rattle.six_form.specs.Laws.Places.{whole_entry}
use Rattle.six_form.proofs.form_entry.Goals as goal

-- the two terms, at the place that the table gives
abbrev X : List ℤ → Matrix
X n = product 6 (compound (matrix_of n)) basis

first_term : (n : List ℤ) (r c p : ℕ) {u v x : Gaussian} → p ≡ place_of r → u ≡ conj v → v ≡ basis (place_of r) r → x ≡ X n p c → u ⊗ x ≡ conj (basis (place_of r) r) ⊗ X n (place_of r) c
first_term n r c p e f g h = ap₂ (λ x y. x ⊗ y) (f ∙ ap conj g) (h ∙ ap (λ p. X n p c) e)

second_term : (n : List ℤ) (r c p : ℕ) {u v x : Gaussian} → p ≡ place_of r → u ≡ conj v → v ≡ basis (5 - place_of r) r → x ≡ X n (5 - p) c → u ⊗ x ≡ conj (basis (5 - place_of r) r) ⊗ X n (5 - place_of r) c
second_term n r c p e f g h = ap₂ (λ x y. x ⊗ y) (f ∙ ap conj g) (h ∙ ap (λ p. X n (5 - p) c) e)

-- a conjugate is as small as the number
unit_conj : {x y : Gaussian} → x ≡ conj y → Within 1 y → Within 1 x
unit_conj e h = subst (Within 1) (sym e) (within_conj h)

pub plus-requires : goal.plus-requires
plus-requires c = (
  within_more (omega arith) (subst (Within (2 ^ 35)) (sym c.times-left.ensures) (within-⊗ (unit_conj c.conjugate.ensures.0 c.basis-p.ensures.lower.1) c.half_entry.ensures.1)),
  within_more (omega arith) (subst (Within (2 ^ 35)) (sym c.times-right.ensures) (within-⊗ (unit_conj c.conjugate-2.ensures.0 c.basis-p.ensures.upper.1) c.half_entry-2.ensures.1)),
)

pub returns : goal.returns
returns c =
    let a = c.args in
    let e = c.basis-p.ensures.place.0 in (
      c.plus.ensures
          ∙ ap₂ (λ x y. x ⊕ y)
          (c.times-left.ensures ∙ first_term a.u.now.entries a.r a.c _ e c.conjugate.ensures.0 c.basis-p.ensures.lower.0 c.half_entry.ensures.0)
          (c.times-right.ensures ∙ second_term a.u.now.entries a.r a.c _ e c.conjugate-2.ensures.0 c.basis-p.ensures.upper.0 c.half_entry-2.ensures.0)
          ∙ sym (whole_entry (product 6 (compound (matrix_of a.u.now.entries)) basis) a.r a.c c.requires.0),
      subst (Within (2 ^ 36)) (sym c.plus.ensures) (within-⊕ (subst (Within (2 ^ 35)) (sym c.times-left.ensures) (within-⊗ (unit_conj c.conjugate.ensures.0 c.basis-p.ensures.lower.1) c.half_entry.ensures.1)) (subst (Within (2 ^ 35)) (sym c.times-right.ensures) (within-⊗ (unit_conj c.conjugate-2.ensures.0 c.basis-p.ensures.upper.1) c.half_entry-2.ensures.1))),
    )
