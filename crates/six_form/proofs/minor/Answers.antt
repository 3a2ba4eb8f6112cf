use mathlib.Core.Path.{◌≡◌, sym, ap₂, subst, ◌∙◌}
use mathlib.Core.List.{List}
use Prim.Native.Nat.{ℕ, ◌^◌}
use lib.IntN.{ℤ}
use Rattle.gaussian.specs.Gaussian.{Within, ◌⊖◌, ◌⊗◌}
use Rattle.gaussian.specs.Laws.Size.{within-⊖}
use Rattle.unitary.specs.Unitary.{matrix_of}
use Rattle.unitary.specs.Form.{row_at, column_at, compound}
use Rattle.six_form.proofs.minor.Goals as goal

-- the two products, at the rows and columns that the tables give
at : (n : List ℤ) (p q a b c d : ℕ) → a ≡ row_at p → b ≡ column_at p → c ≡ row_at q → d ≡ column_at q
    → matrix_of n a c ⊗ matrix_of n b d ⊖ matrix_of n a d ⊗ matrix_of n b c ≡ compound (matrix_of n) p q
unfolding compound
at n p q a b c d e f g h = rw (e, f, g, h)

pub returns : goal.returns
returns c =
    let x = c.product_of-x.ensures in
    let y = c.product_of-y.ensures in (
      c.minus.ensures ∙ ap₂ (λ x y. x ⊖ y) x.0 y.0
          ∙ at c.args.u.now.entries c.args.p c.args.q _ _ _ _ c.row_at-a.ensures.0 c.column_at-b.ensures.0 c.row_at-c.ensures.0 c.column_at-d.ensures.0,
      subst (Within (2 ^ 32)) (sym c.minus.ensures) (within-⊖ x.1 y.1),
    )
