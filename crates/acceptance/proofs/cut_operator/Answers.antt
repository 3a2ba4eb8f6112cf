-- Each test is the definition's; the sign of the columns is that of the operator.
use Rattle.std.specs.Prelude.{Ok, Err}
use mathlib.Core.Path.{◌≡◌, refl, sym, ap, ◌∙◌}
use Prim.Native.Nat.{ℕ}
use native.Mathlib.Omega.{arith}
use mathlib.Core.Bool.{Bool, true, false}
use mathlib.Core.List.{List}
use lib.IntN.{ℤ}
use borrow.Author.Rules.{rules}
use borrow.Author.Tests.{not-true, not-false}
use Rattle.matrix.specs.Matrix.{entry}
use Rattle.matrix.specs.Operator.{operator}
use Rattle.matrix.specs.Array.{is_within, is_orthogonal}
use Rattle.matrix.specs.Laws.Array.{orthogonal_sound, within_bounded}
use Rattle.clifford.specs.Columns.{is_even}
use Rattle.reduction.specs.declared.Cut.{Cut}
use Rattle.acceptance.specs.Acceptance.{is_proper, entries_refusal}
use Rattle.acceptance.specs.Cutting.{CutFrom, CutAs}
use Rattle.acceptance.specs.Laws.Cutting.{even_is_proper}
use Rattle.acceptance.proofs.cut_operator.Goals as goal

-- the ways out behind the tests of the entries
module _ (k : ℕ) (m : List ℤ) (w : is_within k (entry m) ≡ true) (o : is_orthogonal k (entry m) ≡ true) (f : Cut) (cut : CutFrom k m f) where
  sign : {t : Bool} → is_even f.columns ≡ t → is_proper (entry m) ≡ t
  sign e = sym (even_is_proper k m (orthogonal_sound k (entry m) o)) ∙ ap is_even (sym cut.columns) ∙ e

  improper : is_even f.columns ≡ false → CutAs (entries_refusal (operator k (entry m))) k m (Err 5)
  improper e = rw (w, o, sign e) (refl, omega arith)

  accepted_as : is_even f.columns ≡ true → CutAs (entries_refusal (operator k (entry m))) k m (Ok f)
  accepted_as e = rw (w, o, sign e) (refl, cut)

pub is_orthogonal-requires : goal.is_orthogonal-requires
is_orthogonal-requires c =
    (c.requires.0, within_bounded _ 30 _ (sym c.is_within.ensures ∙ not-false _ c.if-not-is_within.false-raw) (omega (arith, c.requires.0)))

pub cut_orthogonal-cut-requires : goal.cut_orthogonal-cut-requires
cut_orthogonal-cut-requires c = (search rules, orthogonal_sound _ _ (sym c.is_orthogonal.ensures ∙ not-false _ c.if-not-is_orthogonal.false-raw))

pub returns-then-not-is_even : goal.returns-then-not-is_even
returns-then-not-is_even c =
    improper _ _ (sym c.is_within.ensures ∙ not-false _ c.if-not-is_within.false-raw) (sym c.is_orthogonal.ensures ∙ not-false _ c.if-not-is_orthogonal.false-raw)
    c.cut_orthogonal-cut.result c.cut_orthogonal-cut.ensures (sym c.is_even.ensures ∙ not-true _ c.if-not-is_even.true-raw)

pub returns : goal.returns
returns c =
    accepted_as _ _ (sym c.is_within.ensures ∙ not-false _ c.if-not-is_within.false-raw) (sym c.is_orthogonal.ensures ∙ not-false _ c.if-not-is_orthogonal.false-raw)
    c.cut_orthogonal-cut.result c.cut_orthogonal-cut.ensures (sym c.is_even.ensures ∙ not-false _ c.if-not-is_even.false-raw)
