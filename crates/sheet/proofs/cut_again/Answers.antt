-- The bytes are compared with those of the sheet, which the normal form holds.
use Rattle.std.specs.Prelude.{Ok, Err}
use mathlib.Core.Path.{◌≡◌, refl, sym, ap, ap₂, ◌∙◌}
use Prim.Native.Nat.{ℕ, ◌-◌}
use native.Mathlib.Omega.{arith}
use mathlib.Core.Bool.{Bool, true, false, not}
use mathlib.Core.List.{List}
use lib.IntN.{ℤ}
use lib.ListN.{take, replicate}
use lib.Seq.{take_at}
use Rattle.matrix.specs.List.{same_list}
use Rattle.matrix.specs.Matrix.{entry}
use Rattle.matrix.specs.Operator.{operator, Orthogonal}
use Rattle.matrix.specs.declared.Scaled.{Scaled}
use Rattle.matrix.specs.Array.{least_form}
use Rattle.reduction.specs.declared.Cut.{Cut}
use Rattle.reduction.specs.Reduction.{count, taken}
use Rattle.reduction.specs.Laws.NormalForm.{cutting}
use Rattle.acceptance.specs.Cutting.{CutFrom}
use Rattle.sheet_bytes.specs.Bytes.{sheet_bytes, sheet}
use Rattle.sheet.specs.Promise.{CutAgain}
use borrow.Author.Tests.{not-true, not-false}
use Rattle.sheet.proofs.cut_again.Goals as goal

module _ (s : List ℕ) (k : ℕ) (m : List ℤ) (o : Orthogonal (operator k (entry m))) (r : Cut) (c : CutFrom k m r) where
  held : sheet_bytes (take r.count r.numbers) r.columns ≡ sheet k m
  unfolding sheet
  held = ap₂ sheet_bytes (ap₂ take c.count c.numbers ∙ take_at (taken k m) (replicate (60 - count k m) 0) (count k m) (cutting k m o).exact) c.columns

  module _ (t : Bool) (e : t ≡ same_list (sheet_bytes (take r.count r.numbers) r.columns) s) where
    test : same_list (sheet k m) s ≡ t
    test = sym (e ∙ ap (λ x. same_list x s) held)

    another : not t ≡ true → CutAgain s k m (Err 13)
    another n = rw (test ∙ not-true t n) (refl, omega arith)

    the_same : not t ≡ false → {l : Scaled} → l ≡ least_form k m → CutAgain s k m (Ok l)
    the_same n z = rw (test ∙ not-false t n) (refl, z)

pub returns-then-not-is_sheet : goal.returns-then-not-is_sheet
returns-then-not-is_sheet c =
    another c.args.bytes.now c.args.operator.exponent c.args.operator.matrix c.requires.1 c.cut_orthogonal.result c.cut_orthogonal.ensures _ c.is_sheet.ensures c.if-not-is_sheet.true-raw

pub returns : goal.returns
returns c =
    the_same c.args.bytes.now c.args.operator.exponent c.args.operator.matrix c.requires.1 c.cut_orthogonal.result c.cut_orthogonal.ensures _ c.is_sheet.ensures c.if-not-is_sheet.false-raw c.least_form.ensures
