-- The generator and the flag are what the masks of the rows call for.
use mathlib.Core.Path.{◌≡◌, sym, ap, ◌∙◌}
use mathlib.Core.Bool.{Bool}
use mathlib.Core.List.{List}
use Prim.Native.Nat.{ℕ, suc, ◌^◌, ◌≤◌}
use native.Mathlib.Omega.{arith}
use lib.IntN.{ℤ}
use Rattle.matrix.specs.Range.{tabulate}
use Rattle.matrix.specs.Matrix.{entry, listed}
use Rattle.matrix.specs.Array.{Bounded, row_mask}
use Rattle.matrix.specs.Laws.Array.{orthogonal_bounded}
use Rattle.residue.specs.Generator.{first_fit}
use Rattle.residue.specs.Masks.{mask_at, has_even_row}
use Rattle.residue.specs.Laws.Masks.{first_fit_held, even_row_held}
use Rattle.grouping.proofs.Grouping.{grouped_rows}
use Rattle.reduction.specs.Reduction.{cut, chosen, loose_cut}
use Rattle.reduction.specs.Result.{Cuttable}
use Rattle.reduction.specs.Laws.Step.{one_step}
use Rattle.reduction.proofs.cut_once.Goals as goal

module _ (m : List ℤ) (h : Cuttable m) where
  number : (1 ≤ chosen m) × (chosen m ≤ 15)
  number = (one_step h.rest (entry m) h.orthogonal h.reduced).number

  bounded : Bounded (2 ^ 30) (entry m)
  bounded = let s = h.small in orthogonal_bounded (suc h.rest) 30 (entry m) h.orthogonal (omega arith)

  -- what is asked of the masks is asked of the rows
  module _ (masks : List ℕ) (e : masks ≡ tabulate (row_mask (entry m)) 0 6) where
    taken : (g : ℕ) → g ≡ first_fit (mask_at masks) → g ≡ chosen m
    taken g f = f ∙ ap (λ x. first_fit (mask_at x)) e ∙ first_fit_held (row_mask (entry m))

    flag : (t : Bool) → t ≡ has_even_row (mask_at masks) → t ≡ loose_cut m
    flag t f = f ∙ ap (λ x. has_even_row (mask_at x)) e ∙ even_row_held (row_mask (entry m)) ∙ sym (grouped_rows h.rest (entry m) h.orthogonal h.reduced).loose

pub cut_by-matrix-requires : goal.cut_by-matrix-requires
cut_by-matrix-requires c =
    let (low, high) = number c.args.m c.requires in
    let g = taken c.args.m c.requires _ c.row_masks-masks.ensures _ c.first_fit-g.ensures in
    (omega arith, omega arith, bounded c.args.m c.requires)

pub overflow_cast-result : goal.overflow_cast-result
overflow_cast-result c =
    let (low, high) = number c.args.m c.requires in
    let g = taken c.args.m c.requires _ c.row_masks-masks.ensures _ c.first_fit-g.ensures in
    omega arith

pub returns : goal.returns
returns c =
    let m = c.args.m in
    let masks = c.row_masks-masks.ensures in
    let g = taken m c.requires _ masks _ c.first_fit-g.ensures in
    record {
      number = g;
      loose = flag m c.requires _ masks _ c.has_even_row-even_row.ensures;
      matrix = c.cut_by-matrix.ensures ∙ ap (λ x. listed (cut x (entry m))) g;
    }
