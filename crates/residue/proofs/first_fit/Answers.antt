use mathlib.Core.Path.{◌≡◌, refl, sym, ap, ◌∙◌}
use Prim.Native.Nat.{ℕ, ◌-◌}
use native.Mathlib.Omega.{arith}
use mathlib.Core.Bool.{Bool}
use mathlib.Core.List.{List, [], map}
use lib.ListN.{get_or}
use Rattle.matrix.specs.Range.{first_from}
use Rattle.matrix.specs.Laws.Range.{first_here, first_next}
use Rattle.residue.specs.Generator.{table, fits, first_fit}
use Rattle.residue.specs.Masks.{mask_at, pairs_fit}
use Rattle.residue.specs.Laws.Table.{from_zero}
use Rattle.residue.specs.Laws.Generator.{rows_fit}
use Rattle.residue.proofs.first_fit.Goals as goal

pub loop-g-init : goal.loop-g-init
unfolding first_fit
loop-g-init c = refl

-- the test of a turn
here : (masks : List ℕ) (g : ℕ) (t : Bool) → t ≡ pairs_fit masks (get_or (map (map (λ x. x - 1)) table) (g - 1) []) → fits (mask_at masks) g ≡ t
here masks g t e = sym (e ∙ ap (pairs_fit masks) (from_zero g) ∙ rows_fit masks g)

pub returns-then-pairs_fit : goal.returns-then-pairs_fit
unfolding table
returns-then-pairs_fit c =
    let masks = c.args.masks in
    sym (c.loop-g.invariant ∙ first_here (fits (mask_at masks)) 16 c.loop-g.g (omega arith) (here masks c.loop-g.g _ c.pairs_fit.ensures ∙ c.if-pairs_fit.true))

pub loop-g-preserved : goal.loop-g-preserved
unfolding table
loop-g-preserved c =
    let masks = c.args.masks in
    c.loop-g.invariant ∙ first_next (fits (mask_at masks)) 16 c.loop-g.g (omega arith) (here masks c.loop-g.g _ c.pairs_fit.ensures ∙ c.if-pairs_fit.false)

pub returns : goal.returns
unfolding first_from
returns c = let e : c.loop-g.g ≡ 16 = omega arith in sym (rw e at c.loop-g.invariant)
