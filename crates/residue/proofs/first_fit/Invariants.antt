-- The invariant: no generator before g fits, so those from g on decide.
use mathlib.Core.Path.{◌≡◌}
use Prim.Native.Nat.{◌-◌}
use Rattle.matrix.specs.Range.{first_from}
use Rattle.residue.specs.Generator.{fits, first_fit}
use Rattle.residue.specs.Masks.{mask_at}
use Rattle.residue.proofs.first_fit.Given as goal

abbrev pub invariant-loop-g : goal.invariant-loop-g
invariant-loop-g l = first_fit (mask_at l.masks) ≡ first_from (fits (mask_at l.masks)) l.g (16 - l.g)
