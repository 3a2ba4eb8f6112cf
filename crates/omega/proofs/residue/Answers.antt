-- The law of the residue, from the two remainders.
use mathlib.Core.Path.{ap, ◌∙◌}
use mir.Facts.{to_z-of_z}
use Rattle.omega.specs.Modular.{remainder}
use Rattle.omega.specs.Laws.Residue.{residue_is}
use Rattle.omega.proofs.residue.Goals as goal

pub returns : goal.returns
returns c =
    residue_is c.args.re c.args.im c.args.k _ _ _ c.root_power.ensures.0
    (c.remainder_of.ensures.0 ∙ ap remainder (to_z-of_z c.ranges.re))
    (c.remainder_of-2.ensures.0 ∙ ap remainder (to_z-of_z c.ranges.im))
