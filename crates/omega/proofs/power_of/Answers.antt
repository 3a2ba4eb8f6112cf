use mathlib.Core.Path.{ap, ◌∙◌}
use native.Mathlib.Omega.{arith}
use lib.ListN.{get_or}
use Rattle.omega.specs.Modular.{undone_all, exponent_of}
use Rattle.omega.specs.Laws.Modular.{first_residues}
use Rattle.omega.specs.Laws.Undone.{begun_none, begun_more, begun_all}
use Rattle.omega.proofs.power_of.Goals as goal

pub loop-b-init : goal.loop-b-init
loop-b-init c = (rw c.first_column-v.ensures (first_residues _), begun_none _ _)

pub loop-b-preserved : goal.loop-b-preserved
loop-b-preserved c =
    let l = c.loop-b in
    (c.undo_letter-v.ensures.0, begun_more _ _ l.b-index l.v l.invariant.1 _ (omega arith) (λ g e. c.undo_letter-v.ensures.1 g e))

pub returns : goal.returns
returns c = λ w e.
    let l = c.loop-b in
    c.exponent_of.ensures
    ∙ ap (λ v. exponent_of (get_or v 0 0)) (begun_all _ _ l.b-index l.v l.invariant.1 (omega arith) w e ∙ ap (undone_all w) c.first_column-v.ensures)
