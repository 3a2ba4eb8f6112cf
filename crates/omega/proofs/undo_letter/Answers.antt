-- By the cases of the letter.
use mathlib.Core.Path.{ap, ◌∙◌}
use Rattle.letter.specs.Laws.Gate.{converted, not_converted}
use Rattle.omega.specs.Modular.{undone}
use Rattle.omega.specs.Laws.Modular.{undone_residues}
use Rattle.omega.specs.Laws.Undone.{same_gate, no_gate}
use Rattle.omega.proofs.undo_letter.Goals as goal

pub returns-in-Ok : goal.returns-in-Ok
returns-in-Ok c =
    let e = converted _ _ c.in-Ok.ensures in
    (rw c.undo.ensures (undone_residues _ _), λ g f. c.undo.ensures ∙ ap (λ h. undone h c.args.v) (same_gate c.args.b _ g e f))

pub returns-in-Err : goal.returns-in-Err
returns-in-Err c = (c.requires, λ g f. no_gate c.args.b g (not_converted _ _ c.in-Err.ensures).0 f)
