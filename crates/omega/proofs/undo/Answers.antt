-- By the cases of the gate.
use mathlib.Core.Path.{sym, ap, ◌∙◌}
use Rattle.omega.specs.Modular.{undone}
use Rattle.omega.specs.Laws.Undone.{undone_h1, undone_h2, undone_s1, undone_s2, undone_cz, undone_cs}
use Rattle.omega.proofs.undo.Goals as goal

pub returns-in-H1 : goal.returns-in-H1
returns-in-H1 c =
    undone_h1 _ c.requires c.sum.ensures c.sum-in-H1.ensures c.difference.ensures c.difference-in-H1.ensures ∙ ap (λ g. undone g c.args.v) (sym c.in-H1.is)

pub returns-in-H2 : goal.returns-in-H2
returns-in-H2 c =
    undone_h2 _ c.requires c.sum-in-H2.ensures c.difference-in-H2.ensures c.sum-in-H2-2.ensures c.difference-in-H2-2.ensures ∙ ap (λ g. undone g c.args.v) (sym c.in-H2.is)

pub returns-in-S1 : goal.returns-in-S1
returns-in-S1 c = undone_s1 _ c.requires ∙ ap (λ g. undone g c.args.v) (sym c.in-S1.is)

pub returns-in-S2 : goal.returns-in-S2
returns-in-S2 c = undone_s2 _ c.requires ∙ ap (λ g. undone g c.args.v) (sym c.in-S2.is)

pub returns-in-Cz : goal.returns-in-Cz
returns-in-Cz c = undone_cz _ c.requires ∙ ap (λ g. undone g c.args.v) (sym c.in-Cz.is)

pub returns-in-Cs : goal.returns-in-Cs
returns-in-Cs c = undone_cs _ c.requires ∙ ap (λ g. undone g c.args.v) (sym c.in-Cs.is)
