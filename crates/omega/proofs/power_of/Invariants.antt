-- The invariant: the letters before the one at `b` are undone.
use Rattle.omega.specs.Modular.{Residues}
use Rattle.omega.specs.Laws.Undone.{Begun}
use Rattle.omega.proofs.power_of.Given as goal

abbrev pub invariant-loop-b : goal.invariant-loop-b
invariant-loop-b l = Residues l.v × Begun l.letters l.initial.v l.b-index l.v
