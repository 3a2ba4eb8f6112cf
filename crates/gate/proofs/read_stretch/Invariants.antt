-- The invariant: the letters before `next` are Clifford letters with these columns.
use Rattle.gate.specs.Stretch.{CliffordLetters}
use Rattle.gate.proofs.read_stretch.Given as goal

abbrev pub invariant-loop-next : goal.invariant-loop-next
invariant-loop-next l = CliffordLetters l.letters l.at l.columns l.next
