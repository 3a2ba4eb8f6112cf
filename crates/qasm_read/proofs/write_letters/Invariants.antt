-- The invariant: the statements from `next` on are the first `left` letters of the list, and the others are written behind those.
use Rattle.qasm_read.specs.Statements.{read_from, list_in}
use Rattle.qasm_read.specs.Laws.Letters.{Going}
use Rattle.qasm_read.proofs.write_letters.Given as goal

abbrev pub invariant-loop-left : goal.invariant-loop-left
invariant-loop-left l = Going l.text (list_in (read_from l.text l.at)) l.initial.out l.out l.next l.left
