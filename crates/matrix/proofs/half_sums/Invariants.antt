-- The invariant: in the columns before c the rows are as they are to be, and from c on as they were.
use Rattle.matrix.specs.Matrix.{entry}
use Rattle.matrix.specs.Array.{half_sums}
use Rattle.matrix.specs.Laws.Rows.{ColumnsDone}
use Rattle.matrix.proofs.half_sums.Given as goal

abbrev pub invariant-loop-c : goal.invariant-loop-c
invariant-loop-c l = ColumnsDone (half_sums l.i l.j (entry l.initial.m)) l.initial.m l.c l.m
