-- The invariant: the exponent and the entries before n are written.
use Prim.Native.Nat.{◌≤◌}
use lib.ListN.{length}
use Rattle.file.specs.File.{kind_for, length_for}
use Rattle.file.specs.Laws.Encoding.{Begun}
use Rattle.file.proofs.encode_as.Given as goal

abbrev pub invariant-loop-n : goal.invariant-loop-n
invariant-loop-n g l = (length_for l.operator.exponent ≤ length l.initial.out) × Begun (kind_for l.operator.exponent) l.operator.exponent l.operator.matrix l.n l.initial.out l.out
