-- The invariant: the letters before n are read, and the exponent and the matrix are those of their product at the least exponent.
use Prim.Native.Nat.{◌-◌}
use lib.ListN.{length}
use Rattle.gate.specs.Laws.Letters.{ReadTo}
use Rattle.gate.proofs.read_letters.Given as goal

abbrev pub invariant-loop-n : goal.invariant-loop-n
invariant-loop-n l = ReadTo l.letters l.product.exponent l.product.matrix l.n

abbrev pub decreases-loop-n : goal.decreases-loop-n
decreases-loop-n l = length l.letters - l.n
