-- The invariant: the number is n with the digits from the index on behind it.
use mathlib.Core.Path.{◌≡◌}
use Prim.Native.Nat.{◌≤◌}
use lib.ListN.{drop}
use Rattle.text_read.specs.Text.{largest_number, number_from, number_of}
use Rattle.text_read.proofs.read_number.Given as goal

abbrev pub invariant-loop-b : goal.invariant-loop-b
invariant-loop-b l = (l.n ≤ largest_number) × (number_of l.bytes ≡ number_from l.n (drop l.b-index l.bytes))
