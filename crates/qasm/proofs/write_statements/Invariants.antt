-- The invariant: the statements of the letters behind those that are left are in the buffer.
use mathlib.Core.Path.{◌≡◌}
use mathlib.Core.List.{List, ◌++◌}
use Prim.Native.Nat.{ℕ}
use Rattle.std.specs.Slice.Iter.{iter_rest}
use Rattle.std.specs.Iterator.Adapters.{rev_source}
use Rattle.text.specs.Writer.{Writes}
use Rattle.text.specs.declared.Writer.{Writer}
use Rattle.qasm.specs.Reading.{body_of}
use Rattle.qasm.proofs.write_statements.Given as goal

pub record Going (bs left : List ℕ) (old new : Writer) : Type 0 where
  pub behind : List ℕ
  pub are : bs ≡ left ++ behind
  pub writes : Writes (body_of behind) old new

abbrev pub invariant-loop-b : goal.invariant-loop-b
invariant-loop-b l = Going l.letters (iter_rest (rev_source l.b-iterator)) l.initial.w l.w
