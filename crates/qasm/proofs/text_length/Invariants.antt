-- The invariant: the letters behind those that are left are gates, whose text has n bytes.
use mathlib.Core.Path.{◌≡◌}
use mathlib.Core.List.{List, ◌++◌}
use Prim.Native.Nat.{ℕ, ◌+◌, ◌*◌, ◌≤◌}
use lib.ListN.{length}
use Rattle.std.specs.Iterator.Adapters.{rev_source}
use Rattle.std.specs.Slice.Iter.{iter_rest}
use Rattle.letter.specs.declared.Gate.{Gate}
use Rattle.gate.specs.Reading.{gates}
use Rattle.qasm.specs.Text.{text_of, first_length, longest_statement}
use Rattle.qasm.specs.Reading.{letters_of}
use Rattle.qasm.proofs.text_length.Given as goal

pub record Going (bs left : List ℕ) (n : ℕ) : Type 0 where
  pub behind : List ℕ
  pub are : bs ≡ left ++ behind
  pub small : n + longest_statement * length left ≤ first_length + longest_statement * length bs
  pub list : List Gate
  pub is : letters_of behind ≡ gates list
  pub long : n ≡ length (text_of list)

abbrev pub invariant-loop-b : goal.invariant-loop-b
invariant-loop-b l = Going l.letters (iter_rest (rev_source l.b-iterator)) l.n
