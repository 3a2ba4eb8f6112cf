-- The invariant: the bytes up to `end` are `count` statements.
use mathlib.Core.Path.{◌≡◌}
use mathlib.Core.List.{List, ◌++◌}
use Prim.Native.Nat.{ℕ, ◌+◌, ◌*◌, ◌-◌, ◌≤◌}
use lib.ListN.{length, drop}
use Rattle.letter.specs.declared.Gate.{Gate}
use Rattle.qasm.specs.Reading.{lines, statements}
use Rattle.qasm.specs.Text.{longest_statement}
use Rattle.qasm_read.specs.Statements.{followed}
use Rattle.qasm_read.proofs.statements_from.Given as goal

pub record Passed (bs : List ℕ) (at count end : ℕ) : Type 0 where
  pub bytes : List ℕ
  pub stands : drop at bs ≡ bytes ++ drop end bs
  pub ends : end ≡ at + length bytes
  pub inside : end ≤ length bs
  pub list : List Gate
  pub counted : count ≡ length list
  pub few : count ≤ length bytes
  pub short : length bytes ≤ longest_statement * length list
  pub reads : (rest : List ℕ) → statements (lines (bytes ++ rest)) ≡ followed list (statements (lines rest))

abbrev pub invariant-loop-end : goal.invariant-loop-end
invariant-loop-end l = Passed l.text l.at l.count l.end

abbrev pub decreases-loop-end : goal.decreases-loop-end
decreases-loop-end l = length l.text - l.end
