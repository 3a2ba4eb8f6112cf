-- The table is the definition's.
use Rattle.gate_list.specs.List.{rights, right_of}
use borrow.Author.Rules.{rules}
use Rattle.gate_list.proofs.right_of.Goals as goal

pub returns : goal.returns
unfolding right_of rights
returns c = search rules
