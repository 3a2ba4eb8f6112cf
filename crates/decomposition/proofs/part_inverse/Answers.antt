-- The table is the definition's.
use borrow.Author.Rules.{rules}
use Rattle.word.specs.Word.{part_inverses}
use Rattle.decomposition.proofs.part_inverse.Goals as goal

pub returns : goal.returns
unfolding part_inverses
returns c = search rules
