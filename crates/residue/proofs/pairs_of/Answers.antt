-- The constant is the table of document 01 with rows counted from 0.
use Rattle.residue.specs.Generator.{table}
use Rattle.residue.specs.Laws.Table.{from_zero}
use Rattle.residue.proofs.pairs_of.Goals as goal

pub returns : goal.returns
unfolding table
returns c = from_zero c.args.g
