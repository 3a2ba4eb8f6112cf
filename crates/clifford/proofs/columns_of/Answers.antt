use borrow.Author.Rules.{rules}
use borrow.Author.Tests.{tests}
use Rattle.matrix.specs.Matrix.{entry}
use Rattle.matrix.proofs.Chains.{made}
use Rattle.clifford.specs.Columns.{column_byte}
use Rattle.clifford.proofs.columns_of.Goals as goal

pub returns : goal.returns
returns c = made _ (column_byte (entry c.args.m)) 0 c.from_fn.result (λ x y q k. search (rules, tests)) 6 c.from_fn.ensures.items
