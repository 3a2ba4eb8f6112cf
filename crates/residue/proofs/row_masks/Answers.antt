use borrow.Author.Rules.{rules}
use borrow.Author.Tests.{tests}
use Rattle.matrix.specs.Matrix.{entry}
use Rattle.matrix.specs.Array.{row_mask}
use Rattle.matrix.proofs.Chains.{made}
use Rattle.residue.proofs.row_masks.Goals as goal

pub returns : goal.returns
returns c = made _ (row_mask (entry c.args.m.now)) 0 c.from_fn.result (λ x y q k. search (rules, tests)) 6 c.from_fn.ensures.items
