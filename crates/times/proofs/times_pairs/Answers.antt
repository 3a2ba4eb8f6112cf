use borrow.Author.Rules.{rules}
use borrow.Author.Tests.{tests}
use lib.ListN.{get_or}
use Rattle.matrix.specs.Matrix.{entry}
use Rattle.times.specs.Times.{pair_entry}
use Rattle.times.proofs.times_pairs.Goals as goal

pub returns : goal.returns
returns c = c.fill.ensures (λ r i. pair_entry (entry c.args.m.now) r i (get_or c.args.partners i 0)) (λ r i x u v q. search (rules, tests))
