-- Each entry's two numbers stand where the definition reads them.
use Prim.Native.Nat.{◌+◌, ◌*◌}
use borrow.Author.Rules.{rules}
use borrow.Author.Tests.{tests}
use lib.IntN.{pos}
use lib.ListN.{get_or}
use Rattle.matrix.specs.Range.{tabulate}
use Rattle.matrix.proofs.Chains.{made}
use Rattle.gaussian.specs.Gaussian.{gaussian}
use Rattle.omega.specs.Modular.{residue_of, first_column}
use Rattle.omega.proofs.first_column.Goals as goal

pub returns : goal.returns
unfolding first_column tabulate
returns c =
    let n = c.args.n in
    made _ (λ i. residue_of c.args.k (gaussian (get_or n (8 * i) (pos 0)) (get_or n (8 * i + 1) (pos 0)))) 0 c.from_fn.result
    (λ x y q k. search (rules, tests)) 4 c.from_fn.ensures.items
