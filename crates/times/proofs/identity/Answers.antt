use Prim.Native.Nat.{◌/◌, ◌%◌}
use lib.IntN.{pos}
use borrow.Author.Rules.{rules}
use borrow.Author.Tests.{tests}
use Rattle.matrix.specs.Matrix.{δ, listed}
use Rattle.matrix.proofs.Chains.{made}
use Rattle.times.proofs.identity.Goals as goal

pub returns : goal.returns
unfolding listed
returns c = made _ (λ n. δ (n / 6) (n % 6)) (pos 0) c.from_fn.result (λ x y q k. search (rules, tests)) 36 c.from_fn.ensures.items
