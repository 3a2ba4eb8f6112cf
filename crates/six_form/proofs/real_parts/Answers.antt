use mathlib.Core.Path.{◌∙◌}
use borrow.Author.Rules.{rules}
use borrow.Author.Tests.{tests}
use lib.IntN.{pos}
use lib.ListN.{get_or}
use Rattle.matrix.proofs.Chains.{made}
use Rattle.gaussian.specs.Gaussian.{real}
use Rattle.six_form.proofs.Parts.{parts_written}
use Rattle.six_form.proofs.real_parts.Goals as goal

pub returns : goal.returns
returns c =
    let m = c.args.entries.now in
    made _ (λ i. (get_or m i (real (pos 0))).re) (pos 0) c.from_fn.result (λ x y q k. search (rules, tests)) 36 c.from_fn.ensures.items
    ∙ parts_written (λ x. x.re) (real (pos 0)) m (search rules)
