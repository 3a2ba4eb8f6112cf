use mathlib.Core.Path.{refl}
use native.Mathlib.Omega.{arith}
use borrow.Author.Rules.{rules}
use borrow.Author.Tests.{tests}
use Rattle.std.proofs.lemmas.Iterator.{YieldsList-from_slice}
use Rattle.std.proofs.lemmas.Iterator.Consumers.{count_from_yields_List, YieldsList-from_filter}
use Rattle.clifford.specs.Columns.{is_minus, minuses}
use Rattle.sign.proofs.Counted.{counted}
use Rattle.sign.proofs.minuses_of.Goals as goal

pub returns : goal.returns
returns c =
    let bs = c.args.columns.now in
    let (e, u) = counted is_minus minuses refl (λ _ _. refl) bs in
    let n = count_from_yields_List c.filter.result c.count.result c.count.ensures.ran (YieldsList-from_filter _ is_minus (YieldsList-from_slice bs cc) c.filter.ensures.closure (λ x r q k. search (rules, tests))) in
    (omega (arith, n, e, u, c.requires), omega (arith, n, e))
