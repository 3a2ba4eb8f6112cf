use mathlib.Core.Path.{◌≡◌, ap, ◌∙◌}
use Prim.Native.Nat.{◌+◌}
use native.Mathlib.Omega.{arith}
use lib.ListN.{get_or}
use borrow.Author.Rules.{rules}
use borrow.Author.Tests.{tests}
use Rattle.std.proofs.lemmas.Iterator.{YieldsList-from_slice}
use Rattle.std.proofs.lemmas.Iterator.Search.{all_from_yields_List}
use Rattle.matrix.proofs.Chains.{every_place}
use Rattle.sheet_bytes.specs.Sheet.{is_number}
use Rattle.sheet_bytes.proofs.are_numbers.Goals as goal

pub returns : goal.returns
returns c =
    let s = c.args.numbers.now in
    all_from_yields_List is_number _ _ _ c.all.ensures.ran (YieldsList-from_slice s cc) (λ x b q k. search (rules, tests))
    ∙ every_place (λ i. is_number (get_or s i 0)) is_number 0 0 s (λ i h. let z : 0 + i ≡ i = omega arith in ap (λ k. is_number (get_or s k 0)) z)
