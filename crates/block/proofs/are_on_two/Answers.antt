use mathlib.Core.Path.{refl, ◌∙◌}
use Prim.Native.Nat.{ℕ}
use native.Mathlib.Omega.{arith}
use mathlib.Core.Bool.{Bool}
use mathlib.Core.List.{List}
use borrow.Author.Rules.{rules}
use borrow.Author.Tests.{tests}
use Rattle.std.proofs.lemmas.Iterator.{YieldsList-from_range}
use Rattle.std.proofs.lemmas.Iterator.Search.{all_from_yields_List}
use Rattle.matrix.proofs.Chains.{every_in}
use Rattle.block.specs.Block.{block_at, block_count, is_on_two}
use Rattle.block.proofs.are_on_two.Goals as goal

abbrev on_two_at : ℕ → List ℕ → ℕ → Bool
on_two_at w b n = is_on_two (block_at w b n)

pub returns : goal.returns
returns c =
    let a = c.args in
    let n = block_count a.w a.bytes.now in
    all_from_yields_List (on_two_at a.w a.bytes.now) _ _ _ c.all.ensures.ran (YieldsList-from_range 0 n n refl (omega arith)) (λ x b q k. search (rules, tests)) ∙ every_in (on_two_at a.w a.bytes.now) 0 n
