use mathlib.Core.Path.{◌≡◌, ap, ◌∙◌}
use Prim.Native.Nat.{◌+◌}
use native.Mathlib.Omega.{arith}
use mathlib.Core.Bool.{Bool}
use lib.Dec.{eqb}
use lib.IntN.{ℤ, pos}
use borrow.Author.Rules.{rules}
use borrow.Author.Tests.{tests}
use Rattle.std.specs.List.{position_or_len}
use Rattle.std.proofs.lemmas.Iterator.{YieldsList-from_slice}
use Rattle.std.proofs.lemmas.Iterator.Search.{position_from_yields_List}
use Rattle.matrix.specs.Range.{first_from}
use Rattle.matrix.specs.Integer.{parity}
use Rattle.matrix.specs.Matrix.{entry}
use Rattle.matrix.specs.Array.{odd_at, before_odd}
use Rattle.matrix.specs.Laws.Range.{first_most}
use Rattle.matrix.specs.Laws.Array.{entry_flat}
use Rattle.matrix.proofs.Chains.{first_place, place_or}
use Rattle.matrix.proofs.before_odd.Goals as goal

abbrev is_odd : ℤ → Bool
is_odd z = eqb (parity z) 1

pub returns : goal.returns
unfolding before_odd
returns c =
    let m = c.args.m.now in
    let p = position_or_len is_odd m in
    let f : 0 + p ≡ first_from (odd_at (entry m)) 0 36 =
    rw c.told-m at (first_place (odd_at (entry m)) is_odd (pos 0) 0 m (λ i h. let z : 0 + i ≡ i = omega arith in rw z (ap is_odd (entry_flat m i)))) in
    let e = position_from_yields_List is_odd _ _ c.position.result c.position.ensures.ran (YieldsList-from_slice m cc) (λ x b q k. search (rules, tests)) in
    let u = first_most (odd_at (entry m)) 0 36 in
    c.unwrap_or.ensures ∙ place_or c.position.result p 36 (omega arith) (rw c.told-m at e) ∙ (omega (arith, f))
