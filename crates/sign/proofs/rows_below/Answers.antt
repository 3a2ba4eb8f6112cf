use mathlib.Core.Path.{refl, ◌∙◌}
use Prim.Native.Nat.{ℕ, ◌+◌, ◌-◌}
use native.Mathlib.Omega.{arith}
use mathlib.Core.Bool.{Bool}
use mathlib.Core.List.{map}
use lib.Dec.{ltb}
use lib.ListN.{length, drop, get_or}
use borrow.Author.Rules.{rules}
use borrow.Author.Tests.{tests}
use Rattle.std.proofs.lemmas.List.{take_all, length-drop}
use Rattle.std.proofs.lemmas.Iterator.{YieldsList-from_slice}
use Rattle.std.proofs.lemmas.Iterator.Consumers.{count_from_yields_List, YieldsList-at, YieldsList-from_filter}
use Rattle.clifford.specs.Columns.{row_of, below}
use Rattle.sign.proofs.Counted.{counted}
use Rattle.sign.proofs.rows_below.Goals as goal

-- whether byte b stands for a row below row r
abbrev is_below : ℕ → ℕ → Bool
is_below r b = ltb (row_of b) r

pub returns : goal.returns
returns c =
    let a = c.args in
    let cs = a.columns.now in
    let r = row_of (get_or cs a.c 0) in
    let bs = drop (a.c + 1) cs in
    let k = length-drop (a.c + 1) cs in
    let (e, u) = counted (is_below r) (λ xs. below r (map row_of xs)) refl (λ _ _. refl) bs in
    let s = YieldsList-at c.filter.ensures.source (YieldsList-from_slice bs (c.iter.ensures.rest ∙ take_all (length cs - (a.c + 1)) bs (omega (arith, k, c.requires)))) in
    let n = count_from_yields_List c.filter.result c.count.result c.count.ensures.ran (YieldsList-from_filter _ (is_below r) s c.filter.ensures.closure (λ x r q k. search (rules, tests))) in
    (omega (arith, n, e, u, k, c.requires), omega (arith, n, e))
