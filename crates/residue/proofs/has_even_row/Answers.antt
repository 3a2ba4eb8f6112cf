use mathlib.Core.Path.{◌≡◌, refl, ◌∙◌}
use Prim.Native.Nat.{ℕ, ◌+◌}
use native.Mathlib.Omega.{arith}
use mathlib.Core.Bool.{Bool}
use lib.Count.{ones}
use lib.Dec.{eqb}
use lib.ListN.{length}
use borrow.Author.Rules.{rules}
use borrow.Author.Tests.{tests}
use Rattle.std.proofs.lemmas.Iterator.{YieldsList-from_slice}
use Rattle.std.proofs.lemmas.Iterator.Search.{any_from_yields_List}
use Rattle.matrix.proofs.Chains.{some_place}
use Rattle.residue.specs.Masks.{mask_at, has_even_row}
use Rattle.residue.proofs.has_even_row.Goals as goal

-- whether a row of this mask has no odd entry
abbrev is_even : ℕ → Bool
is_even mask = eqb (ones mask) 0

pub returns : goal.returns
unfolding has_even_row
returns c =
    let ms = c.args.masks in
    let l : length ms ≡ 6 = search rules in
    let e = some_place (λ r. is_even (mask_at ms r)) is_even 0 0 ms (λ i h. let z : 0 + i ≡ i = omega arith in rw z refl) in
    any_from_yields_List is_even _ _ _ c.any.ensures.ran (YieldsList-from_slice ms cc) (λ x b q k. search (rules, tests)) ∙ (rw l at e)
