use mathlib.Core.Path.{refl, ◌∙◌}
use Prim.Native.Nat.{ℕ, ◌+◌, ◌*◌}
use mathlib.Core.Bool.{Bool}
use mathlib.Core.List.{List}
use lib.Dec.{eqb}
use lib.ListN.{get_or}
use borrow.Author.Rules.{rules}
use borrow.Author.Tests.{tests}
use Rattle.std.proofs.lemmas.Iterator.{YieldsList-from_range}
use Rattle.std.proofs.lemmas.Iterator.Search.{all_from_yields_List}
use Rattle.matrix.proofs.Chains.{every_in}
use Rattle.residue.specs.Masks.{mask_at}
use Rattle.residue.proofs.pairs_fit.Goals as goal

-- whether the rows of pair p have one mask
abbrev pair_fits : List ℕ → List ℕ → ℕ → Bool
pair_fits masks pairs p = eqb (mask_at masks (get_or pairs (p * 2) 0)) (mask_at masks (get_or pairs (p * 2 + 1) 0))

pub returns : goal.returns
returns c =
    let f = pair_fits c.args.masks.now c.args.pairs in
    all_from_yields_List f _ _ _ c.all.ensures.ran (YieldsList-from_range 0 3 3 refl refl) (λ x b q k. search (rules, tests)) ∙ every_in f 0 3
