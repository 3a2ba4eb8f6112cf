use mathlib.Core.Path.{refl, ◌∙◌}
use Prim.Native.Nat.{ℕ, ◌+◌, ◌-◌}
use mathlib.Core.Bool.{Bool, not, ◌&&◌}
use mathlib.Core.List.{map}
use lib.Dec.{eqb}
use lib.ListN.{drop, get_or}
use borrow.Author.Rules.{rules}
use borrow.Author.Tests.{tests}
use Rattle.std.specs.List.{list_all}
use Rattle.std.proofs.lemmas.List.{take_all, length-drop}
use Rattle.std.proofs.lemmas.List.Recursion.{same_from_clauses}
use Rattle.std.proofs.lemmas.Iterator.{YieldsList-from_slice}
use Rattle.std.proofs.lemmas.Iterator.Search.{all_from_yields_List}
use Rattle.clifford.specs.Columns.{row_of, differs}
use Rattle.clifford.proofs.row_differs.Goals as goal

-- whether byte b stands for another row than r
abbrev other : ℕ → ℕ → Bool
other r b = not (eqb r (row_of b))

pub returns : goal.returns
returns c =
    let a = c.args in
    let r = row_of (get_or a.columns a.c 0) in
    let bs = drop (a.c + 1) a.columns in
    all_from_yields_List (other r) _ _ _ c.all.ensures.ran (YieldsList-from_slice bs (c.iter.ensures.rest ∙ take_all (6 - (a.c + 1)) bs (rw (length-drop (a.c + 1) a.columns) (search rules)))) (λ x b q k. search (rules, tests))
    ∙ same_from_clauses (list_all (other r)) (λ xs. differs r (map row_of xs)) (λ b t. other r b && t) refl (λ _ _. refl) (λ _ _. refl) bs
