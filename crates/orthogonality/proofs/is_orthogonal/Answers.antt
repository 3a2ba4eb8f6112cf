use mathlib.Core.Path.{refl, ap, ◌∙◌}
use Prim.Native.Nat.{ℕ, ◌/◌, ◌%◌}
use mathlib.Core.Bool.{Bool}
use mathlib.Core.List.{List}
use lib.IntN.{ℤ}
use borrow.Author.Rules.{rules}
use borrow.Author.Tests.{tests}
use Rattle.std.proofs.lemmas.Iterator.{YieldsList-from_range}
use Rattle.std.proofs.lemmas.Iterator.Search.{all_from_yields_List}
use Rattle.matrix.specs.Range.{every}
use Rattle.matrix.specs.Matrix.{entry}
use Rattle.matrix.specs.Array.{orthogonal_at, is_orthogonal}
use Rattle.matrix.specs.Laws.Machine.{kept}
use Rattle.matrix.proofs.Chains.{every_in}
use Rattle.orthogonality.proofs.is_orthogonal.Goals as goal

-- whether the rows of pair n are as they should be
abbrev test_at : ℤ → List ℤ → ℕ → Bool
test_at norm m n = orthogonal_at norm (entry m) (n / 6) (n % 6)

pub returns : goal.returns
unfolding is_orthogonal
returns c =
    let m = c.args.operator.now.matrix in
    let p = c.power_of_two-norm in
    all_from_yields_List (test_at p.result m) _ _ _ c.all.ensures.ran (YieldsList-from_range 0 36 36 refl refl) (λ x b q k. search (rules, tests, kept {z = p.result} p.type_inv))
    ∙ every_in (test_at p.result m) 0 36
    ∙ ap (λ norm. every 36 (test_at norm m)) p.ensures
