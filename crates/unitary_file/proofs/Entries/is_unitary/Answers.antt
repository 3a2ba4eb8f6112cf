use mathlib.Core.Path.{refl, ap, ◌∙◌}
use Prim.Native.Nat.{ℕ, ◌/◌, ◌%◌}
use mathlib.Core.Bool.{Bool}
use mathlib.Core.List.{List}
use lib.IntN.{ℤ}
use borrow.Author.Rules.{rules}
use borrow.Author.Tests.{tests}
use Rattle.std.proofs.lemmas.Iterator.{YieldsList-from_range}
use Rattle.std.proofs.lemmas.Iterator.Search.{all_from_yields_List}
use Rattle.matrix.specs.Range.{every}
use Rattle.matrix.specs.Laws.Machine.{kept}
use Rattle.matrix.proofs.Chains.{every_in}
use Rattle.unitary.specs.Unitary.{matrix_of}
use Rattle.unitary_file.specs.Unitary.{unitary_at, is_unitary}
use Rattle.unitary_file.proofs.Entries.is_unitary.Goals as goal

-- whether the rows of pair p are as they should be
abbrev test_at : ℤ → List ℤ → ℕ → Bool
test_at norm n p = unitary_at norm (matrix_of n) (p / 4) (p % 4)

pub returns : goal.returns
unfolding is_unitary
returns c =
    let n = c.args.self.now.entries in
    let q = c.power_of_two-norm in
    all_from_yields_List (test_at q.result n) _ _ _ c.all.ensures.ran (YieldsList-from_range 0 16 16 refl refl) (λ x b r k. search (rules, tests, kept {z = q.result} q.type_inv))
    ∙ every_in (test_at q.result n) 0 16
    ∙ ap (λ norm. every 16 (test_at norm n)) q.ensures
