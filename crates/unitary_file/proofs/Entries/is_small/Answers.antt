use mathlib.Core.Path.{refl, ap, ◌∙◌}
use Prim.Native.Nat.{ℕ, ◌/◌, ◌%◌}
use mathlib.Core.Bool.{Bool}
use mathlib.Core.List.{List}
use lib.IntN.{ℤ}
use lib.Signed.{le_z}
use borrow.Author.Rules.{rules}
use borrow.Author.Tests.{tests}
use Rattle.std.proofs.lemmas.Iterator.{YieldsList-from_range}
use Rattle.std.proofs.lemmas.Iterator.Search.{all_from_yields_List}
use Rattle.matrix.specs.Range.{every}
use Rattle.matrix.specs.Laws.Machine.{kept}
use Rattle.matrix.proofs.Chains.{every_in}
use Rattle.gaussian.specs.Gaussian.{norm_of}
use Rattle.unitary.specs.Unitary.{matrix_of}
use Rattle.unitary_file.specs.Unitary.{is_small}
use Rattle.unitary_file.proofs.Entries.is_small.Goals as goal

-- whether entry p is small
abbrev small_at : ℤ → List ℤ → ℕ → Bool
small_at limit n p = le_z (norm_of (matrix_of n (p / 4) (p % 4))) limit

pub returns : goal.returns
unfolding is_small
returns c =
    let n = c.args.self.now.entries in
    let q = c.power_of_two-limit in
    all_from_yields_List (small_at q.result n) _ _ _ c.all.ensures.ran (YieldsList-from_range 0 16 16 refl refl) (λ x b r k. search (rules, tests, kept {z = q.result} q.type_inv))
    ∙ every_in (small_at q.result n) 0 16
    ∙ ap (λ limit. every 16 (small_at limit n)) q.ensures
