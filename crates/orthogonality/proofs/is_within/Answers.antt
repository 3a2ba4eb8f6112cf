use mathlib.Core.Path.{◌≡◌, refl, sym, ap, ap₂, ◌∙◌}
use Prim.Native.Nat.{ℕ, ◌+◌, ◌/◌, ◌%◌, ◌^◌, ◌<◌, ◌≤◌}
use native.Mathlib.Omega.{arith}
use mathlib.Core.Bool.{Bool}
use mathlib.Core.List.{List}
use borrow.Author.Rules.{rules}
use borrow.Author.Tests.{tests}
use lib.IntN.{ℤ, pos, ◌*ℤ◌}
use lib.ListN.{length, get_or}
use lib.Dec.{lit<}
use lib.Signed.{le_z}
use mir.Syntax.{w64}
use mir.Val.{to_z, of_z}
use Rattle.std.proofs.lemmas.List.{get_or_default}
use Rattle.std.proofs.lemmas.Iterator.{YieldsList-from_slice}
use Rattle.std.proofs.lemmas.Iterator.Adapters.{serves_from_places}
use Rattle.std.proofs.lemmas.Iterator.Search.{all_from_yields_List}
use Rattle.std.specs.Prelude.{nat_abs}
use Rattle.matrix.specs.Range.{every}
use Rattle.matrix.specs.Matrix.{entry}
use Rattle.matrix.specs.Array.{Bounded, is_within}
use Rattle.matrix.specs.Laws.Array.{entry_flat}
use Rattle.matrix.specs.Laws.Machine.{kept, Sized, fits, again, stored, mul}
use Rattle.matrix.proofs.Chains.{every_place}
use Rattle.orthogonality.proofs.is_within.Goals as goal

-- a number and its square, as the machine has them
abbrev held : ℤ → ℤ
held x = to_z w64 (of_z w64 x)

abbrev squared : ℤ → ℤ
squared x = held x *ℤ held x

abbrev test : ℤ → ℤ → Bool
test limit x = le_z (held (squared x)) limit

-- the test of entry n, row by row
abbrev within_at : ℤ → List ℤ → ℕ → Bool
within_at limit m n = le_z (entry m (n / 6) (n % 6) *ℤ entry m (n / 6) (n % 6)) limit

module _ (m : List ℤ) (b : Bounded (2 ^ 31) (entry m)) (n : ℕ) (h : n < 36) where
  square : (x : ℤ) → x ≡ get_or m n (pos 0) → Sized (2 ^ 62) (squared x) (x *ℤ x)
  square x e =
      let z : nat_abs (get_or m n (pos 0)) ≤ 2 ^ 31 = rw entry_flat at (b.size (n / 6) (n % 6) (omega arith) (omega arith)) in
      let s : Sized (2 ^ 31) (held x) x = stored x (rw e z) (lit< tt) in
      mul s s

  tested : (limit : ℤ) → within_at limit m (0 + n) ≡ test limit (get_or m n (pos 0))
  tested limit =
      let z : 0 + n ≡ n = omega arith in
      rw (z, entry_flat) (ap (λ x. le_z x limit) (sym (again (square (get_or m n (pos 0)) refl) (lit< tt)).is))

pub all-requires-clause-callable : goal.all-requires-clause-callable
all-requires-clause-callable c =
    let m = c.args.operator.now.matrix in
    serves_from_places (YieldsList-from_slice m cc) (λ x q r. search rules)
    (λ x n l e _ _ _ _ _ _. fits (square m c.requires.1 n (omega arith) x.now (e ∙ get_or_default m n x.now (pos 0) l)) (lit< tt))

pub returns : goal.returns
unfolding is_within
returns c =
    let m = c.args.operator.now.matrix in
    let p = c.power_of_two-limit in
    let l : length m ≡ 36 = omega arith in
    all_from_yields_List (test p.result) _ _ _ c.all.ensures.ran (YieldsList-from_slice m cc) (λ x b q k. search (rules, tests, kept {z = p.result} p.type_inv))
    ∙ every_place (within_at p.result m) (test p.result) (pos 0) 0 m (λ n h. tested m c.requires.1 n (omega arith) p.result)
    ∙ ap₂ (λ limit n. every n (within_at limit m)) p.ensures l
