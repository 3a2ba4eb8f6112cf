use mathlib.Core.Path.{◌≡◌, refl, ap, ◌∙◌}
use Prim.Native.Nat.{ℕ, zero, suc, ◌+◌}
use native.Mathlib.Numerals.{add-one}
use native.Mathlib.Omega.{arith}
use mathlib.Core.Bool.{Bool, ◌&&◌}
use mathlib.Core.List.{List, map}
use lib.ListN.{length, drop, get_or}
use borrow.Author.Rules.{rules}
use borrow.Author.Tests.{tests}
use Rattle.std.specs.List.{list_all, range_with_len}
use Rattle.std.proofs.Common.{drop-cons}
use Rattle.std.proofs.lemmas.List.{drop_all}
use Rattle.std.proofs.lemmas.Iterator.{YieldsList-from_range}
use Rattle.std.proofs.lemmas.Iterator.Search.{all_from_yields_List}
use Rattle.clifford.specs.Columns.{row_of, differs, different}
use Rattle.clifford.proofs.rows_differ.Goals as goal

-- whether no column after c has the row of column c
abbrev alone : List ℕ → ℕ → Bool
alone cs c = differs (row_of (get_or cs c 0)) (map row_of (drop (c + 1) cs))

all_alone : (cs : List ℕ) (c n : ℕ) → length cs ≡ c + n → list_all (alone cs) (range_with_len c n) ≡ different (map row_of (drop c cs))
all_alone cs c zero h = rw (drop_all c cs (omega arith)) refl
all_alone cs c (suc n) h =
    rw (drop-cons cs c 0 (omega arith)) (rw add-one (ap (λ t. differs (row_of (get_or cs c 0)) (map row_of (drop (suc c) cs)) && t) (all_alone cs (suc c) n (omega arith))))

pub returns : goal.returns
returns c =
    let cs = c.args.columns in
    all_from_yields_List (alone cs) _ _ _ c.all.ensures.ran (YieldsList-from_range 0 6 6 refl refl) (λ x b q k. search (rules, tests)) ∙ all_alone cs 0 6 (search rules)
