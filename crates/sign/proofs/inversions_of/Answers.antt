-- Of six columns or fewer at most five are after column c.
use mathlib.Core.Path.{◌≡◌, refl, sym, ap, ◌∙◌}
use Prim.Native.Nat.{ℕ, zero, suc, ◌+◌, ◌*◌, ◌≤◌}
use native.Mathlib.Numerals.{add-one}
use native.Mathlib.Omega.{arith}
use mathlib.Core.List.{List, ◌∷◌, map}
use lib.Dec.{ltb}
use lib.ListN.{length, drop, get_or}
use borrow.Author.Rules.{rules}
use borrow.Author.Tests.{tests}
use Rattle.std.specs.List.{sum, range_with_len}
use Rattle.std.proofs.Common.{drop-cons}
use Rattle.std.proofs.lemmas.List.{drop_all, length-drop}
use Rattle.std.proofs.lemmas.List.Sums.{sum_by-cons}
use Rattle.std.proofs.lemmas.Iterator.{YieldsList-from_range, YieldsList-from_map}
use Rattle.std.proofs.lemmas.Iterator.Consumers.{sum_from_yields_List, fits_from_yields_list}
use Rattle.clifford.specs.Columns.{row_of, below, inversions}
use Rattle.sign.proofs.Counted.{counted}
use Rattle.sign.proofs.inversions_of.Goals as goal

-- how many columns after c have their row below that of column c
abbrev after : List ℕ → ℕ → ℕ
after cs c = below (row_of (get_or cs c 0)) (map row_of (drop (c + 1) cs))

module _ (cs : List ℕ) where
  one_more : (c n : ℕ) → sum (map (after cs) (range_with_len c (suc n))) ≡ after cs c + sum (map (after cs) (range_with_len (c + 1) n))
  one_more c n = sum_by-cons (λ x. x) (after cs c) (map (after cs) (range_with_len (c + 1) n))

  all_after : (c n : ℕ) → length cs ≡ c + n → sum (map (after cs) (range_with_len c n)) ≡ inversions (map row_of (drop c cs))
  all_after c zero h = rw (drop_all c cs (omega arith)) refl
  all_after c (suc n) h =
      let d : drop c cs ≡ get_or cs c 0 ∷ drop (c + 1) cs = drop-cons cs c 0 (omega arith) ∙ ap (λ i. get_or cs c 0 ∷ drop i cs) (sym (add-one c)) in
      one_more c n ∙ ap (λ t. after cs c + t) (all_after (c + 1) n (omega arith)) ∙ sym (ap (λ xs. inversions (map row_of xs)) d)

  few_after : (c n : ℕ) → length cs ≤ 6 → sum (map (after cs) (range_with_len c n)) ≤ 5 * n
  few_after c zero h = omega arith
  few_after c (suc n) h =
      let r = row_of (get_or cs c 0) in
      let (_, u) = counted (λ b. ltb (row_of b) r) (λ xs. below r (map row_of xs)) refl (λ _ _. refl) (drop (c + 1) cs) in
      let l = length-drop (c + 1) cs in
      let more = few_after (c + 1) n h in
      let s = one_more c n in
      omega (arith, s, more, u, l)

pub sum-requires-clause-fits : goal.sum-requires-clause-fits
sum-requires-clause-fits c =
    let cs = c.args.columns.now in
    let few = few_after cs 0 (length cs) c.requires in
    fits_from_yields_list c.map.result 256 (YieldsList-from_map _ (after cs) (YieldsList-from_range 0 (length cs) (length cs) c.map.ensures.source (omega arith)) c.map.ensures.closure (λ x r q k. search (rules, tests))) (omega (arith, few, c.requires))

pub returns : goal.returns
returns c =
    let cs = c.args.columns.now in
    let few = few_after cs 0 (length cs) c.requires in
    let e = sum_from_yields_List c.map.result c.sum.result c.sum.ensures.ran (YieldsList-from_map _ (after cs) (YieldsList-from_range 0 (length cs) (length cs) c.map.ensures.source (omega arith)) c.map.ensures.closure (λ x r q k. search (rules, tests))) in
    (omega (arith, e, few, c.requires), e ∙ all_after cs 0 (length cs) (omega arith))
