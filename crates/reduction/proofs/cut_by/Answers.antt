-- Pair after pair: an array's value goes on as the matrix that it lists, and stays bounded.
use mathlib.Core.List.{List}
use mathlib.Core.Path.{◌≡◌, ap, ap₂, ◌∙◌}
use Prim.Native.Nat.{ℕ, ◌+◌, ◌*◌, ◌^◌, ◌<◌, ◌≤◌}
use native.Mathlib.Omega.{arith}
use lib.IntN.{ℤ}
use lib.ListN.{get_or}
use Rattle.matrix.specs.Matrix.{Matrix, Same, entry, listed}
use Rattle.matrix.specs.Array.{Bounded, half_sums}
use Rattle.matrix.specs.Laws.Matrix.{same_refl}
use Rattle.matrix.specs.Laws.Array.{entry_listed, listed_cong, half_sums_cong, bounded_listed, bounded_half_sums}
use Rattle.residue.specs.Generator.{pair_rows, low, high}
use Rattle.residue.specs.Laws.Table.{row_at_lem}
use Rattle.residue.specs.Laws.Generator.{low_high, low_six, high_six, low_not_high}
use Rattle.reduction.proofs.cut_by.Goals as goal

-- the rows of pair p, where the code has the six rows ps
module _ (g : ℕ) (l : 1 ≤ g) (u : g ≤ 15) (ps : List ℕ) (q : ps ≡ pair_rows g) (p : ℕ) (h : p < 3) where
  low_at : get_or ps (p * 2) 0 ≡ low g p
  low_at = ap (λ x. get_or x (p * 2) 0) q ∙ row_at_lem g (p * 2)

  high_at : get_or ps (p * 2 + 1) 0 ≡ high g p
  high_at = ap (λ x. get_or x (p * 2 + 1) 0) q ∙ row_at_lem g (p * 2 + 1)

  in_order : get_or ps (p * 2) 0 < get_or ps (p * 2 + 1) 0
  in_order = rw (low_at, high_at) (low_high g l u p h)

  inside : get_or ps (p * 2 + 1) 0 < 6
  inside = rw high_at (high_six g l u p h)

  -- the array after it
  module _ (m r : List ℤ) (d : r ≡ listed (half_sums (get_or ps (p * 2) 0) (get_or ps (p * 2 + 1) 0) (entry m))) where
    cut_is : r ≡ listed (half_sums (low g p) (high g p) (entry m))
    cut_is = d ∙ ap₂ (λ i j. listed (half_sums i j (entry m))) low_at high_at

    bounded : Bounded (2 ^ 30) (entry m) → Bounded (2 ^ 30) (entry r)
    bounded s = rw cut_is (bounded_listed (2 ^ 30) _ (bounded_half_sums (2 ^ 30) (low g p) (high g p) (entry m) (low_six g l u p h) (high_six g l u p h) (low_not_high g l u p h) s))

    goes_on : (N : Matrix) → Same 6 (entry m) N → Same 6 (entry r) (half_sums (low g p) (high g p) N)
    goes_on N s =
        rw cut_is
        (λ i j hi hj. entry_listed (half_sums (low g p) (high g p) (entry m)) i j hi hj
        ∙ half_sums_cong (low g p) (high g p) (entry m) N (low_six g l u p h) (high_six g l u p h) (low_not_high g l u p h) s i j hi hj)

pub half_sums-requires : goal.half_sums-requires
half_sums-requires c =
    let p = c.requires in
    let k = c.pairs_of-pairs in
    (in_order c.args.g p.0 p.1 k.result k.ensures 2 (omega arith), inside c.args.g p.0 p.1 k.result k.ensures 2 (omega arith), p.2)

pub half_sums-requires-2 : goal.half_sums-requires-2
half_sums-requires-2 c =
    let p = c.requires in
    let g = c.args.g in
    let k = c.pairs_of-pairs in
    let f = c.half_sums in
    (in_order g p.0 p.1 k.result k.ensures 1 (omega arith), inside g p.0 p.1 k.result k.ensures 1 (omega arith), bounded g p.0 p.1 k.result k.ensures 2 (omega arith) c.args.m f.new.m f.ensures p.2)

pub half_sums-requires-3 : goal.half_sums-requires-3
half_sums-requires-3 c =
    let p = c.requires in
    let g = c.args.g in
    let k = c.pairs_of-pairs in
    let f = c.half_sums in
    let h = c.half_sums-2 in
    let b = bounded g p.0 p.1 k.result k.ensures 2 (omega arith) c.args.m f.new.m f.ensures p.2 in
    (in_order g p.0 p.1 k.result k.ensures 0 (omega arith), inside g p.0 p.1 k.result k.ensures 0 (omega arith), bounded g p.0 p.1 k.result k.ensures 1 (omega arith) f.new.m h.new.m h.ensures b)

pub returns : goal.returns
returns c =
    let g = c.args.g in
    let p = c.requires in
    let M = entry c.args.m in
    let k = c.pairs_of-pairs in
    let f = c.half_sums in
    let h = c.half_sums-2 in
    let first = goes_on g p.0 p.1 k.result k.ensures 2 (omega arith) c.args.m f.new.m f.ensures M (same_refl 6 M) in
    let second = goes_on g p.0 p.1 k.result k.ensures 1 (omega arith) f.new.m h.new.m h.ensures (half_sums (low g 2) (high g 2) M) first in
    cut_is g p.0 p.1 k.result k.ensures 0 (omega arith) h.new.m c.half_sums-3.new.m c.half_sums-3.ensures
    ∙ listed_cong _ _ (half_sums_cong (low g 0) (high g 0) _ _ (low_six g p.0 p.1 0 (omega arith)) (high_six g p.0 p.1 0 (omega arith)) (low_not_high g p.0 p.1 0 (omega arith)) second)
