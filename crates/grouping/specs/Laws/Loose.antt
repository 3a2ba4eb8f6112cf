-- Rows that group as 2 and 4 (document 02, P3): those of which some row has no odd entry. Three generators fit them; at k = 1 there are none. For
-- every exponent.
use Rattle.std.specs.Prelude.{◌≡◌, ℕ, ◌<◌, eqb}
use Rattle.std.proofs.Common.{arith}
use Rattle.std.proofs.Math.Path.{ap}
use Rattle.std.proofs.Math.Bool.{cond}
use Rattle.matrix.specs.Laws.Range.{total_cong}
use Rattle.residue.specs.Laws.Generator.{Alike}
use Rattle.grouping.specs.Grouping.{group_size, in_groups_of, is_loose}

-- it depends on which rows group together
module _ (f f' : ℕ → ℕ) (h : Alike f f') where
  group_size_cong : (r : ℕ) → r < 6 → group_size f r ≡ group_size f' r
  unfolding group_size
  group_size_cong r hr = total_cong 0 6 (λ s l u. ap (λ t. cond t 1 0) (h s r (omega arith) hr))

  in_groups_cong : (n : ℕ) → in_groups_of n f ≡ in_groups_of n f'
  unfolding in_groups_of
  in_groups_cong n = total_cong 0 6 (λ r l u. ap (λ x. cond (eqb x n) 1 0) (group_size_cong r (omega arith)))

  pub loose_cong : is_loose f ≡ is_loose f'
  unfolding is_loose
  loose_cong = rw (in_groups_cong 2, in_groups_cong 4)
