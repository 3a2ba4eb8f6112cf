-- Groups of rows (document 01, "The rule of cutting"): "Rows with equal bits group as 2, 2, 2 or as 2 and 4". f r is the number by which row
-- r groups: its odd entries as six bits.
use Rattle.std.specs.Prelude.{Bool, cond, ◌&&◌, ℕ, eqb}
use Rattle.matrix.specs.Range.{total}
use Rattle.residue.specs.Generator.{fits}

-- how many rows are in row r's group
unfoldable pub group_size : (ℕ → ℕ) → ℕ → ℕ
group_size f r = total (λ s. cond (eqb (f s) (f r)) 1 0) 0 6

-- how many rows are in groups of n rows
unfoldable pub in_groups_of : ℕ → (ℕ → ℕ) → ℕ
in_groups_of n f = total (λ r. cond (eqb (group_size f r) n) 1 0) 0 6

-- "its rows grouped as 2 and 4" (document 02, P3): two rows are in a group of two, four in a group of four
unfoldable pub is_loose : (ℕ → ℕ) → Bool
is_loose f = eqb (in_groups_of 2 f) 2 && eqb (in_groups_of 4 f) 4

-- how many of the fifteen generators have every pair inside a group
unfoldable pub fitting : (ℕ → ℕ) → ℕ
fitting f = total (λ g. cond (fits f g) 1 0) 1 15
