-- Products with a generator or a Clifford on the right, an entry at a time.
use Rattle.std.specs.Prelude.{cond, List, ℕ, ltb, ℤ, neg_ℤ, ◌+ℤ◌, ◌-ℤ◌, get_or, set, replicate}
use Rattle.matrix.specs.Matrix.{Matrix}
use Rattle.clifford.specs.Columns.{row_of, is_minus}
use Rattle.residue.specs.Generator.{low, high}

-- the partners of the columns, with i and j as each other's; columns are counted from 0
abbrev pub paired : ℕ → ℕ → List ℕ → List ℕ
paired i j ps = set (set ps i j) j i

unfoldable pub partners : ℕ → List ℕ
partners g = paired (low g 2) (high g 2) (paired (low g 1) (high g 1) (paired (low g 0) (high g 0) (replicate 6 0)))

-- the other of the pair in which generator g has c
abbrev pub partner : ℕ → ℕ → ℕ
partner g c = get_or (partners g) c 0

-- M times a generator, where p is the partner of c
abbrev pub pair_entry : Matrix → ℕ → ℕ → ℕ → ℤ
pair_entry M r c p = cond (ltb c p) (M r c +ℤ M r p) (M r c -ℤ M r p)

-- M times a Clifford, in the column of byte b
abbrev pub signed_entry : Matrix → ℕ → ℕ → ℤ
signed_entry M r b = cond (is_minus b) (neg_ℤ (M r (row_of b))) (M r (row_of b))
