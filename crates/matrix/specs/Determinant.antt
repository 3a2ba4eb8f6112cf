-- The determinant, by Laplace expansion along the first column.
use Rattle.std.specs.Prelude.{cond, ℕ, zero, suc, ltb, ℤ, pos, negsuc, ◌*ℤ◌}
use Rattle.std.proofs.Math.IntN.{pow}
use Rattle.matrix.specs.Range.{sum}
use Rattle.matrix.specs.Matrix.{Matrix}

-- the index r of what is left after index i is taken out, as an index of the whole
unfoldable pub skip : ℕ → ℕ → ℕ
skip i r = cond (ltb r i) r (suc r)

-- M without row i and column 0
abbrev pub minor : Matrix → ℕ → Matrix
minor M i = λ r c. M (skip i r) (suc c)

unfoldable pub det : ℕ → Matrix → ℤ
det zero M = pos 1
det (suc n) M = sum (suc n) (λ i. pow (negsuc 0) i *ℤ (M i 0 *ℤ det n (minor M i)))
