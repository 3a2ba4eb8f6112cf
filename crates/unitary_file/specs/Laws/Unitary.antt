-- What the numbers of a unitary's bytes are, how large they are, and what passing the tests means.
use Rattle.std.specs.Prelude.{List, ℕ, ◌+◌, ◌*◌, ◌^◌, ◌≤◌, ℤ}
use Rattle.std.proofs.Common.{arith}
use Rattle.gaussian.specs.Gaussian.{Within, ◌⊗◌, adjoint, sum}
use Rattle.gaussian.specs.Laws.Size.{within_more, within-⊗, within_conj, within_sum}
use Rattle.unitary.specs.Unitary.{matrix_of}
use Rattle.unitary_file.specs.Unitary.{Narrow}

pub narrow_within : (n : List ℤ) → Narrow n → (i j : ℕ) → Within (2 ^ 15) (matrix_of n i j)
narrow_within n h i j = record { re = h (8 * i + 2 * j); im = h (8 * i + 2 * j + 1) }

-- a term of the product of two rows, and the sum of the first ones
module _ (n : List ℤ) (h : Narrow n) (i j : ℕ) where
  term_within : (s : ℕ) → Within (2 ^ 31) (matrix_of n i s ⊗ adjoint (matrix_of n) s j)
  term_within s = within-⊗ (narrow_within n h i s) (within_conj (narrow_within n h j s))

  pub terms_within : (c : ℕ) → c ≤ 4 → Within (2 ^ 33) (sum c (λ s. matrix_of n i s ⊗ adjoint (matrix_of n) s j))
  terms_within c l = within_more (omega arith) (within_sum (2 ^ 31) c (λ s. matrix_of n i s ⊗ adjoint (matrix_of n) s j) (λ s u. term_within s))
