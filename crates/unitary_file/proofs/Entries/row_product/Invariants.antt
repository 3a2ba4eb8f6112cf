-- The invariant: `sum` is the sum of the first c products.
use mathlib.Core.Path.{◌≡◌}
use Rattle.gaussian.specs.Gaussian as gaussian
use Rattle.gaussian.specs.Gaussian.{◌⊗◌, adjoint}
use Rattle.unitary.specs.Unitary.{matrix_of}
use Rattle.unitary_file.proofs.Entries.row_product.Given as goal

abbrev pub invariant-loop-c : goal.invariant-loop-c
invariant-loop-c l = l.sum ≡ gaussian.sum l.c (λ s. matrix_of l.self.entries l.i s ⊗ adjoint (matrix_of l.self.entries) s l.j)
