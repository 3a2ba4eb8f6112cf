-- The six-by-six form as it is computed. Each of the six matrices of its basis has its entries at a place and at the complementary one, 5 less it.
use Rattle.std.specs.Prelude.{Bool, List, [], ◌∷◌, map, ◌≡◌, ℕ, ◌+◌, ◌*◌, ◌/◌, ◌%◌, ◌≤◌, ℤ, pos, length, get_or}
use Rattle.matrix.specs.Range.{every, tabulate}
use Rattle.matrix.specs.Integer.{equals}
use Rattle.matrix.specs.Matrix.{entry}
use Rattle.matrix.specs.Operator.{operator, SameUpToSign}
use Rattle.gaussian.specs.declared.Gaussian.{Gaussian}
use Rattle.gaussian.specs.Gaussian.{Matrix}
use Rattle.unitary.specs.Unitary.{Quotient}
use Rattle.unitary.specs.Form.{six_form, form_of}
use Rattle.matrix.specs.declared.Scaled.{Scaled}

-- the lower of the two places of basis matrix c
abbrev pub place_of : ℕ → ℕ
place_of c = get_or (0 ∷ 0 ∷ 2 ∷ 1 ∷ 1 ∷ 2 ∷ []) c 0

-- whether all of 36 numbers are 0
unfoldable pub is_zero : List ℤ → Bool
is_zero m = every 36 (λ n. equals (get_or m n (pos 0)) (pos 0))

-- twice the form's entries, row by row
unfoldable pub form_entries : Matrix → List Gaussian
form_entries N = tabulate (λ n. six_form N (n / 6) (n % 6)) 0 36

abbrev pub real_parts : List Gaussian → List ℤ
real_parts m = map (λ x. x.re) m

abbrev pub imaginary_parts : List Gaussian → List ℤ
imaginary_parts m = map (λ x. x.im) m

-- the form up to sign, of an exponent of at most 2 k + 2
pub record FormAs (U : Quotient) (r : Scaled) : Type 0 where
  pub small : r.exponent ≤ 2 * U.exponent + 2
  pub long : length r.matrix ≡ 36
  pub same : SameUpToSign (operator r.exponent (entry r.matrix)) (form_of U)
