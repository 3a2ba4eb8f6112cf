-- Gaussian integers, their sums, and square matrices of them. A matrix is a function of a row and a column, both counted from 0.
use Rattle.std.specs.Prelude.{◌≡◌, Bool, ◌&&◌, ℕ, zero, suc, ◌<◌, ◌≤◌, ℤ, pos, nat_abs, neg_ℤ, ◌+ℤ◌, ◌-ℤ◌, ◌*ℤ◌}
use Rattle.matrix.specs.Range.{every}
use Rattle.matrix.specs.Matrix.{δ}
use Rattle.gaussian.specs.declared.Gaussian.{Gaussian}

abbrev pub gaussian : ℤ → ℤ → Gaussian
gaussian a b = record { re = a; im = b }

abbrev pub real : ℤ → Gaussian
real a = gaussian a (pos 0)

infixl 60 ◌⊕◌ ◌⊖◌
infixl 70 ◌⊗◌
unfoldable pub ◌⊕◌ : Gaussian → Gaussian → Gaussian
x ⊕ y = gaussian (x.re +ℤ y.re) (x.im +ℤ y.im)

unfoldable pub ◌⊖◌ : Gaussian → Gaussian → Gaussian
x ⊖ y = gaussian (x.re -ℤ y.re) (x.im -ℤ y.im)

unfoldable pub ◌⊗◌ : Gaussian → Gaussian → Gaussian
x ⊗ y = gaussian (x.re *ℤ y.re -ℤ x.im *ℤ y.im) (x.re *ℤ y.im +ℤ x.im *ℤ y.re)

unfoldable pub conj : Gaussian → Gaussian
conj x = gaussian x.re (neg_ℤ x.im)

-- the square of its size
unfoldable pub norm_of : Gaussian → ℤ
norm_of x = x.re *ℤ x.re +ℤ x.im *ℤ x.im

-- neither part is larger than b, in size: what rules out overflow
pub record Within (b : ℕ) (x : Gaussian) : Type 0 where
  pub re : nat_abs x.re ≤ b
  pub im : nat_abs x.im ≤ b

-- x to the power n
unfoldable pub power : Gaussian → ℕ → Gaussian
power x zero = real (pos 1)
power x (suc n) = x ⊗ power x n

-- i, and 1 + i, which is ω times root two
abbrev pub unit : Gaussian
unit = gaussian (pos 0) (pos 1)

abbrev pub one+i : Gaussian
one+i = gaussian (pos 1) (pos 1)

-- f 0 + .. + f (n − 1)
unfoldable pub sum : ℕ → (ℕ → Gaussian) → Gaussian
sum zero f = real (pos 0)
sum (suc n) f = sum n f ⊕ f n

abbrev pub Matrix : Type 0
Matrix = ℕ → ℕ → Gaussian

-- the same entries, where they count
abbrev pub Same : ℕ → Matrix → Matrix → Type 0
Same n A B = (i j : ℕ) → i < n → j < n → A i j ≡ B i j

abbrev pub identity : Matrix
identity = λ i j. real (δ i j)

abbrev pub product : ℕ → Matrix → Matrix → Matrix
product n A B = λ i k. sum n (λ j. A i j ⊗ B j k)

-- the conjugate transpose
abbrev pub adjoint : Matrix → Matrix
adjoint A = λ i j. conj (A j i)

abbrev pub transpose : Matrix → Matrix
transpose A = λ i j. A j i

-- a number times a matrix
abbrev pub scaled : Gaussian → Matrix → Matrix
scaled c A = λ i j. c ⊗ A i j

-- ---- equality as a test

abbrev pub equals : Gaussian → Gaussian → Bool
equals x y = Rattle.matrix.specs.Integer.equals x.re y.re && Rattle.matrix.specs.Integer.equals x.im y.im

-- the first m rows and n columns
abbrev pub same_test : ℕ → ℕ → Matrix → Matrix → Bool
same_test m n A B = every m (λ i. every n (λ j. equals (A i j) (B i j)))
