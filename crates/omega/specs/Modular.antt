-- How the power of ω is found without large numbers (document 02, P5): modulo 17, where i is 4, 1 over root two is 14, and ω is 2.
use Rattle.std.specs.Prelude.{List, [], ◌∷◌, ℕ, ◌*◌, ◌-◌, ◌%◌, ◌^◌, ◌<◌, eqb, ℤ, pos, negsuc, ◌+ℤ◌, ◌*ℤ◌, get_or}
use Rattle.matrix.specs.Range.{first_from, tabulate, total}
use Rattle.letter.specs.declared.Gate.{Gate}
use Rattle.gaussian.specs.declared.Gaussian.{Gaussian}
use Rattle.gaussian.specs.Gaussian.{conj}
use Rattle.unitary.specs.Unitary.{Quotient, plain}

-- the remainder of z, from 0 to 16
unfoldable pub remainder : ℤ → ℕ
remainder (pos n) = n % 17
remainder (negsuc n) = 16 - n % 17

-- x over root two to the power k
abbrev pub image_of : ℕ → Gaussian → ℤ
image_of k x = pos (14 ^ k) *ℤ (x.re +ℤ pos 4 *ℤ x.im)

abbrev pub residue_of : ℕ → Gaussian → ℕ
residue_of k x = remainder (image_of k x)

-- each is below 17
abbrev pub Residues : List ℕ → Type 0
Residues v = (i : ℕ) → get_or v i 0 < 17

-- column 0
unfoldable pub first_column : Quotient → List ℕ
first_column U = tabulate (λ i. residue_of U.exponent (U.matrix i 0)) 0 4

-- the inverse of a plain gate, its conjugate transpose, times a column
unfoldable pub undone : Gate → List ℕ → List ℕ
undone g v = tabulate (λ i. total (λ j. residue_of (plain g).exponent (conj ((plain g).matrix j i)) * get_or v j 0) 0 4 % 17) 0 4

-- the inverse of a list's product times a column, from the first letter on
unfoldable pub undone_all : List Gate → List ℕ → List ℕ
undone_all [] v = v
undone_all (g ∷ w) v = undone_all w (undone g v)

-- the power of 2 that x is modulo 17, from 0 to 7; 8 where it is none
unfoldable pub exponent_of : ℕ → ℕ
exponent_of x = first_from (λ a. eqb x (2 ^ a % 17)) 0 8

-- the power of ω by which a list gives the unitary
abbrev pub power_of : Quotient → List Gate → ℕ
power_of U w = exponent_of (get_or (undone_all w (first_column U)) 0 0)
