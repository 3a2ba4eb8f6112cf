-- What users may reason with (document 02, P11): the count of an operator, and its laws "over all proper orthogonal operators, without the
-- limit". This page has the words and the laws; that they hold are the theorems `group_laws`, `count_laws` and `distance_laws` of `Laws/`.
use Rattle.std.specs.Prelude.{◌↔◌, List, ◌≡◌, ℕ, ◌+◌, ◌≤◌, length}
use Rattle.matrix.specs.Matrix.{listed}
use Rattle.matrix.specs.Operator.{Operator, times_operator, identity, inverse, negative, SameOperator, ProperOrthogonal, LeastExponent}
use Rattle.clifford.specs.Columns.{Clifford}
use Rattle.reduction.specs.Reduction.{taken}
use Rattle.letter.specs.declared.Gate.{Gate}
use Rattle.gate.specs.Product.{MultipliesTo, cs_gates}

-- ---- the words

-- `Operator`: a matrix of 36 whole numbers of any size with any exponent k; it stands for the matrix divided by root two to the power k.
-- `SameOperator A B`: the two stand for the same matrix, sign included, whatever their exponents are.
-- `ProperOrthogonal A`: "the product of two different rows is 0 and that of each row with itself is 2 to the power k", and "the determinant of M is
-- positive". Of a file of the right length with an exponent in range: it is accepted exactly if its operator is so (`entries_sound`,
-- `entries_complete` of crates/acceptance).
-- `inverse A`: the transpose of A, with its exponent.
-- `Clifford C`: C has exponent 0, one entry of +1 or −1 in each row and column, and a positive determinant.

-- the product: that of the two matrices, and the sum of the exponents
infixl 70 ◌·◌
abbrev pub ◌·◌ : Operator → Operator → Operator
A · B = times_operator A B

-- the matrix is that of a Clifford, also where it is written with a larger exponent, as twice the identity with k 2
abbrev pub StandsForClifford : Operator → Type 0
StandsForClifford A = (C : Operator) × Clifford C × SameOperator A C

-- "The count t is the number of generators taken", by document 01's rule of cutting
abbrev pub count_of : Operator → ℕ
count_of A = length (taken A.exponent (listed A.matrix))

-- how far B is from A: the count of A⁻¹ B, the operator by which A is multiplied to give B
abbrev pub distance : Operator → Operator → ℕ
distance A B = count_of (inverse A · B)

-- ---- the laws

-- what an inverse is, and that the laws can be applied to inverses, products and Cliffords again
pub record GroupLaws : Type 0 where
  pub inverse_right : {A : Operator} → ProperOrthogonal A → SameOperator (A · inverse A) identity
  pub inverse_left : {A : Operator} → ProperOrthogonal A → SameOperator (inverse A · A) identity
  pub inverse_closed : {A : Operator} → ProperOrthogonal A → ProperOrthogonal (inverse A)
  pub product_closed : {A B : Operator} → ProperOrthogonal A → ProperOrthogonal B → ProperOrthogonal (A · B)
  pub negative_closed : {A : Operator} → ProperOrthogonal A → ProperOrthogonal (negative A)
  pub clifford_inverse : {C : Operator} → Clifford C → Clifford (inverse C)
  pub clifford_product : {C D : Operator} → Clifford C → Clifford D → Clifford (C · D)
  pub clifford_proper : {C : Operator} → Clifford C → ProperOrthogonal C

pub record CountLaws : Type 0 where
  -- it is the least exponent, and no other number is: what a call answers is promised to be that, too
  pub least : {A : Operator} → ProperOrthogonal A → LeastExponent A (count_of A)
  pub only : {A : Operator} {l : ℕ} → ProperOrthogonal A → LeastExponent A l → count_of A ≡ l
  -- it depends on the matrix that the operator stands for, and not on the exponent with which that is written
  pub same : {A B : Operator} → ProperOrthogonal A → SameOperator A B → count_of A ≡ count_of B
  -- some gate list for the operator has so many letters C, and every list for it has so many or more by an even number
  pub attained : {A : Operator} → ProperOrthogonal A → (w : List Gate) × MultipliesTo w A × (cs_gates w ≡ count_of A)
  pub gates : {A : Operator} {w : List Gate} → MultipliesTo w A → (d : ℕ) × (cs_gates w ≡ count_of A + (d + d))
  -- "An inverse has the same count."
  pub inverse : {A : Operator} → ProperOrthogonal A → count_of (inverse A) ≡ count_of A
  -- "A product has at most the sum, and differs from it by an even number."
  pub product : {A B : Operator} → ProperOrthogonal A → ProperOrthogonal B → (d : ℕ) × (count_of A + count_of B ≡ count_of (A · B) + (d + d))
  -- "Cliffords on either side change nothing,"
  pub clifford_right : {A C : Operator} → ProperOrthogonal A → Clifford C → count_of (A · C) ≡ count_of A
  pub clifford_left : {A C : Operator} → ProperOrthogonal A → Clifford C → count_of (C · A) ≡ count_of A
  -- "and count 0 means a Clifford."
  pub zero : {A : Operator} → ProperOrthogonal A → (count_of A ≡ 0) ↔ StandsForClifford A
  -- −M has the count of M
  pub negative : {A : Operator} → ProperOrthogonal A → count_of (negative A) ≡ count_of A

pub record DistanceLaws : Type 0 where
  -- the count is the distance from the Cliffords, whichever is taken
  pub from_clifford : {A C : Operator} → ProperOrthogonal A → Clifford C → distance C A ≡ count_of A
  -- |t(A) − t(B)| is at most t(A⁻¹ B)
  pub difference : {A B : Operator} → ProperOrthogonal A → ProperOrthogonal B → (count_of A ≤ count_of B + distance A B) × (count_of B ≤ count_of A + distance A B)
  -- 0 exactly if the two differ by a Clifford on the right
  pub zero : {A B : Operator} → ProperOrthogonal A → ProperOrthogonal B → (distance A B ≡ 0) ↔ ((C : Operator) × Clifford C × SameOperator B (A · C))
  pub symmetric : {A B : Operator} → ProperOrthogonal A → ProperOrthogonal B → distance A B ≡ distance B A
  -- the way by B is no shorter, and differs by an even number
  pub triangle : {A B C : Operator} → ProperOrthogonal A → ProperOrthogonal B → ProperOrthogonal C → (d : ℕ) × (distance A B + distance B C ≡ distance A C + (d + d))
