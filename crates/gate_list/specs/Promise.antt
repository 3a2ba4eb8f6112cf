-- What is promised of a gate list that is handed out for an operator.
use Rattle.std.specs.Prelude.{List, ◌≡◌, ℕ, ◌+◌, ◌*◌, ◌≤◌, length}
use Rattle.matrix.specs.Operator.{Operator, SameUpToSign, LeastExponent}
use Rattle.clifford.specs.Columns.{times_sign}
use Rattle.letter.specs.declared.Gate.{Gate}
use Rattle.gate.specs.Product.{product_of, MultipliesTo, cs_gates}
use Rattle.crossing.specs.Crossing.{EachStretch}

-- w is a list for the operator A, of count t, and s its sign; its Clifford letters are free
pub record ListFor (A : Operator) (t : ℕ) (w : List Gate) (s : ℕ) : Type 0 where
  -- demand 2, as document 02, P9, has it: "the list handed out multiplies to the one it says"
  pub multiplies : MultipliesTo w (times_sign s A)
  -- "0 for M and 1 for −M, a number that follows from the letters"
  pub small : s ≤ 1
  pub follows : (r : ℕ) → r ≤ 1 → MultipliesTo w (times_sign r A) → r ≡ s
  -- demand 3: the letters C, the count and the least exponent are one number, and no list for A or −A has fewer letters C: "the CS count remains
  -- least for both"
  pub exact : cs_gates w ≡ t
  pub least : LeastExponent A t
  pub fewest : (v : List Gate) → SameUpToSign (product_of v) A → cs_gates w ≤ cs_gates v
  -- "at most 256 × (t + 1) letters"
  pub short : length w ≤ 256 * (t + 1)
  -- "In each stretch without C", the fewest letters Z
  pub stretches : EachStretch w
