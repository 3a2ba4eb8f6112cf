-- Gate lists and what they multiply to (document 01, "Gate images").
use Rattle.std.specs.Prelude.{List, [], ◌∷◌, ℕ}
use Rattle.matrix.specs.Matrix.{δ}
use Rattle.matrix.specs.Operator.{Operator, operator, times_operator, SameOperator}
use Rattle.clifford.specs.Columns.{columns_matrix}
use Rattle.residue.specs.Generator.{generator}
use Rattle.letter.specs.declared.Gate.{Gate}
use Rattle.letter.specs.declared.Gate.TheVariants.{H1, H2, S1, S2, Cz, Cs}
use Rattle.letter.specs.Gate.{columns, is_cs, number}

-- a letter's image. "C | CS | generator 3"
unfoldable pub image : Gate → Operator
image H1 = operator 0 (columns_matrix (columns H1))
image H2 = operator 0 (columns_matrix (columns H2))
image S1 = operator 0 (columns_matrix (columns S1))
image S2 = operator 0 (columns_matrix (columns S2))
image Cz = operator 0 (columns_matrix (columns Cz))
image Cs = operator 1 (generator 3)

-- "The first letter of a list is the leftmost factor. The empty list is the identity."
unfoldable pub product_of : List Gate → Operator
product_of [] = operator 0 δ
product_of (g ∷ w) = times_operator (image g) (product_of w)

-- "A gate list multiplies to an operator if the product of its letters' images is the very matrix that the operator stands for, sign
-- included"
pub record MultipliesTo (w : List Gate) (A : Operator) : Type 0 where
  pub same : SameOperator (product_of w) A

-- "its CS gates are its letters C"
abbrev pub cs_gates : List Gate → ℕ
cs_gates w = number is_cs w
