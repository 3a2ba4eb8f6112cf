-- The finite facts: the basis is orthogonal and real for the pairing of complementary places; the plain gates are unitary, and their
-- six-by-six forms are document 01's images.
use Rattle.std.specs.Prelude.{refl, List, [], ◌∷◌, ℕ, ◌+◌, ◌^◌, ℤ, pos, negsuc, ◌*ℤ◌, get_or}
use Rattle.matrix.specs.Range.{every_from}
use Rattle.matrix.specs.Matrix.{δ}
use Rattle.residue.specs.Generator.{table, place, generator}
use Rattle.letter.specs.declared.Gate.{Gate}
use Rattle.letter.specs.declared.Gate.TheVariants.{H1, H2, S1, S2, Cz, Cs}
use Rattle.gate.specs.Product.{image}
use Rattle.gaussian.specs.Gaussian.{real, ◌⊕◌, ◌⊖◌, ◌⊗◌, conj, power, sum, Matrix, Same, identity, product, adjoint, transpose, scaled}
use Rattle.unitary.specs.Unitary.{plain}
use Rattle.gaussian.specs.Laws.Matrix.{same_sound}
use Rattle.unitary.specs.Form.{compound, basis, form_entry}

-- ---- the basis

-- the sign of place p with its complement 5 − p, as a matrix: that of e_p ∧ e_q
abbrev pub dual_signs : List ℤ
dual_signs = pos 1 ∷ negsuc 0 ∷ pos 1 ∷ pos 1 ∷ negsuc 0 ∷ pos 1 ∷ []

unfoldable pub dual : Matrix
dual = λ p q. real (get_or dual_signs p (pos 0) *ℤ δ (p + q) 5)

abbrev pub conjugate : Matrix → Matrix
conjugate A = λ i j. conj (A i j)

pub basis_rows_lem : Same 6 (product 6 basis (adjoint basis)) (scaled (real (pos 2)) identity)
unfolding every_from sum basis conj ◌⊗◌ ◌⊕◌ δ
basis_rows_lem = same_sound 6 6 (product 6 basis (adjoint basis)) (scaled (real (pos 2)) identity) refl

pub basis_columns : Same 6 (product 6 (adjoint basis) basis) (scaled (real (pos 2)) identity)
unfolding every_from sum basis conj ◌⊗◌ ◌⊕◌ δ
basis_columns = same_sound 6 6 (product 6 (adjoint basis) basis) (scaled (real (pos 2)) identity) refl

pub basis_dual : Same 6 (product 6 (transpose basis) dual) (adjoint basis)
unfolding every_from sum basis dual conj ◌⊗◌ ◌⊕◌ δ
basis_dual = same_sound 6 6 (product 6 (transpose basis) dual) (adjoint basis) refl

pub dual_basis : Same 6 (product 6 dual basis) (conjugate basis)
unfolding every_from sum basis dual conj ◌⊗◌ ◌⊕◌ δ
dual_basis = same_sound 6 6 (product 6 dual basis) (conjugate basis) refl

pub compound_identity : Same 6 (compound identity) identity
unfolding every_from compound ◌⊗◌ ◌⊖◌ δ
compound_identity = same_sound 6 6 (compound identity) identity refl

-- ---- the plain gates

pub plain_rows : (g : Gate) → Same 4 (product 4 (plain g).matrix (adjoint (plain g).matrix)) (scaled (real (pos (2 ^ (plain g).exponent))) identity)
unfolding plain every_from sum conj ◌⊗◌ ◌⊕◌ δ
plain_rows H1 = same_sound 4 4 _ _ refl
plain_rows H2 = same_sound 4 4 _ _ refl
plain_rows S1 = same_sound 4 4 _ _ refl
plain_rows S2 = same_sound 4 4 _ _ refl
plain_rows Cz = same_sound 4 4 _ _ refl
plain_rows Cs = same_sound 4 4 _ _ refl

pub plain_columns : (g : Gate) → Same 4 (product 4 (adjoint (plain g).matrix) (plain g).matrix) (scaled (real (pos (2 ^ (plain g).exponent))) identity)
unfolding plain every_from sum conj ◌⊗◌ ◌⊕◌ δ
plain_columns H1 = same_sound 4 4 _ _ refl
plain_columns H2 = same_sound 4 4 _ _ refl
plain_columns S1 = same_sound 4 4 _ _ refl
plain_columns S2 = same_sound 4 4 _ _ refl
plain_columns Cz = same_sound 4 4 _ _ refl
plain_columns Cs = same_sound 4 4 _ _ refl

-- the power of ω that makes a gate's form its image
abbrev pub gate_turn : Gate → ℕ
gate_turn H1 = 4
gate_turn H2 = 4
gate_turn S1 = 6
gate_turn S2 = 6
gate_turn Cz = 6
gate_turn Cs = 7

abbrev pub sixteenfold : Gate → Matrix
sixteenfold g = λ r c. real (pos 16 *ℤ (image g).matrix r c)

pub plain_form : (g : Gate) → Same 6 (form_entry (gate_turn g) (plain g)) (sixteenfold g)
unfolding plain image compound basis every_from sum Rattle.matrix.specs.Range.sum conj power ◌⊗◌ ◌⊕◌ ◌⊖◌ δ generator place table
plain_form H1 = same_sound 6 6 (form_entry 4 (plain H1)) (sixteenfold H1) refl
plain_form H2 = same_sound 6 6 (form_entry 4 (plain H2)) (sixteenfold H2) refl
plain_form S1 = same_sound 6 6 (form_entry 6 (plain S1)) (sixteenfold S1) refl
plain_form S2 = same_sound 6 6 (form_entry 6 (plain S2)) (sixteenfold S2) refl
plain_form Cz = same_sound 6 6 (form_entry 6 (plain Cz)) (sixteenfold Cz) refl
plain_form Cs = same_sound 6 6 (form_entry 7 (plain Cs)) (sixteenfold Cs) refl
