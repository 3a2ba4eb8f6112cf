-- The sign of column 0: an operator's mirror image, and the mirror in the basis of places.
use Rattle.std.specs.Prelude.{◌≡◌, refl, ◌⊎◌, true, ℕ, zero, suc, ◌<◌, ◌≤◌, ℤ, pos, negsuc, ◌*ℤ◌}
use Rattle.std.proofs.Common.{◌∙◌, ap, inl, inr, arith}
use Rattle.matrix.specs.Range.{every_from}
use Rattle.matrix.specs.Matrix.{δ}
use Rattle.matrix.specs.Operator.{Operator, operator}
use Rattle.gaussian.specs.Gaussian.{real, ◌⊕◌, ◌⊗◌, conj, sum, Matrix, identity, product, adjoint, same_test}
use Rattle.unitary.specs.Form.{basis}
use Rattle.gaussian.specs.Laws.Matrix.{same_sound}

-- s in column 0
abbrev pub sign_at : ℤ → ℕ → ℤ
sign_at s zero = s
sign_at s (suc c) = pos 1

abbrev pub mirrored : ℤ → Operator → Operator
mirrored s A = operator A.exponent (λ r c. sign_at s c *ℤ A.matrix r c)

abbrev pub mirror : ℤ → ℕ → ℕ → ℤ
mirror s = λ r c. sign_at s r *ℤ δ r c

-- the mirror in the basis of places: twice the identity at places 1 to 4, and at place 0 twice 1 or 0
abbrev pub mirrorᴳ : ℤ → Matrix
mirrorᴳ s = λ r c. real (mirror s r c)

abbrev pub at_places : ℤ → Matrix
at_places s = product 6 basis (product 6 (mirrorᴳ s) (adjoint basis))

abbrev pub doubled : Matrix
doubled = λ p q. real (pos 2) ⊗ identity p q

abbrev middle_rows : Matrix → Matrix
middle_rows A = λ p q. A (suc p) q

computed_plus : same_test 4 6 (middle_rows (at_places (pos 1))) (middle_rows doubled) ≡ true
unfolding every_from sum basis conj ◌⊗◌ ◌⊕◌ δ
computed_plus = refl

computed_minus : same_test 4 6 (middle_rows (at_places (negsuc 0))) (middle_rows doubled) ≡ true
unfolding every_from sum basis conj ◌⊗◌ ◌⊕◌ δ
computed_minus = refl

-- a sign: 1 or −1
abbrev pub IsSign : ℤ → Type 0
IsSign s = (s ≡ pos 1) ⊎ (s ≡ negsuc 0)

pub places_rows : (s : ℤ) → IsSign s → (p q : ℕ) → 1 ≤ p → p ≤ 4 → q < 6 → at_places s p q ≡ doubled p q
places_rows s g zero q l u hq = absurd (omega arith)
places_rows s (inl e) (suc p) q l u hq = ap (λ s. at_places s (suc p) q) e ∙ same_sound 4 6 (middle_rows (at_places (pos 1))) (middle_rows doubled) computed_plus p q (omega arith) hq
places_rows s (inr e) (suc p) q l u hq = ap (λ s. at_places s (suc p) q) e ∙ same_sound 4 6 (middle_rows (at_places (negsuc 0))) (middle_rows doubled) computed_minus p q (omega arith) hq

pub first_plus : at_places (pos 1) 0 0 ≡ real (pos 2)
unfolding sum basis conj ◌⊗◌ ◌⊕◌ δ
first_plus = refl

pub first_minus : at_places (negsuc 0) 0 0 ≡ real (pos 0)
unfolding sum basis conj ◌⊗◌ ◌⊕◌ δ
first_minus = refl
