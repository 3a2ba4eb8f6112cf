-- An operator times the sign byte of its sheet has the sign byte 0.
use Rattle.std.specs.Prelude.{◌≡◌, refl, ℕ, zero, suc, ◌-◌, ◌<◌, ℤ, negsuc, ◌*ℤ◌, List, Bool, true, false, cond, get_or}
use Rattle.std.proofs.Common.{sym, ap, ◌∙◌, arith}
use Rattle.matrix.specs.Matrix.{scaled, entry, listed}
use Rattle.matrix.specs.Operator.{Operator, Orthogonal}
use Rattle.matrix.specs.Laws.Integer.{*ℤ-unit-l}
use Rattle.matrix.specs.Laws.Operator.{same_orthogonal}
use Rattle.matrix.specs.Laws.Array.{entry_listed, listed_cong, listed_same}
use Rattle.clifford.specs.Columns.{is_minus, times_sign, sign_of}
use Rattle.reduction.specs.Reduction.{taken}
use Rattle.reduction.specs.Laws.Negative.{negative_of}
use Rattle.sheet_bytes.specs.Bytes.{sign_byte, sheet, sheet_of, sheet_sign}
use Rattle.sheet_bytes.specs.Laws.Bytes.{sign_back}
use Rattle.sheet_bytes.specs.Laws.Sheet.{columns_left, left_permutation, columns_negative, sign_negated}

pub sheet_sign_lem : (k : ℕ) (m : List ℤ) → sheet_sign (sheet k m) ≡ sign_byte (columns_left k m)
unfolding sheet
sheet_sign_lem k m = sign_back (taken k m) (columns_left k m)

module _ (A : Operator) (o : Orthogonal A) where
  abbrev k : ℕ
  k = A.exponent

  abbrev m : List ℤ
  m = listed A.matrix

  go : (s : ℕ) → s < 2 → sign_byte (columns_left k m) ≡ s → sheet_sign (sheet_of (times_sign s A)) ≡ 0
  go zero l e = ap (λ x. sheet_sign (sheet k x)) (listed_cong (scaled (sign_of 0) A.matrix) A.matrix (λ i j hi hj. *ℤ-unit-l (A.matrix i j))) ∙ sheet_sign_lem k m ∙ e
  go (suc zero) l e =
      let p = same_orthogonal (listed_same A) o in
      ap (λ x. sheet_sign (sheet k x))
      (listed_cong (scaled (negsuc 0) A.matrix) (scaled (negsuc 0) (entry m)) (λ i j hi hj. ap (λ x. negsuc 0 *ℤ x) (sym (entry_listed A.matrix i j hi hj))))
      ∙ sheet_sign_lem k (negative_of m) ∙ ap sign_byte (columns_negative k m p) ∙ sign_negated (columns_left k m) (left_permutation k m p) ∙ ap (λ x. 1 - x) e
  go (suc (suc s)) l e = absurd (omega arith)

  sign_lt : (t : Bool) → cond t 1 0 < 2
  sign_lt true = omega arith
  sign_lt false = omega arith

  pub sign_byte_none : sheet_sign (sheet_of (times_sign (sheet_sign (sheet_of A)) A)) ≡ 0
  sign_byte_none =
      ap (λ s. sheet_sign (sheet_of (times_sign s A))) (sheet_sign_lem k m) ∙ go (sign_byte (columns_left k m)) (sign_lt (is_minus (get_or (columns_left k m) 0 0))) refl
