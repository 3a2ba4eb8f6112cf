-- Plain sheets: their bytes and operators, and that numbers have one exactly if cutting their product takes them.
use Rattle.std.specs.Prelude.{◌≡◌, refl, ◌↔◌, List, [], ◌∷◌, ◌++◌, ℕ, ◌+◌, ◌≤◌, length, drop}
use Rattle.std.proofs.Common.{sym, ap, ap₂, ◌∙◌, subst, arith}
use Rattle.matrix.specs.Range.{first_from, tabulate}
use Rattle.matrix.specs.Matrix.{δ, entry, listed}
use Rattle.matrix.specs.Operator.{SameOperator}
use Rattle.matrix.specs.Laws.Operator.{same_operator_sym, same_operator_trans, same_orthogonal, same_proper_orthogonal}
use Rattle.matrix.specs.Laws.Inverse.{identity_orthogonal}
use Rattle.matrix.specs.Laws.Array.{length_listed, listed_same}
use Rattle.file.specs.File.{largest_exponent}
use Rattle.clifford.specs.Columns.{columns_matrix, column_byte, column_bytes}
use Rattle.clifford.specs.Laws.Columns.{Permutation, matrix_columns, matrix_permutation, columns_unique}
use Rattle.reduction.specs.Reduction.{remaining}
use Rattle.reduction.specs.Laws.NormalForm.{Numbers, normal_form_same, cutting}
use Rattle.sheet_bytes.specs.Bytes.{shortest, count_byte, sign_byte, written_columns, sheet_bytes, sheet, sheet_of, sheet_numbers, sheet_columns, sheet_sign, sheet_operator}
use Rattle.sheet_bytes.specs.Sheet.{sheet_refusal}
use Rattle.sheet_bytes.specs.Laws.Bytes.{length_bytes, numbers_back, columns_back, sign_back, bytes_operator}
use Rattle.sheet_bytes.specs.Laws.Sheet.{columns_left, left_permutation}
use Rattle.sheet.specs.Laws.Sheet.{front_numbers, Accepted, accepted, numbers_room, sheet_orthogonal}
use Rattle.round_trip.specs.Laws.Back.{sheet_read}
use Rattle.short_sheet.specs.Short.{Plain, plain_bytes}
use Rattle.short_sheet.specs.Laws.Taken.{taken_of, taken_same, plain_product, plain_orthogonal, left_same, plain_proper}

-- ---- bytes

identity_columns_lem : Permutation (column_bytes δ)
identity_columns_lem = matrix_permutation δ identity_orthogonal

-- the identity is written as it is, with the sign 0
written_identity : written_columns (column_bytes δ) ≡ column_bytes δ
unfolding tabulate column_byte first_from δ
written_identity = refl

identity_sign : sign_byte (column_bytes δ) ≡ 0
unfolding tabulate column_byte first_from δ
identity_sign = refl

module _ (gs : List ℕ) where
  pub plain_length : length (plain_bytes gs) ≡ length gs + shortest
  plain_length = length_bytes gs (column_bytes δ) identity_columns_lem.long

  pub plain_numbers : sheet_numbers (plain_bytes gs) ≡ gs
  plain_numbers = numbers_back gs (column_bytes δ) identity_columns_lem.long

  pub read_plain : sheet_refusal (plain_bytes gs) ≡ 0 → Plain (plain_bytes gs)
  read_plain z = record {
    read = z;
    clifford = columns_back gs (column_bytes δ) identity_columns_lem.long ∙ written_identity;
    sign = sign_back gs (column_bytes δ) ∙ identity_sign;
  }

  -- it stands for the product of its generators
  pub plain_operator : SameOperator (sheet_operator (plain_bytes gs)) (plain_product gs)
  plain_operator =
      same_operator_trans (bytes_operator gs (column_bytes δ) identity_columns_lem) (normal_form_same gs (columns_matrix (column_bytes δ)) δ (matrix_columns δ identity_orthogonal))

-- ---- sheets that are read

module _ (s : List ℕ) (z : sheet_refusal s ≡ 0) where
  a : Accepted s
  a = accepted s z

  pub read_numbers : Numbers (sheet_numbers s)
  read_numbers = front_numbers (drop 1 s) _ (numbers_room s a.form) a.form.numbers

  abbrev columns : List ℕ
  columns = columns_left (sheet_operator s).exponent (listed (sheet_operator s).matrix)

  columns_permutation : Permutation columns
  columns_permutation = left_permutation (sheet_operator s).exponent (listed (sheet_operator s).matrix) (sheet_orthogonal s a.form)

  -- its bytes, written again
  again : sheet_bytes (taken_of (sheet_operator s)) columns ≡ s
  unfolding sheet
  again = a.again

  -- cutting takes its numbers
  pub read_taken : taken_of (sheet_operator s) ≡ sheet_numbers s
  read_taken = sym (numbers_back (taken_of (sheet_operator s)) columns columns_permutation.long) ∙ ap sheet_numbers again

-- a plain sheet is that of its numbers
pub plain_bytes_lem : {s : List ℕ} → Plain s → s ≡ plain_bytes (sheet_numbers s)
unfolding sheet_bytes
plain_bytes_lem {s} p =
    let z = p.read in
    let gs = taken_of (sheet_operator s) in
    let bs = columns s z in
    let c : written_columns bs ≡ column_bytes δ = sym (columns_back gs bs (columns_permutation s z).long) ∙ ap sheet_columns (again s z) ∙ p.clifford in
    let t : sign_byte bs ≡ 0 = sym (sign_back gs bs) ∙ ap sheet_sign (again s z) ∙ p.sign in
    sym (again s z)
    ∙ ap₂ (λ x y. count_byte (length gs) ∷ (gs ++ (x ++ (y ∷ [])))) (c ∙ sym written_identity) (t ∙ sym identity_sign)
    ∙ ap plain_bytes (read_taken s z)

-- and its operator their product
pub sheet_product : {s : List ℕ} → Plain s → SameOperator (sheet_operator s) (plain_product (sheet_numbers s))
sheet_product {s} p = subst (λ x. SameOperator (sheet_operator x) (plain_product (sheet_numbers s))) (sym (plain_bytes_lem p)) (plain_operator (sheet_numbers s))

-- ---- which numbers have one

-- the sheet of their product
plain_sheet : (gs : List ℕ) → Numbers gs → taken_of (plain_product gs) ≡ gs → sheet_of (plain_product gs) ≡ plain_bytes gs
unfolding sheet
plain_sheet gs n e =
    let P = plain_product gs in
    let k = P.exponent in
    let m = listed P.matrix in
    let o = same_orthogonal (listed_same P) (plain_orthogonal gs n) in
    let R = entry (remaining k m) in
    ap₂ sheet_bytes e
    (columns_unique (columns_left k m) (column_bytes δ) (left_permutation k m o) identity_columns_lem
    (λ i j hi hj. matrix_columns R (cutting k m o).orthogonal i j hi hj ∙ left_same gs n e i j hi hj ∙ sym (matrix_columns δ identity_orthogonal i j hi hj)))

pub plain_read : (gs : List ℕ) → Numbers gs → length gs ≤ largest_exponent → (sheet_refusal (plain_bytes gs) ≡ 0) ↔ (taken_of (plain_product gs) ≡ gs)
plain_read gs n l = (
  λ z. taken_same (plain_orthogonal gs n) (same_operator_sym (plain_operator gs)) ∙ read_taken (plain_bytes gs) z ∙ plain_numbers gs,
  λ e.
      let P = plain_product gs in
      let p = same_proper_orthogonal (listed_same P) (plain_proper gs n e) in
      let c = (cutting P.exponent (listed P.matrix) p.orthogonal).exact in
      let t = ap length e in
      subst (λ s. sheet_refusal s ≡ 0) (plain_sheet gs n e) (sheet_read P.exponent (listed P.matrix) (length_listed P.matrix) p (omega arith)),
)
