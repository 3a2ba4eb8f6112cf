-- A sheet that is written is read, and back; and what refusal 12 asks is to be a Clifford.
use Rattle.std.specs.Prelude.{◌≡◌, refl, Bool, false, cond, List, ℕ, ◌+◌, ◌-◌, ◌≤◌, ◌<◌, ltb, ℤ, length}
use Rattle.std.proofs.Math.Path.{sym, ap, subst}
use Rattle.std.proofs.Common.{ap₂, ◌∙◌, arith}
use Rattle.std.proofs.Math.Bool.{true}
use Rattle.std.proofs.Math.ListN.{get_or, drop}
use Rattle.std.proofs.Math.Seq.{get_or-take}
use borrow.Author.Tests.{eq-eqb, le-leb, le-ltb}
use Rattle.matrix.specs.List.{same_list}
use Rattle.matrix.specs.Matrix.{entry, listed}
use Rattle.matrix.specs.Operator.{operator, SameOperator, ProperOrthogonal}
use Rattle.matrix.specs.Laws.Test.{T_true, true_T, same_list_refl, and_left, and_right}
use Rattle.matrix.specs.Laws.Range.{every_complete}
use Rattle.matrix.specs.Laws.Operator.{same_operator_sym, same_operator_trans, same_orthogonal, same_proper_orthogonal}
use Rattle.matrix.specs.Laws.Array.{listed_same, length_listed}
use Rattle.clifford.specs.Columns.{columns_matrix, is_column_byte, is_minus, are_permutation, is_even, Clifford}
use Rattle.clifford.specs.Laws.Columns.{Permutation, permutation_sound, permutation_complete, columns_valid, columns_orthogonal, orthogonal_permutation, orthogonal_clifford, clifford_orthogonal}
use Rattle.clifford.specs.Laws.Signed.{signed_permutation}
use Rattle.sign.specs.Laws.Sign.{even_proper, proper_even, signed_even}
use Rattle.file.specs.File.{largest_exponent, file_exponent, file_matrix, file_operator}
use Rattle.file.specs.Laws.File.{file_in_form, exponent_back, matrix_back, length_file_matrix}
use Rattle.reduction.specs.Reduction.{count, taken}
use Rattle.reduction.specs.Laws.NormalForm.{cutting}
use Rattle.acceptance.specs.Acceptance.{file_refusal, is_proper}
use Rattle.operator.specs.Promise.{file_sheet}
use Rattle.acceptance.specs.Laws.Acceptance as file
use Rattle.acceptance.specs.Laws.Cutting.{even_is_proper}
use Rattle.operator.specs.Laws.Promise.{count_small, sheet_multiplies}
use Rattle.sheet_bytes.specs.Bytes.{shortest, longest, sign_byte, written_columns, sheet, sheet_of, sheet_columns, sheet_sign, sheet_operator}
use Rattle.sheet_bytes.specs.Sheet.{is_number, are_numbers, is_clifford, has_wrong_sign, sheet_refusal, sheet_least}
use Rattle.sheet_bytes.specs.Laws.Bytes.{numbers_back, columns_back, sign_back, positive_first}
use Rattle.sheet_bytes.specs.Laws.Sheet.{columns_left, left_permutation, length_sheet, sheet_back, same_sheet}
use Rattle.sheet_bytes.specs.Laws.Count.{sheet_counted}
use Rattle.sheet.specs.Promise.{sheet_file}
use Rattle.sheet.specs.Laws.Sheet.{Accepted, accepted, sheet_orthogonal, sheet_same_least, sheet_small, least_orthogonal_sheet, sheet_long, sheet_file_lem}

-- ---- six column bytes

pub clifford_sound : (bs : List ℕ) → is_clifford bs ≡ true → Clifford (operator 0 (columns_matrix bs))
clifford_sound bs e =
    let p = permutation_sound bs (and_left (are_permutation bs) (is_even bs) e) in
    orthogonal_clifford (columns_matrix bs) (columns_orthogonal bs p) (even_proper bs p (and_right (are_permutation bs) (is_even bs) e))

pub clifford_complete : (bs : List ℕ) → length bs ≡ 6 → ((c : ℕ) → c < 6 → is_column_byte (get_or bs c 0) ≡ true) → Clifford (operator 0 (columns_matrix bs)) → is_clifford bs ≡ true
clifford_complete bs l b c =
    let p = orthogonal_permutation bs l b (clifford_orthogonal (columns_matrix bs) c) in
    rw (permutation_complete bs p, proper_even bs p c.proper)

-- ---- a sheet that is written is read

-- of a proper orthogonal operator whose count is in range
module _ (k : ℕ) (m : List ℤ) (h : length m ≡ 36) (p : ProperOrthogonal (operator k (entry m))) (u : count k m ≤ largest_exponent) where
  columns_left_lem : Permutation (columns_left k m)
  columns_left_lem = left_permutation k m p.orthogonal

  columns_written : Permutation (written_columns (columns_left k m))
  columns_written = signed_permutation (sign_byte (columns_left k m)) (columns_left k m) columns_left_lem

  numbers_pass : are_numbers (sheet k m) ≡ true
  unfolding sheet
  numbers_pass =
      every_complete (length (sheet k m) - shortest) (λ n. is_number (get_or (drop 1 (sheet k m)) n 0))
      (λ i v.
      let c = cutting k m p.orthogonal in
      let t = c.exact in
      let l = length_sheet k m p.orthogonal in
      let x = drop 1 (sheet k m) in
      let g : (1 ≤ get_or x i 0) × (get_or x i 0 ≤ 15) =
      subst (λ y. (1 ≤ y) × (y ≤ 15)) (ap (λ y. get_or y i 0) (sym (numbers_back (taken k m) (columns_left k m) columns_left_lem.long)) ∙ get_or-take (length (sheet k m) - shortest) x i 0 v) (c.numbers i (omega arith)) in
      rw (le-leb 1 (get_or x i 0) g.0, le-leb (get_or x i 0) 15 g.1))

  clifford_passes : is_clifford (written_columns (columns_left k m)) ≡ true
  clifford_passes =
      rw (
        permutation_complete (written_columns (columns_left k m)) columns_written,
        signed_even (sign_byte (columns_left k m)) (columns_left k m) columns_left_lem,
        even_is_proper k m p.orthogonal,
        T_true (is_proper (entry m)) p.proper.positive.lt,
      )

  sign_passes : has_wrong_sign (written_columns (columns_left k m)) (sign_byte (columns_left k m)) ≡ false
  sign_passes = rw (small (is_minus (get_or (columns_left k m) 0 0)), positive_first (columns_left k m) columns_left_lem)
    where
      small : (t : Bool) → ltb 1 (cond t 1 0) ≡ false
      small true = refl
      small false = refl

  again : sheet_of (sheet_operator (sheet k m)) ≡ sheet k m
  again =
      let A = sheet_operator (sheet k m) in
      let s = same_operator_trans (same_operator_sym (listed_same A)) (sheet_back k m p.orthogonal) in
      same_sheet A.exponent k (listed A.matrix) m (length_listed A.matrix) h (same_orthogonal (same_operator_sym s) p.orthogonal) p.orthogonal s

  pub sheet_read : sheet_refusal (sheet k m) ≡ 0
  unfolding sheet_refusal sheet
  sheet_read =
      let l = length_sheet k m p.orthogonal in
      let columns : sheet_columns (sheet k m) ≡ written_columns (columns_left k m) = columns_back (taken k m) (columns_left k m) columns_left_lem.long in
      let sign : sheet_sign (sheet k m) ≡ sign_byte (columns_left k m) = sign_back (taken k m) (columns_left k m) in
      let same : same_list (sheet_of (sheet_operator (sheet k m))) (sheet k m) ≡ true = subst (λ x. same_list x (sheet k m) ≡ true) (sym again) (same_list_refl (sheet k m)) in
      rw (
        le-ltb (length (sheet k m)) shortest (omega arith),
        le-ltb longest (length (sheet k m)) (omega arith),
        eq-eqb (get_or (sheet k m) 0 0) (length (sheet k m) + 56) (sheet_counted k m p.orthogonal),
        numbers_pass,
        same,
        columns,
        sign,
        columns_valid (written_columns (columns_left k m)) (permutation_complete (written_columns (columns_left k m)) columns_written),
        clifford_passes,
        sign_passes,
      )

module _ (b : List ℕ) (z : file_refusal b ≡ 0) where
  pub file_sheet_read : sheet_refusal (file_sheet b) ≡ 0
  file_sheet_read = sheet_read (file_exponent b) (file_matrix b) (length_file_matrix b) (file.accepted b z).entries (count_small b z)

  -- "Reading what we now write still gives the operator"
  pub read_back : SameOperator (file_operator (sheet_file (file_sheet b))) (file_operator b)
  read_back =
      let s = file_sheet b in
      let a = accepted s file_sheet_read in
      same_operator_trans (subst (λ A. SameOperator A (sheet_operator s)) (sym (sheet_file_lem s a)) (sheet_same_least s a)) (sheet_multiplies b z)

-- ---- a sheet's file is cut into the sheet

module _ (s : List ℕ) (a : Accepted s) where
  matrix_read : file_matrix (sheet_file s) ≡ (sheet_least s).matrix
  matrix_read = matrix_back (sheet_least s).exponent (sheet_least s).matrix (sheet_small s a) (least_orthogonal_sheet s a) (sheet_long s a)

  exponent_read : file_exponent (sheet_file s) ≡ (sheet_least s).exponent
  exponent_read = exponent_back (sheet_least s).exponent (sheet_least s).matrix

  -- the sign of the determinant of the sheet's Clifford is that of its operator's
  pub sheet_proper : ProperOrthogonal (sheet_operator s)
  unfolding sheet
  sheet_proper =
      let A = sheet_operator s in
      let m = listed A.matrix in
      let o = sheet_orthogonal s a.form in
      let bs = columns_left A.exponent m in
      let p = left_permutation A.exponent m o in
      let even : is_even bs ≡ true = sym (signed_even (sign_byte bs) bs p) ∙ ap is_even (sym (columns_back (taken A.exponent m) bs p.long) ∙ ap sheet_columns a.again) ∙ a.form.even in
      same_proper_orthogonal (same_operator_sym (listed_same A)) (record { orthogonal = o; proper = record { positive = record { lt = true_T (sym (even_is_proper A.exponent m o) ∙ even) } } })

  pub sheet_file_accepted : file_refusal (sheet_file s) ≡ 0
  sheet_file_accepted =
      file.in_form (sheet_file s) (file_in_form (sheet_least s).exponent (sheet_least s).matrix (sheet_small s a))
      ∙ file.entries_complete (file_operator (sheet_file s))
      (subst ProperOrthogonal (sym (sheet_file_lem s a)) (same_proper_orthogonal (same_operator_sym (sheet_same_least s a)) sheet_proper))

  pub sheet_file_cut : file_sheet (sheet_file s) ≡ s
  sheet_file_cut =
      let A = sheet_operator s in
      ap₂ sheet exponent_read matrix_read
      ∙ same_sheet (sheet_least s).exponent A.exponent (sheet_least s).matrix (listed A.matrix) (sheet_long s a) (length_listed A.matrix) (least_orthogonal_sheet s a) (sheet_orthogonal s a.form)
      (same_operator_trans (sheet_same_least s a) (listed_same A))
      ∙ a.again
