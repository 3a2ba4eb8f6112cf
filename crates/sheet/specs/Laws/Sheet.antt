-- What a sheet that earns no refusal says.
use Rattle.std.specs.Prelude.{◌≡◌, refl, Bool, true, false, not, cond, ◌&&◌, ◌||◌, List, ◌≢◌, ℕ, ◌+◌, ◌-◌, ◌≤◌, ◌<◌, leb, ltb, get_or, take, drop}
use Rattle.std.proofs.Math.Path.{sym}
use Rattle.std.proofs.Common.{ap, ◌∙◌, arith, length-drop, length-take-le, get_or-take, eqb-true, leb-true, ltb-false, le-ltb}
use Rattle.std.proofs.Math.ListN.{length}
use Rattle.matrix.specs.Range.{every}
use Rattle.matrix.specs.Matrix.{entry, listed}
use Rattle.matrix.specs.Operator.{operator, SameOperator, Orthogonal, LeastExponent}
use Rattle.matrix.specs.Array.{operator_of}
use Rattle.matrix.specs.Laws.Test.{and_left, and_right, same_list_lem}
use Rattle.matrix.specs.Laws.Range.{every_sound}
use Rattle.matrix.specs.Laws.Operator.{same_operator_sym, same_operator_trans, same_orthogonal, least_same}
use Rattle.matrix.specs.Laws.Array.{listed_cong, listed_same, length_listed, least_form_lem, least_orthogonal, least_exponent}
use Rattle.clifford.specs.Columns.{columns_matrix, signed, are_column_bytes, are_permutation, is_even}
use Rattle.clifford.specs.Laws.Columns.{Permutation, permutation_sound, permutation_complete, columns_orthogonal}
use Rattle.clifford.specs.Laws.Signed.{signed_permutation}
use Rattle.file.specs.File.{largest_exponent, file_operator}
use Rattle.file.specs.Laws.File.{operator_back}
use Rattle.reduction.specs.Reduction.{normal_form}
use Rattle.reduction.specs.Laws.NormalForm.{Numbers, normal_exponent, normal_orthogonal}
use Rattle.sheet_bytes.specs.Bytes.{shortest, longest, count_byte, sheet_of, sheet_numbers, sheet_columns, sheet_sign, sheet_operator}
use Rattle.sheet_bytes.specs.Sheet.{is_counted, is_number, are_numbers, is_clifford, has_wrong_sign, bytes_refusal, sheet_refusal, sheet_least}
use Rattle.sheet_bytes.specs.Laws.Bytes.{sign_taken_in, times_sign_lem}
use Rattle.sheet_bytes.specs.Laws.Sheet.{length_sheet}
use Rattle.sheet.specs.Promise.{sheet_file}

-- bytes that pass the test are generator numbers
pub numbers_sound : (s : List ℕ) (t : ℕ) → t ≤ length s → every t (λ n. is_number (get_or s n 0)) ≡ true → (i : ℕ) → i < t → (1 ≤ get_or s i 0) × (get_or s i 0 ≤ 15)
numbers_sound s t h e i u =
    let x = every_sound t (λ n. is_number (get_or s n 0)) e i u in
    let b = get_or s i 0 in
    (leb-true 1 b (and_left (leb 1 b) (leb b 15) x), leb-true b 15 (and_right (leb 1 b) (leb b 15) x))

pub front_numbers : (s : List ℕ) (t : ℕ) → t ≤ length s → every t (λ n. is_number (get_or s n 0)) ≡ true → Numbers (take t s)
front_numbers s t h e i u =
    let l : i < t = let x = length-take-le t s h in omega arith in
    rw (get_or-take t s i 0 l) (numbers_sound s t h e i l)

-- ---- bytes that pass the tests

pub record InForm (s : List ℕ) : Type 0 where
  pub long : shortest ≤ length s
  pub short : length s ≤ longest
  pub counted : is_counted s ≡ true
  pub numbers : are_numbers s ≡ true
  pub columns : are_column_bytes (sheet_columns s) ≡ true
  pub permutation : are_permutation (sheet_columns s) ≡ true
  pub even : is_even (sheet_columns s) ≡ true
  pub sign : has_wrong_sign (sheet_columns s) (sheet_sign s) ≡ false

pub in_form : (s : List ℕ) (n : ℕ) → bytes_refusal s n ≡ 0 → InForm s
in_form s n e =
    go (ltb (length s) shortest) refl (ltb longest (length s)) refl (is_counted s) refl (are_numbers s && are_column_bytes (sheet_columns s)) refl (is_clifford (sheet_columns s)) refl (has_wrong_sign (sheet_columns s) (sheet_sign s)) refl e
  where
    go : (a : Bool) → ltb (length s) shortest ≡ a → (b : Bool) → ltb longest (length s) ≡ b → (t : Bool) → is_counted s ≡ t → (c : Bool) → (are_numbers s && are_column_bytes (sheet_columns s)) ≡ c
        → (d : Bool) → is_clifford (sheet_columns s) ≡ d → (f : Bool) → has_wrong_sign (sheet_columns s) (sheet_sign s) ≡ f
        → ◌≡◌ {A = ℕ} (cond (a || b) 10 (cond (not t) 16 (cond (not c) 11 (cond (not d) 12 (cond f 15 n))))) 0 → InForm s
    go true p b q t z c r d x f y e = absurd (omega arith)
    go false p true q t z c r d x f y e = absurd (omega arith)
    go false p false q false z c r d x f y e = absurd (omega arith)
    go false p false q true z false r d x f y e = absurd (omega arith)
    go false p false q true z true r false x f y e = absurd (omega arith)
    go false p false q true z true r true x true y e = absurd (omega arith)
    go false p false q true z true r true x false y e = record {
      long = ltb-false _ _ p;
      short = ltb-false _ _ q;
      counted = z;
      numbers = and_left (are_numbers s) (are_column_bytes (sheet_columns s)) r;
      columns = and_right (are_numbers s) (are_column_bytes (sheet_columns s)) r;
      permutation = and_left (are_permutation (sheet_columns s)) (is_even (sheet_columns s)) x;
      even = and_right (are_permutation (sheet_columns s)) (is_even (sheet_columns s)) x;
      sign = y;
    }

-- what follows the tests decides for them
pub in_form_refusal : (s : List ℕ) (n : ℕ) → InForm s → bytes_refusal s n ≡ n
in_form_refusal s n f = rw (le-ltb _ _ f.long, le-ltb _ _ f.short, f.counted, f.numbers, f.columns, f.permutation, f.even, f.sign)

-- and for no others
pub out_of_form : (s : List ℕ) (n : ℕ) → bytes_refusal s 0 ≢ 0 → bytes_refusal s n ≡ bytes_refusal s 0
out_of_form s n h = go (ltb (length s) shortest || ltb longest (length s)) (is_counted s) (are_numbers s && are_column_bytes (sheet_columns s)) (is_clifford (sheet_columns s)) (has_wrong_sign (sheet_columns s) (sheet_sign s)) h
  where
    tests : Bool → Bool → Bool → Bool → Bool → ℕ → ℕ
    tests a t b c d n = cond a 10 (cond (not t) 16 (cond (not b) 11 (cond (not c) 12 (cond d 15 n))))

    go : (a t b c d : Bool) → tests a t b c d 0 ≢ 0 → tests a t b c d n ≡ tests a t b c d 0
    go true t b c d h = refl
    go false false b c d h = refl
    go false true false c d h = refl
    go false true true false d h = refl
    go false true true true true h = refl
    go false true true true false h = absurd (h refl)

module _ (s : List ℕ) (f : InForm s) where
  -- room for the numbers behind the first byte
  pub numbers_room : length s - shortest ≤ length (drop 1 s)
  numbers_room = let l = length-drop 1 s in omega arith

  -- it has as many generators as bytes between the first and the columns
  pub sheet_exponent : (sheet_operator s).exponent ≡ length s - shortest
  sheet_exponent = normal_exponent (sheet_numbers s) (columns_matrix (sheet_columns s)) ∙ length-take-le (length s - shortest) (drop 1 s) numbers_room

  columns_permutation : Permutation (sheet_columns s)
  columns_permutation = permutation_sound (sheet_columns s) f.permutation

  -- the code multiplies the generators with the columns times the sign
  pub signed_columns : are_permutation (signed (sheet_sign s) (sheet_columns s)) ≡ true
  signed_columns = permutation_complete (signed (sheet_sign s) (sheet_columns s)) (signed_permutation (sheet_sign s) (sheet_columns s) columns_permutation)

  pub sheet_matrix : listed (normal_form (sheet_numbers s) (columns_matrix (signed (sheet_sign s) (sheet_columns s)))).matrix ≡ listed (sheet_operator s).matrix
  sheet_matrix =
      listed_cong (normal_form (sheet_numbers s) (columns_matrix (signed (sheet_sign s) (sheet_columns s)))).matrix (sheet_operator s).matrix
      (λ i j hi hj. sym (sign_taken_in (sheet_sign s) (sheet_numbers s) (sheet_columns s) columns_permutation i j hi hj))

  pub sheet_orthogonal : Orthogonal (operator (sheet_operator s).exponent (entry (listed (sheet_operator s).matrix)))
  sheet_orthogonal =
      let bs = signed (sheet_sign s) (sheet_columns s) in
      same_orthogonal (same_operator_trans (same_operator_sym (times_sign_lem (sheet_sign s) (sheet_numbers s) (sheet_columns s) columns_permutation)) (listed_same (sheet_operator s)))
      (normal_orthogonal (sheet_numbers s) (columns_matrix bs) (front_numbers (drop 1 s) (length s - shortest) numbers_room f.numbers)
      (columns_orthogonal bs (signed_permutation (sheet_sign s) (sheet_columns s) columns_permutation)))

-- ---- a sheet that earns no refusal

pub record Accepted (s : List ℕ) : Type 0 where
  pub form : InForm s
  pub again : sheet_of (sheet_operator s) ≡ s

-- the test for 13 was passed
pub same_again : (t : Bool) → ◌≡◌ {A = ℕ} (cond (not t) 13 0) 0 → t ≡ true
same_again true e = refl
same_again false e = absurd (omega arith)

pub accepted : (s : List ℕ) → sheet_refusal s ≡ 0 → Accepted s
unfolding sheet_refusal
accepted s e =
    let f = in_form s _ e in
    record { form = f; again = same_list_lem _ _ (same_again _ (sym (in_form_refusal s _ f) ∙ e)) }

module _ (s : List ℕ) (a : Accepted s) where
  pub least_orthogonal_sheet : Orthogonal (operator_of (sheet_least s))
  unfolding sheet_least
  least_orthogonal_sheet = least_orthogonal (sheet_operator s).exponent (listed (sheet_operator s).matrix) (sheet_orthogonal s a.form)

  pub sheet_same_least : SameOperator (operator_of (sheet_least s)) (sheet_operator s)
  unfolding sheet_least
  sheet_same_least =
      same_operator_sym (same_operator_trans (listed_same (sheet_operator s)) (least_form_lem (sheet_operator s).exponent (listed (sheet_operator s).matrix)).same)

  pub sheet_least_lem : LeastExponent (sheet_operator s) (sheet_least s).exponent
  unfolding sheet_least
  sheet_least_lem = least_same (same_operator_sym (listed_same (sheet_operator s))) (least_exponent (sheet_operator s).exponent (listed (sheet_operator s).matrix) (sheet_orthogonal s a.form))

  -- a sheet has as many generators as its count says
  pub sheet_exact : length s ≡ (sheet_least s).exponent + shortest
  unfolding sheet_least
  sheet_exact = sym (ap length a.again) ∙ length_sheet (sheet_operator s).exponent (listed (sheet_operator s).matrix) (sheet_orthogonal s a.form)

  -- and its first byte says it
  pub sheet_stated : get_or s 0 0 ≡ count_byte (sheet_least s).exponent
  sheet_stated = let e = sheet_exact in let c = eqb-true (get_or s 0 0) (length s + 56) a.form.counted in omega arith

  pub sheet_small : (sheet_least s).exponent ≤ largest_exponent
  sheet_small = let e = sheet_exact in let h = a.form.short in omega arith

  pub sheet_long : length (sheet_least s).matrix ≡ 36
  unfolding sheet_least
  sheet_long = (least_form_lem (sheet_operator s).exponent (listed (sheet_operator s).matrix)).long (length_listed (sheet_operator s).matrix)

  pub sheet_file_lem : file_operator (sheet_file s) ≡ operator_of (sheet_least s)
  sheet_file_lem = operator_back (sheet_least s).exponent (sheet_least s).matrix sheet_small least_orthogonal_sheet sheet_long
