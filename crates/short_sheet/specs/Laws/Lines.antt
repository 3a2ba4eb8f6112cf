-- "The list has 1, 15 and 150 lines and its length-two part opens with `2 1 2`", and it rises strictly: computed, with a product by turning rows.
use Rattle.std.specs.Prelude.{◌≡◌, refl, Bool, true, cond, ◌&&◌, ℕ, zero, suc, ◌≤◌, ◌<◌, T, eqb, length, get_or}
use Rattle.std.proofs.Common.{sym, ap, ap₂, ◌∙◌, arith, eqb→eq, eq-eqb, eqb-true}
use Rattle.std.proofs.Math.Logic.{∥∥₁_elim}
use Rattle.std.proofs.Math.Bool.{Bool-set}
use mathlib.Core.List.{List, [], ◌∷◌, ◌++◌, flat_map}
use mathlib.Mathlib.Data.List.Basic.{flat_map_congr}
use Rattle.matrix.specs.List.{same_list, before}
use Rattle.matrix.specs.Integer.{parity}
use Rattle.matrix.specs.Range.{every_from, first_from, tabulate, bits}
use Rattle.matrix.specs.Matrix.{Matrix, Same, δ, replaced, listed}
use Rattle.matrix.specs.Array.{row_mask, before_odd, least_form}
use Rattle.matrix.specs.Laws.Test.{left, right, T_true, same_test_lem, same_list_lem, same_list_refl}
use Rattle.matrix.specs.Laws.Matrix.{product_cong, same_refl}
use Rattle.matrix.specs.Laws.Array.{listed_cong}
use Rattle.file.specs.File.{largest_exponent}
use Rattle.clifford.specs.Columns.{column_byte}
use Rattle.residue.specs.Generator.{table, place, generator, turned, fits, first_fit}
use Rattle.residue.specs.Laws.Generator.{generator_product}
use Rattle.reduction.specs.Reduction.{generators, taken, normal_form}
use Rattle.reduction.specs.Laws.NormalForm.{Numbers, normal_exponent}
use Rattle.sheet_bytes.specs.Bytes.{sheet_bytes}
use Rattle.sheet_bytes.specs.Sheet.{sheet_refusal}
use Rattle.short_sheet.specs.Short.{plain_bytes, sequences, plain_sheets, short_sheets, order_key, ShortLines}
use Rattle.short_sheet.specs.Laws.Taken.{taken_of, plain_product}
use Rattle.short_sheet.specs.Laws.Plain.{plain_read}
use Rattle.short_sheet.specs.Laws.List.{in_sequences}

-- ---- a test that is computed

abbrev turned_by : List ℕ → Matrix
turned_by [] = δ
turned_by (g ∷ gs) = turned g (turned_by gs)

turned_product : (gs : List ℕ) → Numbers gs → Same 6 (plain_product gs).matrix (turned_by gs)
unfolding normal_form
turned_product [] n i j hi hj = refl
turned_product (g ∷ gs) n i j hi hj =
    let (l, u) = n 0 (omega arith) in
    product_cong (same_refl 6 (generator g)) (turned_product gs (λ i h. n (suc i) (omega arith))) i j hi hj ∙ generator_product g l u (turned_by gs) i j hi hj

-- whether cutting the product of these generators takes them
is_taken : List ℕ → Bool
is_taken gs = same_list (taken (length gs) (listed (turned_by gs))) gs

read_is_taken : (gs : List ℕ) → Numbers gs → length gs ≤ largest_exponent → eqb (sheet_refusal (plain_bytes gs)) 0 ≡ is_taken gs
unfolding is_taken
read_is_taken gs n l =
    let e : taken_of (plain_product gs) ≡ taken (length gs) (listed (turned_by gs)) =
    ap₂ taken (normal_exponent gs δ) (listed_cong (plain_product gs).matrix (turned_by gs) (turned_product gs n)) in
    let (f, b) = plain_read gs n l in
    same_test_lem (eqb (sheet_refusal (plain_bytes gs)) 0) (is_taken gs)
    (λ t. rw (sym e, f (eqb-true (sheet_refusal (plain_bytes gs)) 0 t)) (same_list_refl gs))
    (λ t. eq-eqb (sheet_refusal (plain_bytes gs)) 0 (b (e ∙ same_list_lem (taken (length gs) (listed (turned_by gs))) gs t)))

-- the sheets of count n by this test
computed : ℕ → List (List ℕ)
computed n = flat_map (λ gs. cond (is_taken gs) (plain_bytes gs ∷ []) []) (sequences n)

plain_computed : (n : ℕ) → n ≤ largest_exponent → plain_sheets n ≡ computed n
unfolding plain_sheets computed
plain_computed n l =
    flat_map_congr {l = sequences n}
    (λ gs m. ap (λ b. cond b (plain_bytes gs ∷ []) [])
    (∥∥₁_elim m (Bool-set (eqb (sheet_refusal (plain_bytes gs)) 0) (is_taken gs)) (λ d. let (r, e) = in_sequences n gs d in read_is_taken gs r (omega arith))))

-- ---- strictly rising

is_before : List ℕ → List (List ℕ) → Bool
is_before s [] = true
is_before s (t ∷ ss) = before (order_key s) (order_key t) && is_before s ss

is_rising : List (List ℕ) → Bool
is_rising [] = true
is_rising (s ∷ ss) = is_before s ss && is_rising ss

before_sound : (s : List ℕ) (ss : List (List ℕ)) → T (is_before s ss) → (j : ℕ) → j < length ss → T (before (order_key s) (order_key (get_or ss j [])))
unfolding is_before
before_sound s [] t j u = absurd (omega arith)
before_sound s (x ∷ ss) t zero u = left (before (order_key s) (order_key x)) (is_before s ss) t
before_sound s (x ∷ ss) t (suc j) u = before_sound s ss (right (before (order_key s) (order_key x)) (is_before s ss) t) j (omega arith)

rising_sound : (ss : List (List ℕ)) → T (is_rising ss) → (i j : ℕ) → i < j → j < length ss → T (before (order_key (get_or ss i [])) (order_key (get_or ss j [])))
unfolding is_rising
rising_sound [] t i j h u = absurd (omega arith)
rising_sound (s ∷ ss) t i zero h u = absurd (omega arith)
rising_sound (s ∷ ss) t zero (suc j) h u = before_sound s ss (left (is_before s ss) (is_rising ss) t) j (omega arith)
rising_sound (s ∷ ss) t (suc i) (suc j) h u = rising_sound ss (right (is_before s ss) (is_rising ss) t) i j (omega arith) (omega arith)

-- ---- the list

abbrev has_lines : List (List ℕ) → List (List ℕ) → List (List ℕ) → Bool
has_lines none one two =
    eqb (length none) 1 && (eqb (length one) 15 && (eqb (length two) 150 && (same_list (order_key (get_or two 0 [])) (2 ∷ 1 ∷ 2 ∷ []) && is_rising (none ++ one ++ two))))

it_has : T (has_lines (computed 0) (computed 1) (computed 2))
unfolding is_taken computed is_before is_rising flat_map sequences sheet_bytes parity every_from first_from tabulate bits δ replaced listed row_mask before_odd least_form column_byte table place fits first_fit generators
it_has = tt

pub short_lines : ShortLines
unfolding short_sheets
short_lines =
    let a = plain_computed 0 (omega arith) in
    let b = plain_computed 1 (omega arith) in
    let c = plain_computed 2 (omega arith) in
    let t : T (has_lines (plain_sheets 0) (plain_sheets 1) (plain_sheets 2)) = rw (a, b, c) it_has in
    let t1 = right (eqb (length (plain_sheets 0)) 1) _ t in
    let t2 = right (eqb (length (plain_sheets 1)) 15) _ t1 in
    let t3 = right (eqb (length (plain_sheets 2)) 150) _ t2 in
    let o = same_list (order_key (get_or (plain_sheets 2) 0 [])) (2 ∷ 1 ∷ 2 ∷ []) in
    record {
      none = eqb→eq _ _ (left (eqb (length (plain_sheets 0)) 1) _ t);
      one = eqb→eq _ _ (left (eqb (length (plain_sheets 1)) 15) _ t1);
      two = eqb→eq _ _ (left (eqb (length (plain_sheets 2)) 150) _ t2);
      opens = same_list_lem _ _ (T_true _ (left o _ t3));
      rising = λ i j h u. T_true _ (rising_sound short_sheets (right o _ t3) i j h u);
    }
