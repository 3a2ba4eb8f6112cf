-- Every short cut, listed (document 02, P12): the list, and what is true of it; that it is so are the theorems `short_lines` and
-- `short_laws` of `Laws/`. Operators, their product and count, and Cliffords are those of the page crates/count/specs/Count.antt;
-- `List.Memᴰ s ss` says that s stands in the list ss.
use Rattle.std.specs.Prelude.{true, cond, ◌↔◌, ◌≡◌, ℕ, zero, suc, ◌≤◌, ◌<◌, eqb, length, get_or}
use mathlib.Core.List.{List, [], ◌∷◌, ◌++◌, map, flat_map, Memᴰ}
use Rattle.matrix.specs.List.{before}
use Rattle.matrix.specs.Range.{tabulate}
use Rattle.matrix.specs.Matrix.{δ}
use Rattle.matrix.specs.Operator.{Operator, SameOperator, ProperOrthogonal}
use Rattle.clifford.specs.Columns.{column_bytes, Clifford}
use Rattle.reduction.specs.Reduction.{normal_form}
use Rattle.sheet_bytes.specs.Bytes.{sheet_bytes, sheet_numbers, sheet_columns, sheet_sign, sheet_operator}
use Rattle.sheet_bytes.specs.Sheet.{sheet_refusal}
use Rattle.count.specs.Count.{◌·◌, count_of}

-- ---- the list

-- a sheet "whose Clifford is the identity and whose last byte is 0"; bytes are a sheet if they earn none of its refusals
pub record Plain (s : List ℕ) : Type 0 where
  pub read : sheet_refusal s ≡ 0
  pub clifford : sheet_columns s ≡ column_bytes δ
  pub sign : sheet_sign s ≡ 0

-- the bytes of these generator numbers, the identity and 0
abbrev pub plain_bytes : List ℕ → List ℕ
plain_bytes gs = sheet_bytes gs (column_bytes δ)

-- all sequences of n numbers from 1 to 15, in the order of their numbers
unfoldable pub sequences : ℕ → List (List ℕ)
sequences zero = [] ∷ []
sequences (suc n) = flat_map (λ g. map (λ gs. g ∷ gs) (sequences n)) (tabulate (λ g. g) 1 15)

-- these bytes, if they are read
abbrev pub if_read : List ℕ → List (List ℕ)
if_read s = cond (eqb (sheet_refusal s) 0) (s ∷ []) []

-- the plain sheets of count n
unfoldable pub plain_sheets : ℕ → List (List ℕ)
plain_sheets n = flat_map (λ gs. if_read (plain_bytes gs)) (sequences n)

-- "all sheets of count 0, 1 and 2 whose Clifford is the identity and whose last byte is 0, ordered by count and then by the numbers"
unfoldable pub short_sheets : List (List ℕ)
short_sheets = plain_sheets 0 ++ plain_sheets 1 ++ plain_sheets 2

-- "the count and the generators". Sheets are "ordered by count and then by the numbers" if these are, read from left to right
abbrev pub order_key : List ℕ → List ℕ
order_key s = length (sheet_numbers s) ∷ sheet_numbers s

-- ---- what is true of it

-- "one listed product times one Clifford"
pub record Factored (A : Operator) (s : List ℕ) (C : Operator) : Type 0 where
  pub listed : Memᴰ s short_sheets
  pub clifford : Clifford C
  pub same : SameOperator A (sheet_operator s · C)

pub record ShortLines : Type 0 where
  -- "the list has 1, 15 and 150 lines and its length-two part opens with `2 1 2`"
  pub none : length (plain_sheets 0) ≡ 1
  pub one : length (plain_sheets 1) ≡ 15
  pub two : length (plain_sheets 2) ≡ 150
  pub opens : order_key (get_or (plain_sheets 2) 0 []) ≡ 2 ∷ 1 ∷ 2 ∷ []
  -- it rises strictly, so that no sheet stands in it twice
  pub rising : (i j : ℕ) → i < j → j < length short_sheets → before (order_key (get_or short_sheets i [])) (order_key (get_or short_sheets j [])) ≡ true

pub record ShortLaws : Type 0 where
  -- every plain sheet of count n stands among those of count n, and nothing else
  pub plain : (n : ℕ) (s : List ℕ) → Memᴰ s (plain_sheets n) ↔ (Plain s × (length (sheet_numbers s) ≡ n))
  -- every plain sheet of count at most 2 stands in the list, and nothing else
  pub short : (s : List ℕ) → Memᴰ s short_sheets ↔ (Plain s × (length (sheet_numbers s) ≤ 2))
  -- the operator of such a sheet is the product of its generators
  pub product : {s : List ℕ} → Plain s → SameOperator (sheet_operator s) (normal_form (sheet_numbers s) δ)
  -- "Every operator of count at most 2 is one listed product times one Clifford,"
  pub factored : {A : Operator} → ProperOrthogonal A → count_of A ≤ 2 → (s : List ℕ) × (C : Operator) × Factored A s C
  -- "in exactly one way": the sign is the Clifford's
  pub unique : {A C D : Operator} {s t : List ℕ} → Factored A s C → Factored A t D → (s ≡ t) × SameOperator C D
  -- and no other operator is: such a product is proper orthogonal, and its count is the sheet's
  pub counted : {A C : Operator} {s : List ℕ} → Factored A s C → ProperOrthogonal A × (count_of A ≡ length (sheet_numbers s))
