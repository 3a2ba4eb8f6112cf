-- What the calls from an operator file to a sheet and to a gate list promise.
use Rattle.std.specs.Prelude.{cond, List, map, ◌≢◌, ◌⊎◌, ◌≡◌, ℕ, ◌+◌, ◌*◌, ◌≤◌, ◌<◌, eqb, ltb, length, get_or, Result, Ok, Err}
use Rattle.refusal.specs.Refusal.{refusal_of}
use Rattle.matrix.specs.Operator.{SameOperator, LeastExponent}
use Rattle.file.specs.File.{file_exponent, file_matrix, file_operator, InForm, written}
use Rattle.letter.specs.declared.Gate.{Gate}
use Rattle.letter.specs.Gate.{letter}
use Rattle.gate.specs.Product.{MultipliesTo}
use Rattle.gate_list.specs.List.{list_of}
use Rattle.gate_list.specs.Promise.{ListFor}
use Rattle.operator.specs.declared.Cuts.{Cuts}
use Rattle.operator.specs.declared.Listed.{Listed}
use Rattle.sheet_bytes.specs.Bytes.{shortest, count_byte, sheet, sheet_operator}
use Rattle.acceptance.specs.Acceptance.{file_refusal}
use Rattle.acceptance.specs.Cutting.{file_count, file_loose}

-- ---- refused for its entries

-- "a file is refused for its entries if the answer is 3, 4 or 5"
abbrev pub ForEntries : ℕ → Type 0
ForEntries n = (n ≡ 3) ⊎ (n ≡ 4) ⊎ (n ≡ 5)

-- no gate list multiplies to the file's operator
abbrev pub NoList : List ℕ → Type 0
NoList b = (w : List Gate) → MultipliesTo w (file_operator b) → ⊥

-- demand 3, where n is the refusal answered: "An operator file of the right length with an exponent in range is refused for its entries exactly
-- when no gate list over these gates, of whatever length, multiplies to its operator"
pub record ExactlyRefused (b : List ℕ) (n : ℕ) : Type 0 where
  pub refused : InForm b → ForEntries n → NoList b
  pub no_list : InForm b → NoList b → ForEntries n

-- ---- sheets

-- the sheet of a file's operator
abbrev pub file_sheet : List ℕ → List ℕ
file_sheet b = sheet (file_exponent b) (file_matrix b)

-- the answer, where the lent buffer has n bytes: "operators 1, 2, 3, 4, 5, 6", and 6 is "shorter than … the sheet", which has t + 8 bytes
-- (document 02, P4); "beside the count, L" (P3)
unfoldable pub sheet_answer : List ℕ → ℕ → Result Cuts ℕ
sheet_answer b n =
    cond (eqb (file_refusal b) 0)
    (cond (ltb n (length (file_sheet b))) (Err 6) (Ok (record { count = file_count b; loose = file_loose b })))
    (Err (file_refusal b))

-- the buffer afterwards
unfoldable pub sheet_buffer : List ℕ → List ℕ → List ℕ
sheet_buffer b old = cond (eqb (file_refusal b) 0) (cond (ltb (length old) (length (file_sheet b))) old (written old (file_sheet b))) old

pub record SheetPromise (b old new : List ℕ) (a : Result Cuts ℕ) : Type 0 where
  pub answer : a ≡ sheet_answer b (length old)
  pub buffer : new ≡ sheet_buffer b old
  -- demand 2: the sheet's generators in order, times its Clifford, times the sign are the operator handed in
  pub multiplies : file_refusal b ≡ 0 → SameOperator (sheet_operator (file_sheet b)) (file_operator b)
  -- demand 3: the count is the least exponent, the number of the sheet's generators, and what its first byte says
  pub least : file_refusal b ≡ 0 → LeastExponent (file_operator b) (file_count b)
  pub exact : file_refusal b ≡ 0 → length (file_sheet b) ≡ file_count b + shortest
  pub stated : file_refusal b ≡ 0 → get_or (file_sheet b) 0 0 ≡ count_byte (file_count b)
  pub exactly : ExactlyRefused b (refusal_of a)

-- ---- gate lists

-- a list w for the file's operator was written; s is its sign
pub record Handed (b old new : List ℕ) (a : Result Listed ℕ) (w : List Gate) (s : ℕ) : Type 0 where
  -- the letters at the front of the buffer, and the bytes past them as they were
  pub buffer : new ≡ written old (map letter w)
  -- "the count comes with the number of letters written"; "beside the count, L" (document 02, P3); "its result says which" (P9)
  pub answer : a ≡ Ok (record { count = file_count b; letters = length w; loose = file_loose b; sign = s })
  pub list : ListFor (file_operator b) (file_count b) w s
  -- the letters that the papers leave free follow from the normal form
  pub form_list : w ≡ list_of (file_exponent b) (file_matrix b)

pub record GatesPromise (b old new : List ℕ) (a : Result Listed ℕ) : Type 0 where
  pub refused : file_refusal b ≢ 0 → (a ≡ Err (file_refusal b)) × (new ≡ old)
  -- 6: "shorter than 256 × (t + 1) for a gate list"
  pub no_room : file_refusal b ≡ 0 → length old < 256 * (file_count b + 1) → (a ≡ Err 6) × (new ≡ old)
  pub handed : file_refusal b ≡ 0 → 256 * (file_count b + 1) ≤ length old → (w : List Gate) × (s : ℕ) × Handed b old new a w s
  pub exactly : ExactlyRefused b (refusal_of a)
