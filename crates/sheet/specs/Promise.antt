-- What the call from a sheet to an operator file promises.
use Rattle.std.specs.Prelude.{not, cond, List, ◌≡◌, ℕ, ◌+◌, eqb, ltb, ℤ, length, get_or, Result, Ok, Err}
use Rattle.matrix.specs.List.{same_list}
use Rattle.matrix.specs.Operator.{SameOperator, LeastExponent}
use Rattle.refusal.specs.Refusal.{RefusedOr}
use Rattle.matrix.specs.declared.Scaled.{Scaled}
use Rattle.matrix.specs.Array.{least_form}
use Rattle.file.specs.File.{file_exponent, file_operator, length_for, file_of, written}
use Rattle.sheet_bytes.specs.Bytes.{shortest, count_byte, sheet, sheet_operator}
use Rattle.sheet_bytes.specs.Sheet.{sheet_refusal, sheet_least}

-- what is kept of an operator that is to have this sheet: the operator at the least exponent, or 13
abbrev pub CutAgain : List ℕ → ℕ → List ℤ → Result Scaled ℕ → Type 0
CutAgain s k m r = RefusedOr (cond (not (same_list (sheet k m) s)) 13 0) (λ l. l ≡ least_form k m) r

-- what is kept of a sheet: its operator at the least exponent, or its refusal
abbrev pub SheetRead : List ℕ → Result Scaled ℕ → Type 0
SheetRead s r = RefusedOr (sheet_refusal s) (λ l. l ≡ sheet_least s) r

-- the operator file of a sheet: "Files written by us carry the least exponent"
abbrev pub sheet_file : List ℕ → List ℕ
sheet_file s = file_of (sheet_least s).exponent (sheet_least s).matrix

-- the answer, where the lent buffer has n bytes: the refusals of a sheet, and then 6, which "follows the file written" (document 02, P10)
unfoldable pub operator_answer : List ℕ → ℕ → Result ℕ ℕ
operator_answer s n =
    cond (eqb (sheet_refusal s) 0) (cond (ltb n (length_for (sheet_least s).exponent)) (Err 6) (Ok (sheet_least s).exponent)) (Err (sheet_refusal s))

-- the buffer afterwards
unfoldable pub operator_buffer : List ℕ → List ℕ → List ℕ
operator_buffer s old =
    cond (eqb (sheet_refusal s) 0) (cond (ltb (length old) (length_for (sheet_least s).exponent)) old (written old (sheet_file s))) old

pub record OperatorPromise (s old new : List ℕ) (a : Result ℕ ℕ) : Type 0 where
  pub answer : a ≡ operator_answer s (length old)
  pub buffer : new ≡ operator_buffer s old
  -- demand 2: the operator of the file written is the sheet's, its generators in order, times its Clifford, times the sign
  pub multiplies : sheet_refusal s ≡ 0 → SameOperator (file_operator (sheet_file s)) (sheet_operator s)
  -- demand 3: the count is the operator's least exponent, the number of the sheet's generators, and what its first byte says
  pub least : sheet_refusal s ≡ 0 → LeastExponent (sheet_operator s) (sheet_least s).exponent
  pub exact : sheet_refusal s ≡ 0 → length s ≡ (sheet_least s).exponent + shortest
  pub stated : sheet_refusal s ≡ 0 → get_or s 0 0 ≡ count_byte (sheet_least s).exponent
  -- it is the exponent of the file written
  pub count : file_exponent (sheet_file s) ≡ (sheet_least s).exponent
