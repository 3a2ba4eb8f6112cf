-- Gate lists read into operators (document 01, "The writer of a gate list").
use Rattle.std.specs.Prelude.{cond, ◌≡◌, List, [], ◌∷◌, ◌++◌, ℕ, ◌+◌, ◌*◌, ◌≤◌, ltb, length, Option, Some, None, Result, Ok, Err}
use Rattle.matrix.specs.Matrix.{listed}
use Rattle.matrix.specs.declared.Scaled.{Scaled}
use Rattle.matrix.specs.Array.{least_form}
use Rattle.file.specs.File.{largest_exponent, length_for, file_of, written}
use Rattle.letter.specs.declared.Gate.{Gate}
use Rattle.letter.specs.Gate.{gate_of}
use Rattle.gate.specs.Product.{product_of}

-- "7 says 16,384" (document 02, P10)
abbrev pub largest_list : ℕ
largest_list = 16384

-- the bytes that have room for every gate list that is written: 6 is "shorter than 256 × (t + 1)", and t is at most 60
abbrev pub gates_buffer : ℕ
gates_buffer = 256 * (largest_exponent + 1)

-- a list's product "over the least power of root two"
unfoldable pub least_of : List Gate → Scaled
least_of w = least_form (product_of w).exponent (listed (product_of w).matrix)

-- what reading gives: the gates, or the number of a refusal
pub data Reading : Type 0 where
  gates : List Gate → Reading
  refusal : ℕ → Reading

-- one letter behind the gates w: 8, "a byte that is no letter of the table", or 9, "a beginning of the list whose product has a least
-- exponent above" 60, or go on
abbrev pub read_letter : List Gate → (List Gate → Reading) → Option Gate → Reading
read_letter w rest None = refusal 8
read_letter w rest (Some g) = cond (ltb largest_exponent (least_of (w ++ g ∷ [])).exponent) (refusal 9) (rest (w ++ g ∷ []))

-- "8 or 9 at the leftmost place that earns one"
unfoldable pub read_from : List Gate → List ℕ → Reading
read_from w [] = gates w
read_from w (b ∷ bs) = read_letter w (λ v. read_from v bs) (gate_of b)

-- "Gate lists 7, then 8 or 9 at the leftmost place that earns one, then 6": the reading of a list with 7 before it
unfoldable pub reading : List ℕ → Reading
reading bs = cond (ltb largest_list (length bs)) (refusal 7) (read_from [] bs)

-- what is kept of a reading
abbrev pub ReadAs : Reading → Result Scaled ℕ → Type 0
ReadAs (gates w) r = (r ≡ Ok (least_of w)) × ((least_of w).exponent ≤ largest_exponent)
ReadAs (refusal n) r = r ≡ Err n

-- the operator file of a list's product
abbrev pub product_file : List Gate → List ℕ
product_file w = file_of (least_of w).exponent (least_of w).matrix

-- the answer, where the lent buffer has n bytes: "6 follows the file written"
abbrev pub operator_answer : ℕ → Reading → Result ℕ ℕ
operator_answer n (gates w) = cond (ltb n (length_for (least_of w).exponent)) (Err 6) (Ok (least_of w).exponent)
operator_answer n (refusal r) = Err r

-- the buffer afterwards
abbrev pub operator_buffer : List ℕ → Reading → List ℕ
operator_buffer old (gates w) = cond (ltb (length old) (length_for (least_of w).exponent)) old (written old (product_file w))
operator_buffer old (refusal r) = old
