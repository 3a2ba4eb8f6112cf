-- An answer as one word of 64 bits, for callers in other languages.
use Rattle.std.specs.Prelude.{cond, ◌≡◌, ℕ, ◌+◌, ◌*◌, ◌^◌, ◌/◌, ◌%◌, ◌<◌, ◌≤◌, eqb, Result, Ok, Err}
use Rattle.operator.specs.declared.Cuts.{Cuts}
use Rattle.operator.specs.declared.Listed.{Listed}
use Rattle.unitary_gates.specs.declared.Synthesis.{Synthesis}
use Rattle.bundle.specs.declared.Part.{Part}

-- ---- the layout

-- bits 0 to 7: "the refusal's number, 0 where there is none"
-- bits 8 to 31: "the value: count, figure, number of bytes written, layers, stock, or a part's first byte"
-- bits 32 to 47: "a length: the letters written, or the length of a part"
-- bits 48 to 55: "L, the cuts that grouped as 2 and 4"
-- bits 56 to 63: "the sign, 0 or 1, or the power of ω, 0 to 7"
abbrev pub packed : (refusal value length loose phase : ℕ) → ℕ
packed refusal value length loose phase = refusal + 2 ^ 8 * value + 2 ^ 32 * length + 2 ^ 48 * loose + 2 ^ 56 * phase

-- what an answer says: a refusal's number, or the other parts, 0 for each that it has not
pub data Parts : Type 0 where
  refused : (refusal : ℕ) → Parts
  given : (value length loose phase : ℕ) → Parts

-- "with a refusal all other bits are 0"
abbrev pub encoded : Parts → ℕ
encoded (refused refusal) = packed refusal 0 0 0 0
encoded (given value length loose phase) = packed 0 value length loose phase

-- the parts have room; refusals are numbered from 1
abbrev pub Fits : Parts → Type 0
Fits (refused refusal) = (1 ≤ refusal) × (refusal < 2 ^ 8)
Fits (given value length loose phase) = (value < 2 ^ 24) × (length < 2 ^ 16) × (loose < 2 ^ 8) × (phase < 2 ^ 8)

-- so many bits of a word, from a given one on
abbrev pub bits : (from width word : ℕ) → ℕ
bits from width word = word / 2 ^ from % 2 ^ width

-- a word taken apart: a refusal if its low eight bits are not all 0
abbrev pub decoded : ℕ → Parts
decoded w = cond (eqb (bits 0 8 w) 0) (given (bits 8 24 w) (bits 32 16 w) (bits 48 8 w) (bits 56 8 w)) (refused (bits 0 8 w))

-- ---- what the calls answer

-- the count, the figure, the number of layers or the number of bytes written is the value
abbrev pub answer_parts : Result ℕ ℕ → Parts
answer_parts (Ok n) = given n 0 0 0
answer_parts (Err n) = refused n

-- the count is the value, beside it L
abbrev pub cuts_parts : Result Cuts ℕ → Parts
cuts_parts (Ok a) = given a.count 0 a.loose 0
cuts_parts (Err n) = refused n

-- the count is the value, the number of letters written the length, beside them L and the sign
abbrev pub listed_parts : Result Listed ℕ → Parts
listed_parts (Ok a) = given a.count a.letters a.loose a.sign
listed_parts (Err n) = refused n

-- the number of letters written
abbrev pub letters_of : Result Listed ℕ → ℕ
letters_of (Ok a) = a.letters
letters_of (Err n) = 0

-- and so for a unitary, with the power of ω in place of the sign
abbrev pub synthesis_parts : Result Synthesis ℕ → Parts
synthesis_parts (Ok a) = given a.count a.letters a.loose a.power
synthesis_parts (Err n) = refused n

abbrev pub synthesis_letters : Result Synthesis ℕ → ℕ
synthesis_letters (Ok a) = a.letters
synthesis_letters (Err n) = 0

-- the number of bytes written
abbrev pub bytes_of : Result ℕ ℕ → ℕ
bytes_of (Ok n) = n
bytes_of (Err n) = 0

-- the place of a part's first byte is the value, its length the length
abbrev pub part_parts : Result Part ℕ → Parts
part_parts (Ok a) = given a.start a.length 0 0
part_parts (Err n) = refused n

-- r is the word of the parts p, and they have room, so that a caller finds them (`parts_back`)
pub record WordOf (p : Parts) (r : ℕ) : Type 0 where
  pub fits : Fits p
  pub is : r ≡ encoded p

-- r is the word of an answer of which P holds
pub record Encodes {A : Type 0} (parts : A → Parts) (P : A → Type 0) (r : ℕ) : Type 0 where
  pub answer : A
  pub holds : P answer
  pub word : WordOf (parts answer) r
