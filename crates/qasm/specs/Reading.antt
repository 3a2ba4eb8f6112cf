-- Gate lists read from OpenQASM 2.0 text, and from letters to be written as such text (document 02, P8).
use Rattle.std.specs.Prelude.{Bool, cond, ◌||◌, ℕ, eqb, ltb, length, drop, Option, Some, None}
use mathlib.Core.List.{List, [], ◌∷◌, ◌++◌, flatten, map}
use Rattle.matrix.specs.List.{same_list}
use Rattle.matrix.specs.Matrix.{δ}
use Rattle.matrix.specs.Operator.{Operator, operator, times_operator}
use Rattle.letter.specs.declared.Gate.{Gate}
use Rattle.letter.specs.declared.Gate.TheVariants.{H1, H2, S1, S2, Cz, Cs}
use Rattle.letter.specs.Gate.{gate_of}
use Rattle.gate.specs.Product.{image}
use Rattle.gate.specs.Reading.{Reading, gates, refusal, largest_list}
use Rattle.qasm.specs.Text.{line_feed, first_lines, statement, reversed}

-- ---- lines

-- a byte more at the front of the first line
abbrev pub beginning : ℕ → List (List ℕ) → List (List ℕ)
beginning b [] = (b ∷ []) ∷ []
beginning b (l ∷ ls) = (b ∷ l) ∷ ls

-- the lines of a text, each with its line feed; "a last line with no line feed" is a line without one, so it is none of those that are read
unfoldable pub lines : List ℕ → List (List ℕ)
lines [] = []
lines (b ∷ bs) = cond (eqb b line_feed) ((b ∷ []) ∷ lines bs) (beginning b (lines bs))

-- ---- a text read

-- the two-qubit statements name their qubits in one order or "also the reverse"
abbrev pub is_statement : List ℕ → Gate → Bool
is_statement l g = same_list l (statement g) || same_list l (reversed g)

abbrev pub gates_of_table : List Gate
gates_of_table = H1 ∷ H2 ∷ S1 ∷ S2 ∷ Cz ∷ Cs ∷ []

abbrev pub look_up : List Gate → List ℕ → Option Gate
look_up [] l = None
look_up (g ∷ gs) l = cond (is_statement l g) (Some g) (look_up gs l)

-- what a line is: the gate of a statement, or "a line that is none of these"
unfoldable pub statement_of : List ℕ → Option Gate
statement_of l = look_up gates_of_table l

-- "its first statement is the last letter": a statement before those that are read. 23, "a line that is none of these"
abbrev pub earlier : Option Gate → Reading → Reading
earlier None r = refusal 23
earlier (Some g) (gates w) = gates (w ++ g ∷ [])
earlier (Some g) (refusal n) = refusal n

unfoldable pub statements : List (List ℕ) → Reading
statements [] = gates []
statements (l ∷ ls) = earlier (statement_of l) (statements ls)

-- 23, "one of the first three lines missing, repeated or out of its place"
abbrev pub after_lines : List (List ℕ) → List (List ℕ) → Reading
after_lines [] ls = statements ls
after_lines (h ∷ hs) [] = refusal 23
after_lines (h ∷ hs) (l ∷ ls) = cond (same_list l h) (after_lines hs ls) (refusal 23)

-- the list of a text of any length
unfoldable pub read_text : List ℕ → Reading
read_text bs = after_lines first_lines (lines bs)

-- 7, more than 16,384 letters
abbrev pub limited : Reading → Reading
limited (gates w) = cond (ltb largest_list (length w)) (refusal 7) (gates w)
limited (refusal n) = refusal n

-- "Turned away on reading: 23, … before 7"
unfoldable pub read_qasm : List ℕ → Reading
read_qasm bs = limited (read_text bs)

-- ---- what a text means

-- a line acts on what those before it have made, so that its gate is a factor on the left
abbrev pub acting : Option Gate → Operator → Operator
acting (Some g) A = times_operator (image g) A
acting None A = A

abbrev pub acted : Operator → List (List ℕ) → Operator
acted A [] = A
acted A (l ∷ ls) = acted (acting (statement_of l) A) ls

-- "Text runs in time order": the product of the gates of a text, of which the first acts first, past the first three lines
unfoldable pub meaning : List ℕ → Operator
meaning bs = acted (operator 0 δ) (drop (length first_lines) (lines bs))

-- ---- the same text but for the order of qubits

-- a line with its qubits as "q[0],q[1]"
unfoldable pub normal : List ℕ → List ℕ
normal l = cond (same_list l (reversed Cz)) (statement Cz) (cond (same_list l (reversed Cs)) (statement Cs) l)

unfoldable pub normalised : List ℕ → List ℕ
normalised bs = flatten (map normal (lines bs))

-- ---- letters read

-- a letter before those that are read. 8, "a byte that is no letter of the table"
abbrev pub before : Option Gate → Reading → Reading
before None r = refusal 8
before (Some g) (gates w) = gates (g ∷ w)
before (Some g) (refusal n) = refusal n

unfoldable pub letters_of : List ℕ → Reading
letters_of [] = gates []
letters_of (b ∷ bs) = before (gate_of b) (letters_of bs)

-- "Writing checks 7, then 8"; "neither checks 9"
unfoldable pub read_letters : List ℕ → Reading
read_letters bs = cond (ltb largest_list (length bs)) (refusal 7) (letters_of bs)

-- the statements of letters, from the last to the first; a byte that is no letter has none
abbrev pub line_of : Option Gate → List ℕ
line_of None = []
line_of (Some g) = statement g

unfoldable pub body_of : List ℕ → List ℕ
body_of [] = []
body_of (b ∷ bs) = body_of bs ++ line_of (gate_of b)
