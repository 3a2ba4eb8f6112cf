-- The OpenQASM 2.0 text of a gate list (document 02, P8). A text is the list of its bytes, in ASCII.
use mathlib.Core.List.{List, [], ◌∷◌, ◌++◌, flatten}
use Rattle.std.specs.Prelude.{ℕ, ◌+◌, ◌*◌}
use Rattle.letter.specs.declared.Gate.{Gate}
use Rattle.letter.specs.declared.Gate.TheVariants.{H1, H2, S1, S2, Cz, Cs}
use Rattle.gate.specs.Reading.{largest_list}

-- "lines in a line feed"
abbrev pub line_feed : ℕ
line_feed = 10

-- ---- the first three lines

-- "the lines `OPENQASM 2.0;`, …"
unfoldable pub version_line : List ℕ
version_line = 79 ∷ 80 ∷ 69 ∷ 78 ∷ 81 ∷ 65 ∷ 83 ∷ 77 ∷ 32 ∷ 50 ∷ 46 ∷ 48 ∷ 59 ∷ line_feed ∷ []

-- "… `include "qelib1.inc";`, …"
unfoldable pub include_line : List ℕ
include_line = 105 ∷ 110 ∷ 99 ∷ 108 ∷ 117 ∷ 100 ∷ 101 ∷ 32 ∷ 34 ∷ 113 ∷ 101 ∷ 108 ∷ 105 ∷ 98 ∷ 49 ∷ 46 ∷ 105 ∷ 110 ∷ 99 ∷ 34 ∷ 59 ∷ line_feed ∷ []

-- "… `qreg q[2];`"
unfoldable pub register_line : List ℕ
register_line = 113 ∷ 114 ∷ 101 ∷ 103 ∷ 32 ∷ 113 ∷ 91 ∷ 50 ∷ 93 ∷ 59 ∷ line_feed ∷ []

abbrev pub first_lines : List (List ℕ)
first_lines = version_line ∷ include_line ∷ register_line ∷ []

-- their bytes
abbrev pub first_length : ℕ
first_length = 47

-- ---- statements

-- "of `h`, `s`, `cz` and `cu1(pi/2)`"
abbrev pub name : Gate → List ℕ
name H1 = 104 ∷ []
name H2 = 104 ∷ []
name S1 = 115 ∷ []
name S2 = 115 ∷ []
name Cz = 99 ∷ 122 ∷ []
name Cs = 99 ∷ 117 ∷ 49 ∷ 40 ∷ 112 ∷ 105 ∷ 47 ∷ 50 ∷ 41 ∷ []

-- "The first qubit is q[0]."
abbrev first_qubit : List ℕ
first_qubit = 113 ∷ 91 ∷ 48 ∷ 93 ∷ []

abbrev second_qubit : List ℕ
second_qubit = 113 ∷ 91 ∷ 49 ∷ 93 ∷ []

abbrev pair : List ℕ → List ℕ → List ℕ
pair p q = p ++ 44 ∷ q

-- "on q[0] and q[1]. The two-qubit statements name q[0],q[1]"
abbrev pub qubits : Gate → List ℕ
qubits H1 = first_qubit
qubits H2 = second_qubit
qubits S1 = first_qubit
qubits S2 = second_qubit
qubits Cz = pair first_qubit second_qubit
qubits Cs = pair first_qubit second_qubit

-- "on reading also the reverse"; one qubit has no other order
abbrev pub qubits_reversed : Gate → List ℕ
qubits_reversed H1 = first_qubit
qubits_reversed H2 = second_qubit
qubits_reversed S1 = first_qubit
qubits_reversed S2 = second_qubit
qubits_reversed Cz = pair second_qubit first_qubit
qubits_reversed Cs = pair second_qubit first_qubit

-- "Statements end in a semicolon and lines in a line feed; past the first three lines the only space is the one after the gate."
abbrev line : List ℕ → List ℕ → List ℕ
line gate on = gate ++ 32 ∷ on ++ 59 ∷ line_feed ∷ []

-- the line of a gate
abbrev pub statement : Gate → List ℕ
statement g = line (name g) (qubits g)

abbrev pub reversed : Gate → List ℕ
reversed g = line (name g) (qubits_reversed g)

-- the most bytes of one
abbrev pub longest_statement : ℕ
longest_statement = 21

-- ---- the text of a list

-- "Text runs in time order, so its first statement is the last letter."
unfoldable pub body : List Gate → List ℕ
body [] = []
body (g ∷ w) = body w ++ statement g

-- "Write gate lists as … a subset: the lines …, then one statement a line"
unfoldable pub text_of : List Gate → List ℕ
text_of w = flatten first_lines ++ body w

-- the most bytes of a text that is written: more than 16,384 letters are refused
abbrev pub longest_text : ℕ
longest_text = first_length + longest_statement * largest_list
