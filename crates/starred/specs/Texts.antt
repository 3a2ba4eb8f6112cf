-- The cases of document 02, P8: texts written and read, and lists and texts that are refused. Each line is given by its bytes.
use Rattle.std.specs.Prelude.{Bool, true, false, ◌&&◌, List, [], ◌∷◌, ◌++◌, map, ℕ, eqb}
use Rattle.matrix.specs.List.{same_list}
use Rattle.letter.specs.declared.Gate.{Gate}
use Rattle.letter.specs.Gate.{letter}
use Rattle.gate.specs.Reading.{Reading, gates, refusal}
use Rattle.qasm.specs.Text.{text_of}
use Rattle.qasm.specs.Reading.{read_qasm, read_letters}

pub data Trial : Type 0 where
  -- these letters are written as this text
  writes : List ℕ → List ℕ → Trial
  -- these bytes, to be written as text, earn this refusal
  letters_refused : List ℕ → ℕ → Trial
  -- this text is read as these letters
  reads : List ℕ → List ℕ → Trial
  -- these bytes, read as text, earn this refusal
  text_refused : List ℕ → ℕ → Trial

-- whether a list is read, and these are its bytes
abbrev is_read : (List Gate → List ℕ) → Reading → List ℕ → Bool
is_read bytes_of (gates w) bs = same_list (bytes_of w) bs
is_read bytes_of (refusal n) bs = false

abbrev is_refused : Reading → ℕ → Bool
is_refused (gates w) n = false
is_refused (refusal m) n = eqb m n

abbrev pub passes : Trial → Bool
passes (writes bs t) = is_read text_of (read_letters bs) t
passes (letters_refused bs n) = is_refused (read_letters bs) n
passes (reads t bs) = is_read (map letter) (read_qasm t) bs
passes (text_refused t n) = is_refused (read_qasm t) n

abbrev pub all_pass : List Trial → Bool
all_pass [] = true
all_pass (t ∷ ts) = passes t && all_pass ts

-- OPENQASM 2.0;
abbrev version : List ℕ
version = 79 ∷ 80 ∷ 69 ∷ 78 ∷ 81 ∷ 65 ∷ 83 ∷ 77 ∷ 32 ∷ 50 ∷ 46 ∷ 48 ∷ 59 ∷ 10 ∷ []

-- include "qelib1.inc";
abbrev inclusion : List ℕ
inclusion = 105 ∷ 110 ∷ 99 ∷ 108 ∷ 117 ∷ 100 ∷ 101 ∷ 32 ∷ 34 ∷ 113 ∷ 101 ∷ 108 ∷ 105 ∷ 98 ∷ 49 ∷ 46 ∷ 105 ∷ 110 ∷ 99 ∷ 34 ∷ 59 ∷ 10 ∷ []

-- qreg q[2];
abbrev register : List ℕ
register = 113 ∷ 114 ∷ 101 ∷ 103 ∷ 32 ∷ 113 ∷ 91 ∷ 50 ∷ 93 ∷ 59 ∷ 10 ∷ []

-- h q[0];
abbrev h_first : List ℕ
h_first = 104 ∷ 32 ∷ 113 ∷ 91 ∷ 48 ∷ 93 ∷ 59 ∷ 10 ∷ []

-- h q[1];
abbrev h_second : List ℕ
h_second = 104 ∷ 32 ∷ 113 ∷ 91 ∷ 49 ∷ 93 ∷ 59 ∷ 10 ∷ []

-- cu1(pi/2) q[0],q[1];
abbrev cs : List ℕ
cs = 99 ∷ 117 ∷ 49 ∷ 40 ∷ 112 ∷ 105 ∷ 47 ∷ 50 ∷ 41 ∷ 32 ∷ 113 ∷ 91 ∷ 48 ∷ 93 ∷ 44 ∷ 113 ∷ 91 ∷ 49 ∷ 93 ∷ 59 ∷ 10 ∷ []

abbrev first : List ℕ
first = version ++ inclusion ++ register

unfoldable pub trials : List Trial
trials =
    writes [] first ∷
    -- Ch, whose last letter comes first
    writes (67 ∷ 104 ∷ []) (first ++ h_second ++ cs) ∷
    -- HhSsZC
    writes (72 ∷ 104 ∷ 83 ∷ 115 ∷ 90 ∷ 67 ∷ []) (first ++ cs ++ (99 ∷ 122 ∷ 32 ∷ 113 ∷ 91 ∷ 48 ∷ 93 ∷ 44 ∷ 113 ∷ 91 ∷ 49 ∷ 93 ∷ 59 ∷ 10 ∷ []) ++ (115 ∷ 32 ∷ 113 ∷ 91 ∷ 49 ∷ 93 ∷ 59 ∷ 10 ∷ []) ++ (115 ∷ 32 ∷ 113 ∷ 91 ∷ 48 ∷ 93 ∷ 59 ∷ 10 ∷ []) ++ h_second ++ h_first) ∷
    -- CX and X
    letters_refused (67 ∷ 88 ∷ []) 8 ∷
    letters_refused (88 ∷ []) 8 ∷
    -- C and a line feed
    letters_refused (67 ∷ 10 ∷ []) 8 ∷
    reads first [] ∷
    reads (first ++ h_second ++ cs) (67 ∷ 104 ∷ []) ∷
    -- cz q[1],q[0]; and cu1(pi/2) q[1],q[0];
    reads (first ++ (99 ∷ 122 ∷ 32 ∷ 113 ∷ 91 ∷ 49 ∷ 93 ∷ 44 ∷ 113 ∷ 91 ∷ 48 ∷ 93 ∷ 59 ∷ 10 ∷ []) ++ (99 ∷ 117 ∷ 49 ∷ 40 ∷ 112 ∷ 105 ∷ 47 ∷ 50 ∷ 41 ∷ 32 ∷ 113 ∷ 91 ∷ 49 ∷ 93 ∷ 44 ∷ 113 ∷ 91 ∷ 48 ∷ 93 ∷ 59 ∷ 10 ∷ [])) (67 ∷ 90 ∷ []) ∷
    -- no text
    text_refused [] 23 ∷
    -- a first line missing, repeated at once and later, out of its place
    text_refused (inclusion ++ register) 23 ∷
    text_refused (version ++ register) 23 ∷
    text_refused (version ++ inclusion) 23 ∷
    text_refused (version ++ first) 23 ∷
    text_refused (first ++ h_first ++ register) 23 ∷
    text_refused (inclusion ++ version ++ register) 23 ∷
    text_refused (h_first ++ first) 23 ∷
    -- h q[0]; with no line feed
    text_refused (first ++ 104 ∷ 32 ∷ 113 ∷ 91 ∷ 48 ∷ 93 ∷ 59 ∷ []) 23 ∷
    -- an empty line, before and after
    text_refused (first ++ 10 ∷ 104 ∷ 32 ∷ 113 ∷ 91 ∷ 48 ∷ 93 ∷ 59 ∷ 10 ∷ []) 23 ∷
    text_refused (first ++ 104 ∷ 32 ∷ 113 ∷ 91 ∷ 48 ∷ 93 ∷ 59 ∷ 10 ∷ 10 ∷ []) 23 ∷
    -- a tab after the gate
    text_refused (first ++ 104 ∷ 9 ∷ 113 ∷ 91 ∷ 48 ∷ 93 ∷ 59 ∷ 10 ∷ []) 23 ∷
    -- a carriage return
    text_refused (first ++ 104 ∷ 32 ∷ 113 ∷ 91 ∷ 48 ∷ 93 ∷ 59 ∷ 13 ∷ 10 ∷ []) 23 ∷
    -- two spaces
    text_refused (first ++ 104 ∷ 32 ∷ 32 ∷ 113 ∷ 91 ∷ 48 ∷ 93 ∷ 59 ∷ 10 ∷ []) 23 ∷
    -- a space before the semicolon
    text_refused (first ++ 104 ∷ 32 ∷ 113 ∷ 91 ∷ 48 ∷ 93 ∷ 32 ∷ 59 ∷ 10 ∷ []) 23 ∷
    -- cz q[0], q[1];
    text_refused (first ++ 99 ∷ 122 ∷ 32 ∷ 113 ∷ 91 ∷ 48 ∷ 93 ∷ 44 ∷ 32 ∷ 113 ∷ 91 ∷ 49 ∷ 93 ∷ 59 ∷ 10 ∷ []) 23 ∷
    -- a space at the end
    text_refused (first ++ 104 ∷ 32 ∷ 113 ∷ 91 ∷ 48 ∷ 93 ∷ 59 ∷ 32 ∷ 10 ∷ []) 23 ∷
    -- a comment
    text_refused (first ++ 47 ∷ 47 ∷ 32 ∷ 104 ∷ 32 ∷ 113 ∷ 91 ∷ 48 ∷ 93 ∷ 59 ∷ 10 ∷ []) 23 ∷
    -- an upper-case letter
    text_refused (first ++ 72 ∷ 32 ∷ 113 ∷ 91 ∷ 48 ∷ 93 ∷ 59 ∷ 10 ∷ []) 23 ∷
    -- q[2]
    text_refused (first ++ 104 ∷ 32 ∷ 113 ∷ 91 ∷ 50 ∷ 93 ∷ 59 ∷ 10 ∷ []) 23 ∷
    -- one qubit twice
    text_refused (first ++ 99 ∷ 122 ∷ 32 ∷ 113 ∷ 91 ∷ 48 ∷ 93 ∷ 44 ∷ 113 ∷ 91 ∷ 48 ∷ 93 ∷ 59 ∷ 10 ∷ []) 23 ∷
    -- one qubit for two, two for one
    text_refused (first ++ 99 ∷ 122 ∷ 32 ∷ 113 ∷ 91 ∷ 48 ∷ 93 ∷ 59 ∷ 10 ∷ []) 23 ∷
    text_refused (first ++ 104 ∷ 32 ∷ 113 ∷ 91 ∷ 48 ∷ 93 ∷ 44 ∷ 113 ∷ 91 ∷ 49 ∷ 93 ∷ 59 ∷ 10 ∷ []) 23 ∷
    -- no semicolon
    text_refused (first ++ 104 ∷ 32 ∷ 113 ∷ 91 ∷ 48 ∷ 93 ∷ 10 ∷ []) 23 ∷
    -- two statements a line
    text_refused (first ++ 104 ∷ 32 ∷ 113 ∷ 91 ∷ 48 ∷ 93 ∷ 59 ∷ 104 ∷ 32 ∷ 113 ∷ 91 ∷ 49 ∷ 93 ∷ 59 ∷ 10 ∷ []) 23 ∷
    -- another angle
    text_refused (first ++ 99 ∷ 117 ∷ 49 ∷ 40 ∷ 112 ∷ 105 ∷ 47 ∷ 52 ∷ 41 ∷ 32 ∷ 113 ∷ 91 ∷ 48 ∷ 93 ∷ 44 ∷ 113 ∷ 91 ∷ 49 ∷ 93 ∷ 59 ∷ 10 ∷ []) 23 ∷
    -- a gate that is none of these
    text_refused (first ++ 120 ∷ 32 ∷ 113 ∷ 91 ∷ 48 ∷ 93 ∷ 59 ∷ 10 ∷ []) 23 ∷
    []
