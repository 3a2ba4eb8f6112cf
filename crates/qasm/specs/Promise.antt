-- What the calls between gate lists and OpenQASM 2.0 text promise.
use Rattle.std.specs.Prelude.{cond, List, map, ◌≡◌, ℕ, ltb, length, Result, Ok, Err}
use Rattle.file.specs.File.{written}
use Rattle.letter.specs.declared.Gate.{Gate}
use Rattle.letter.specs.Gate.{letter}
use Rattle.gate.specs.Product.{MultipliesTo}
use Rattle.gate.specs.Reading.{Reading, gates, refusal}
use Rattle.qasm.specs.Text.{text_of}
use Rattle.qasm.specs.Reading.{read_qasm, meaning, normalised, read_letters}

-- ---- where a list w is written as the bytes of `bytes_of w`

-- how many bytes that are, or the refusal: "The answer is the number of bytes written."
abbrev pub size : (List Gate → List ℕ) → Reading → Result ℕ ℕ
size bytes_of (gates w) = Ok (length (bytes_of w))
size bytes_of (refusal n) = Err n

-- "then 6 if the text doesn't fit", "reading ends with 6 if the letters don't fit", where the lent buffer has `room` bytes
abbrev fitting : ℕ → Result ℕ ℕ → Result ℕ ℕ
fitting room (Ok n) = cond (ltb room n) (Err 6) (Ok n)
fitting room (Err n) = Err n

-- the answer
abbrev pub written_answer : (List Gate → List ℕ) → ℕ → Reading → Result ℕ ℕ
written_answer bytes_of room r = fitting room (size bytes_of r)

-- the buffer afterwards
abbrev pub written_buffer : (List Gate → List ℕ) → List ℕ → Reading → List ℕ
written_buffer bytes_of old (gates w) = cond (ltb (length old) (length (bytes_of w))) old (written old (bytes_of w))
written_buffer bytes_of old (refusal n) = old

-- ---- a list written as text

-- the bytes of a list that is written are its letters; "A list written and read is the same list."; its text means what it multiplies to
pub record WrittenAs (bs : List ℕ) (w : List Gate) : Type 0 where
  pub letters : bs ≡ map letter w
  pub reads : read_qasm (text_of w) ≡ gates w
  pub means : MultipliesTo w (meaning (text_of w))

pub record TextPromise (bs old new : List ℕ) (a : Result ℕ ℕ) : Type 0 where
  pub answer : a ≡ written_answer text_of (length old) (read_letters bs)
  pub buffer : new ≡ written_buffer text_of old (read_letters bs)
  pub list : (w : List Gate) → read_letters bs ≡ gates w → WrittenAs bs w

-- ---- a text read as a list

-- a text that is read, written again, is the same but for the order of qubits; it means what its letters multiply to, and these are taken where a list
-- is written
pub record ReadAs (bs : List ℕ) (w : List Gate) : Type 0 where
  pub again : text_of w ≡ normalised bs
  pub means : MultipliesTo w (meaning bs)
  pub taken : read_letters (map letter w) ≡ gates w

pub record LettersPromise (bs old new : List ℕ) (a : Result ℕ ℕ) : Type 0 where
  pub answer : a ≡ written_answer (map letter) (length old) (read_qasm bs)
  pub buffer : new ≡ written_buffer (map letter) old (read_qasm bs)
  pub list : (w : List Gate) → read_qasm bs ≡ gates w → ReadAs bs w
