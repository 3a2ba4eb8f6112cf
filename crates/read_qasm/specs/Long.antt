-- A text that is longer than any that is read: it earns 7, or 23 for a line that may stand far behind.
use Rattle.std.specs.Prelude.{cond, List, ◌++◌, map, ◌≡◌, ℕ, ◌+◌, ◌≤◌, ◌<◌, eqb, length, take, drop, Option, Some, None}
use Rattle.file.specs.File.{Appended}
use Rattle.letter.specs.Gate.{letter}
use Rattle.gate.specs.Reading.{Reading, gates, refusal}
use Rattle.qasm.specs.Reading.{lines, statements, read_qasm}
use Rattle.qasm.specs.Output.{output_of}
use Rattle.qasm.specs.Text.{longest_statement, longest_text}
use Rattle.qasm_read.specs.Statements.{NoStatement}

-- a text of so many bytes has more than 16,384 statements, or a line that is none
abbrev pub longer : ℕ
longer = longest_text + longest_statement

-- what is earned where these bytes follow the first three lines and more than 16,384 statements
abbrev pub refused : Reading → Reading
refused (gates w) = refusal 7
refused (refusal n) = refusal n

unfoldable pub behind : List ℕ → Reading
behind bs = refused (statements (lines bs))

-- the first r bytes are the first three lines and more than 16,384 statements, whatever follows
pub record StartAt (bs : List ℕ) (r : ℕ) : Type 0 where
  pub inside : r ≤ length bs
  pub long : longest_text < r
  pub earns : (rest : List ℕ) → read_qasm (bs ++ rest) ≡ behind (drop r bs ++ rest)

-- or a line is wrong, whatever follows
abbrev pub StartOf : List ℕ → Option ℕ → Type 0
StartOf bs (Some r) = StartAt bs r
StartOf bs None = (rest : List ℕ) → read_qasm (bs ++ rest) ≡ refusal 23

-- the first r bytes of a buffer earn there what the bytes bs earn, whatever follows, and begin with no statement
pub record LeftOf (bs buffer : List ℕ) (r : ℕ) : Type 0 where
  pub inside : r ≤ length bs
  pub earns : (rest : List ℕ) → behind (take r buffer ++ rest) ≡ behind (bs ++ rest)
  pub stops : 0 < r → NoStatement (take r buffer)

-- the bytes bs of a long text earn what the first `left` bytes of a buffer earn there, whatever follows; these begin with no statement
pub record Waiting (bs buffer : List ℕ) (left : ℕ) : Type 0 where
  pub inside : left ≤ length buffer
  pub earns : (rest : List ℕ) → read_qasm (bs ++ rest) ≡ behind (take left buffer ++ rest)
  pub stops : 0 < left → NoStatement (take left buffer)

-- 7, or 23 where bytes are left
abbrev pub last_refusal : ℕ → ℕ
last_refusal left = cond (eqb left 0) 7 23

-- ---- with the bytes that a program reads on: these it alone knows

-- r is what the bytes bs earn with them
pub record Earned (bs : List ℕ) (r : ℕ) : Type 0 where
  pub more : List ℕ
  pub earns : read_qasm (bs ++ more) ≡ refusal r

-- the output for the bytes bs with them
pub record OutputBehind (bs old new : List ℕ) (r : ℕ) : Type 0 where
  pub more : List ℕ
  pub output : Appended (output_of (map letter) (read_qasm (bs ++ more))) 0 old new r
