-- A text read from a place on, a statement at a time.
use Rattle.std.specs.Prelude.{Bool, false, cond, List, [], ◌++◌, ◌≡◌, ℕ, ◌+◌, ◌*◌, ◌≤◌, ◌<◌, length, take, drop, Option, Some, None, option_map}
use Rattle.matrix.specs.List.{same_list}
use Rattle.letter.specs.declared.Gate.{Gate}
use Rattle.gate.specs.Reading.{Reading, gates, refusal}
use Rattle.qasm.specs.Text.{statement, reversed, longest_statement}
use Rattle.qasm.specs.Reading.{lines, earlier, statements}
use Rattle.qasm_read.specs.declared.Statement.{Statement}
use Rattle.qasm_read.specs.declared.Statements.{Statements}

-- whether the bytes bs begin with a line
abbrev pub begins : List ℕ → List ℕ → Bool
begins bs l = same_list (take (length l) bs) l

-- the place after a line, if it stands at `at`
abbrev pub place_after : List ℕ → ℕ → List ℕ → Option ℕ
place_after bs at l = cond (begins (drop at bs) l) (Some (at + length l)) None

-- what the bytes from a place on are read as
abbrev pub read_from : List ℕ → ℕ → Reading
read_from bs at = statements (lines (drop at bs))

-- the list of what is read
abbrev pub list_in : Reading → List Gate
list_in (gates w) = w
list_in (refusal n) = []

-- ---- one statement

-- the bytes from `at` up to `end` are a statement of g, whatever follows
pub record StatementAt (bs : List ℕ) (at : ℕ) (g : Gate) (end : ℕ) : Type 0 where
  pub bytes : List ℕ
  pub stands : drop at bs ≡ bytes ++ drop end bs
  pub ends : end ≡ at + length bytes
  pub inside : end ≤ length bs
  pub more : 0 < length bytes
  pub short : length bytes ≤ longest_statement
  pub reads : (rest : List ℕ) → statements (lines (bytes ++ rest)) ≡ earlier (Some g) (statements (lines rest))

-- no statement stands at the front
pub record NoStatement (bs : List ℕ) : Type 0 where
  pub written : (g : Gate) → begins bs (statement g) ≡ false
  pub turned : (g : Gate) → begins bs (reversed g) ≡ false

abbrev pub LineAt : List ℕ → ℕ → Option Statement → Type 0
LineAt bs at (Some s) = StatementAt bs at s.gate s.end
LineAt bs at None = NoStatement (drop at bs)

-- a gate's statement, where its line l stands at a place
abbrev pub line_at : List ℕ → ℕ → List ℕ → Gate → Option Statement
line_at bs at l g = option_map (λ end. record { gate = g; end = end }) (place_after bs at l)

-- ---- statements one after the other

-- the list w behind what is read
abbrev pub followed : List Gate → Reading → Reading
followed w (gates v) = gates (v ++ w)
followed w (refusal n) = refusal n

-- the bytes from `at` up to `end` are the statements of a list, whatever follows, and behind them the bytes are over or no statement stands
pub record StatementsFrom (bs : List ℕ) (at : ℕ) (r : Statements) : Type 0 where
  pub bytes : List ℕ
  pub stands : drop at bs ≡ bytes ++ drop r.end bs
  pub ends : r.end ≡ at + length bytes
  pub inside : r.end ≤ length bs
  pub list : List Gate
  pub count : r.count ≡ length list
  pub short : length bytes ≤ longest_statement * length list
  pub reads : (rest : List ℕ) → statements (lines (bytes ++ rest)) ≡ followed list (statements (lines rest))
  pub stops : r.end < length bs → NoStatement (drop r.end bs)
