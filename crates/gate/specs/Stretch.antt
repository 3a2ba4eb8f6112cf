-- A list read a stretch at a time: the Clifford letters up to a letter C, a byte that is no letter, or the end.
use Rattle.std.specs.Prelude.{◌≡◌, true, cond, List, ◌++◌, ℕ, ◌+◌, ◌≤◌, ◌<◌, ltb, ℤ, length, get_or, drop, Option, Some, None, Result, Ok, Err}
use Rattle.matrix.specs.Matrix.{entry, listed, product}
use Rattle.matrix.specs.declared.Scaled.{Scaled}
use Rattle.matrix.specs.Array.{least_form}
use Rattle.file.specs.File.{largest_exponent}
use Rattle.clifford.specs.Columns.{columns_matrix, are_permutation}
use Rattle.letter.specs.declared.Gate.{Gate}
use Rattle.letter.specs.Gate.{is_cs, gate_of}
use Rattle.letter.specs.Composition.{composed_gate, identity_columns}
use Rattle.gate.specs.declared.Stretch.{Stretch}
use Rattle.gate.specs.Product.{image}
use Rattle.gate.specs.Reading.{least_of, read_from}

-- a matrix times the Clifford of these columns
abbrev pub times_columns : List ℤ → List ℕ → List ℤ
times_columns m bs = listed (product 6 (entry m) (columns_matrix bs))

-- a product (k, m) at its least exponent, times the Clifford of these columns
abbrev pub held : ℕ → List ℤ → List ℕ → Scaled
held k m bs = record { exponent = k; matrix = times_columns m bs }

-- the columns of the Clifford letters before a byte with its letter, where it is one more of them
abbrev pub composed_letter : List ℕ → Option Gate → Option (List ℕ)
composed_letter bs None = None
composed_letter bs (Some g) = cond (is_cs g) None (Some (composed_gate bs g))

-- a byte that is no Clifford letter
abbrev pub EndsStretch : Option Gate → Type 0
EndsStretch None = Unit {0}
EndsStretch (Some g) = is_cs g ≡ true

-- the Clifford letters of the list bs from `at` up to `next` have these columns
pub record CliffordLetters (bs : List ℕ) (at : ℕ) (columns : List ℕ) (next : ℕ) : Type 0 where
  pub from : at ≤ next
  pub inside : next ≤ length bs
  pub permutation : are_permutation columns ≡ true
  -- the gates read, whatever was read before
  pub gates : List Gate
  pub reads : (w : List Gate) (k : ℕ) (m : List ℤ) → k ≤ largest_exponent → least_of w ≡ held k m identity_columns → read_from w (drop at bs) ≡ read_from (w ++ gates) (drop next bs)
  pub product : (w : List Gate) (k : ℕ) (m : List ℤ) → least_of w ≡ held k m identity_columns → least_of (w ++ gates) ≡ held k m columns

-- all of them: the list ends there, or another byte stands there
pub record StretchOf (bs : List ℕ) (at : ℕ) (r : Stretch) : Type 0 where
  pub letters : CliffordLetters bs at r.columns r.next
  pub ends : r.next < length bs → EndsStretch (gate_of (get_or bs r.next 0))

-- ---- one letter

-- a letter more, on the right
unfoldable pub multiplied : ℕ → List ℤ → Gate → Scaled
multiplied k m g = least_form (k + (image g).exponent) (listed (product 6 (entry m) (image g).matrix))

-- one letter behind the product (k, m)
abbrev pub read_byte : ℕ → List ℤ → Option Gate → Result Scaled ℕ
read_byte k m None = Err 8
read_byte k m (Some g) = cond (ltb largest_exponent (multiplied k m g).exponent) (Err 9) (Ok (multiplied k m g))
