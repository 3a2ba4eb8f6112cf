-- What the call from a unitary to a gate list promises (document 02, P5).
use Rattle.std.specs.Prelude.{List, map, ◌≢◌, ◌⊎◌, ◌≡◌, ℕ, ◌+◌, ◌*◌, ◌<◌, ◌≤◌, length, Result, Ok, Err}
use Rattle.refusal.specs.Refusal.{refusal_of}
use Rattle.matrix.specs.Matrix.{listed}
use Rattle.reduction.specs.Reduction as reduction
use Rattle.file.specs.File.{file_exponent, written}
use Rattle.letter.specs.declared.Gate.{Gate}
use Rattle.letter.specs.Gate.{letter}
use Rattle.gate.specs.Product.{cs_gates}
use Rattle.gate_list.specs.List.{list_of}
use Rattle.gate_list.specs.Promise.{ListFor}
use Rattle.unitary.specs.Unitary.{Quotient, Gives}
use Rattle.unitary.specs.Form.{form_of}
use Rattle.unitary_file.specs.Unitary.{largest_unitary, unitary_length, unitary_of, unitary_refusal}
use Rattle.unitary_gates.specs.declared.Synthesis.{Synthesis}

-- ---- the list

-- of the six-by-six form of sign byte 0: t, L, and "the list is the one for the form of sign byte 0"
abbrev pub form_count : Quotient → ℕ
form_count U = reduction.count (form_of U).exponent (listed (form_of U).matrix)

abbrev pub form_loose : Quotient → ℕ
form_loose U = reduction.loose (form_of U).exponent (listed (form_of U).matrix)

abbrev pub form_list : Quotient → List Gate
form_list U = list_of (form_of U).exponent (listed (form_of U).matrix)

-- w is the list for the unitary U, and p its power of ω
pub record UnitaryList (U : Quotient) (w : List Gate) (p : ℕ) : Type 0 where
  -- "ω to that power times the plain matrices H, S, CZ, CS … gives the unitary exactly"
  pub gives : Gives w p U
  -- "a power of ω … from 0 to 7", and no other of them is true of the letters: "The power follows from the letters written"
  pub small : p ≤ 7
  pub follows : (q : ℕ) → q ≤ 7 → Gives w q U → q ≡ p
  -- "No list of plain gates equal to it up to a power of ω has fewer CS"
  pub fewest : (v : List Gate) (q : ℕ) → Gives v q U → cs_gates w ≤ cs_gates v
  pub form_list : w ≡ form_list U
  -- demand 3 and P9 for the form: as many letters C as its least exponent, the fewest Z in each stretch, and at most 256 × (t + 1) letters
  pub list : (s : ℕ) × ListFor (form_of U) (form_count U) w s

-- ---- refused for its entries

-- 18 or 19
abbrev pub ForEntries : ℕ → Type 0
ForEntries n = (n ≡ 18) ⊎ (n ≡ 19)

-- no list of plain gates gives the matrix up to a power of ω
abbrev pub NoList : Quotient → Type 0
NoList U = (w : List Gate) (q : ℕ) → Gives w q U → ⊥

-- demand 3's last sentence for unitaries, where n is the refusal answered: 65 bytes with an exponent in range are refused for their entries exactly
-- when no list gives the matrix
pub record ExactlyRefused (b : List ℕ) (n : ℕ) : Type 0 where
  pub refused : length b ≡ unitary_length → file_exponent b ≤ largest_unitary → ForEntries n → NoList (unitary_of b)
  pub no_list : length b ≡ unitary_length → file_exponent b ≤ largest_unitary → NoList (unitary_of b) → ForEntries n

-- ---- the call

-- a list w for the unitary was written; p is its power of ω
pub record Handed (b old new : List ℕ) (a : Result Synthesis ℕ) (w : List Gate) (p : ℕ) : Type 0 where
  -- the letters at the front of the buffer, and the bytes past them as they were
  pub buffer : new ≡ written old (map letter w)
  -- "The result is a gate list and a power of ω", with the count, the number of letters and L as for an operator
  pub answer : a ≡ Ok (record { count = form_count (unitary_of b); letters = length w; loose = form_loose (unitary_of b); power = p })
  pub list : UnitaryList (unitary_of b) w p

pub record UnitaryPromise (b old new : List ℕ) (a : Result Synthesis ℕ) : Type 0 where
  pub refused : unitary_refusal b ≢ 0 → (a ≡ Err (unitary_refusal b)) × (new ≡ old)
  -- "then 6": shorter than 256 × (t + 1)
  pub no_room : unitary_refusal b ≡ 0 → length old < 256 * (form_count (unitary_of b) + 1) → (a ≡ Err 6) × (new ≡ old)
  pub handed : unitary_refusal b ≡ 0 → 256 * (form_count (unitary_of b) + 1) ≤ length old → (w : List Gate) × (p : ℕ) × Handed b old new a w p
  pub exactly : ExactlyRefused b (refusal_of a)
