-- The refusals of a unitary's bytes, each with what it means.
use Rattle.std.specs.Prelude.{◌≡◌, Bool, true, false, ◌≢◌, List, ℕ, zero, suc, ◌<◌, ◌≤◌, ◌^◌, ℤ, nat_abs, length, get_or, Err}
use Rattle.std.proofs.Common.{sym, ◌∙◌, arith, eq-eqb, ne_eqb, lt-ltb, le-ltb}
use Rattle.matrix.specs.Range.{tabulate}
use Rattle.file.specs.File.{short_file, file_exponent, entry_of}
use Rattle.file.specs.Laws.File.{entry_size}
use Rattle.unitary.specs.Unitary.{matrix_of}
use Rattle.unitary_file.specs.Reading.{ReadAs}
use Rattle.unitary_file.specs.Unitary.{Narrow, entries_refusal, is_small, is_unitary, largest_unitary, unitary_entries, unitary_length, unitary_of, unitary_refusal}

pub wrong_length : (b : List ℕ) → length b ≢ unitary_length → unitary_refusal b ≡ 17
unfolding unitary_refusal
wrong_length b h = rw (ne_eqb (length b) unitary_length h)

pub wrong_exponent : (b : List ℕ) → length b ≡ unitary_length → largest_unitary < file_exponent b → unitary_refusal b ≡ 17
unfolding unitary_refusal
wrong_exponent b l h = rw (eq-eqb (length b) unitary_length l, lt-ltb largest_unitary (file_exponent b) h)

-- of 65 bytes with an exponent in range: those for the entries
pub in_form : (b : List ℕ) → length b ≡ unitary_length → file_exponent b ≤ largest_unitary → unitary_refusal b ≡ entries_refusal (unitary_of b)
unfolding unitary_refusal
in_form b l h = rw (eq-eqb (length b) unitary_length l, le-ltb largest_unitary (file_exponent b) h)

module _ (b : List ℕ) (l : length b ≡ unitary_length) (h : file_exponent b ≤ largest_unitary) where
  abbrev small : Bool
  small = is_small (file_exponent b) (matrix_of (unitary_entries b))

  abbrev unitary : Bool
  unitary = is_unitary (file_exponent b) (matrix_of (unitary_entries b))

  pub entry_too_large : small ≡ false → unitary_refusal b ≡ 18
  entry_too_large e = in_form b l h ∙ rw e

  pub not_unitary : small ≡ true → unitary ≡ false → unitary_refusal b ≡ 19
  not_unitary e f = in_form b l h ∙ rw (e, f)

  pub taken_in : small ≡ true → unitary ≡ true → unitary_refusal b ≡ 0
  taken_in e f = in_form b l h ∙ rw (e, f)

-- a refusal, with nothing beside it
pub refused_as : (b : List ℕ) (n : ℕ) → unitary_refusal b ≡ n → 0 < n → ReadAs b (Err n)
refused_as b n e l = (sym e, rw e l)

-- 16 bits each
narrow : (f : ℕ → ℤ) → ((n : ℕ) → nat_abs (f n) ≤ 2 ^ 15) → (a k : ℕ) → Narrow (tabulate f a k)
unfolding tabulate
narrow f h a zero i = omega arith
narrow f h a (suc k) zero = h a
narrow f h a (suc k) (suc i) = narrow f h (suc a) k i

pub entries_narrow : (b : List ℕ) → ((i : ℕ) → get_or b i 0 < 256) → Narrow (unitary_entries b)
unfolding unitary_entries
entries_narrow b h = narrow (entry_of short_file b) (entry_size b h short_file) 0 32
