-- "Stored sheets … read as before" (document 02, P10): whether a sheet of count at most 28 is read, what is answered and what is written are what
-- they are where no sheet has more than 36 bytes and every operator file is a short one.
use Rattle.std.specs.Prelude.{◌≡◌, List, ℕ, ◌+◌, ◌≤◌, eqb, ltb, length, Ok, Err}
use Rattle.std.proofs.Math.Path.{refl}
use Rattle.std.proofs.Common.{ap, arith}
use Rattle.std.proofs.Math.Bool.{cond}
use Rattle.std.proofs.Math.Decide.{ℕ_discrete}
use borrow.Author.Tests.{eq-eqb, ne_eqb, le-ltb}
use Rattle.file.specs.File.{short_file, short_length, short_exponent, kind_for, length_of, file_as, written}
use Rattle.file.specs.Laws.File.{short_for}
use Rattle.sheet_bytes.specs.Bytes.{shortest, longest}
use Rattle.sheet_bytes.specs.Sheet.{sheet_refusal_to, sheet_refusal, sheet_least}
use Rattle.sheet.specs.Promise.{sheet_file, operator_answer, operator_buffer}
use Rattle.sheet.specs.Laws.Sheet.{accepted, sheet_exact}

-- the bytes of a sheet of count 28
abbrev pub longest_stored : ℕ
longest_stored = short_exponent + shortest

module _ (s : List ℕ) (h : length s ≤ longest_stored) where
  pub stored_refusal : sheet_refusal s ≡ sheet_refusal_to longest_stored s
  unfolding sheet_refusal
  stored_refusal = rw (le-ltb longest (length s) (omega arith), le-ltb longest_stored (length s) h) refl

  short_kind : sheet_refusal s ≡ 0 → kind_for (sheet_least s).exponent ≡ short_file
  short_kind z = let e = sheet_exact s (accepted s z) in short_for (sheet_least s).exponent (omega arith)

  -- the short file of its operator
  pub stored_file : sheet_refusal s ≡ 0 → sheet_file s ≡ file_as short_file (sheet_least s).exponent (sheet_least s).matrix
  stored_file z = ap (λ t. file_as t (sheet_least s).exponent (sheet_least s).matrix) (short_kind z)

  pub stored_answer : (n : ℕ) → operator_answer s n ≡ cond (eqb (sheet_refusal s) 0) (cond (ltb n short_length) (Err 6) (Ok (sheet_least s).exponent)) (Err (sheet_refusal s))
  unfolding operator_answer
  stored_answer n = elim (ℕ_discrete (sheet_refusal s) 0) [
    | yes z ↦ rw (eq-eqb (sheet_refusal s) 0 z) (ap (λ t. cond (ltb n (length_of t)) (Err 6) (Ok (sheet_least s).exponent)) (short_kind z))
    | no x ↦ rw (ne_eqb (sheet_refusal s) 0 x) refl
  ]

  pub stored_buffer : (old : List ℕ)
      → operator_buffer s old ≡ cond (eqb (sheet_refusal s) 0) (cond (ltb (length old) short_length) old (written old (file_as short_file (sheet_least s).exponent (sheet_least s).matrix))) old
  unfolding operator_buffer
  stored_buffer old = elim (ℕ_discrete (sheet_refusal s) 0) [
    | yes z ↦ rw (eq-eqb (sheet_refusal s) 0 z) (ap (λ t. cond (ltb (length old) (length_of t)) old (written old (file_as t (sheet_least s).exponent (sheet_least s).matrix))) (short_kind z))
    | no x ↦ rw (ne_eqb (sheet_refusal s) 0 x) refl
  ]
