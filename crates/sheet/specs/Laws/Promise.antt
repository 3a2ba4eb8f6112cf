-- The ways out of the call.
use Rattle.std.specs.Prelude.{◌≡◌, ◌≢◌, List, ℕ, ◌≤◌, Result, Ok, Err}
use Rattle.std.proofs.Common.{sym, ap, ◌∙◌, subst, le_trans}
use Rattle.std.proofs.Math.ListN.{length}
use native.Mathlib.Omega.{arith}
use borrow.Author.Tests.{eq-eqb, ne_eqb, le-ltb}
use Rattle.matrix.specs.Operator.{SameOperator}
use Rattle.file.specs.File.{long_length, kind_for, length_for, Fits}
use Rattle.file.specs.Writing.{file_answer, file_buffer, FileWritten}
use Rattle.file.specs.Laws.File.{length_most, exponent_back, orthogonal_fits}
use Rattle.matrix.specs.declared.Scaled.{Scaled}
use Rattle.sheet_bytes.specs.Bytes.{sheet_operator}
use Rattle.sheet_bytes.specs.Sheet.{sheet_refusal, sheet_least}
use Rattle.sheet.specs.Promise.{SheetRead, operator_answer, operator_buffer, OperatorPromise}
use Rattle.sheet.specs.Laws.Sheet.{accepted, sheet_same_least, sheet_least_lem, sheet_exact, sheet_stated, sheet_small, least_orthogonal_sheet, sheet_file_lem}

module _ (s old : List ℕ) where
  promised : {new : List ℕ} {a : Result ℕ ℕ} → a ≡ operator_answer s (length old) → new ≡ operator_buffer s old → OperatorPromise s old new a
  promised p q = record {
    answer = p;
    buffer = q;
    multiplies = λ z. subst (λ A. SameOperator A (sheet_operator s)) (sym (sheet_file_lem s (accepted s z))) (sheet_same_least s (accepted s z));
    least = λ z. sheet_least_lem s (accepted s z);
    exact = λ z. sheet_exact s (accepted s z);
    stated = λ z. sheet_stated s (accepted s z);
    count = exponent_back (sheet_least s).exponent (sheet_least s).matrix;
  }

  pub turned_away : (n : ℕ) → SheetRead s (Err n) → OperatorPromise s old old (Err n)
  unfolding operator_answer operator_buffer
  turned_away n c =
      let t = ne_eqb (sheet_refusal s) 0 (λ z. let h = c.1 in omega arith) in
      promised (rw t (ap Err c.0)) (rw t)

  module _ (r : Scaled) (c : SheetRead s (Ok r)) where
    pub wrote : {new : List ℕ} {a : Result ℕ ℕ} → FileWritten r.exponent r.matrix old new a → OperatorPromise s old new a
    unfolding operator_answer operator_buffer
    wrote {new} {a} w =
        let t = eq-eqb (sheet_refusal s) 0 c.0 in
        let (p, q) = subst (λ (f : Scaled). (a ≡ file_answer f.exponent (length old)) × (new ≡ file_buffer f.exponent f.matrix old)) c.1 (w.answer, w.buffer) in
        promised (rw t p) (rw t q)

    -- the entries fit the file
    pub fits : Fits (kind_for r.exponent) r.matrix
    fits =
        let z = c.0 in
        subst (λ (f : Scaled). Fits (kind_for f.exponent) f.matrix) (sym c.1)
        (orthogonal_fits (sheet_least s).exponent (sheet_least s).matrix (sheet_small s (accepted s z)) (least_orthogonal_sheet s (accepted s z)))

-- ---- the answer, where the buffer has room for every file

module _ {s old new : List ℕ} {a : Result ℕ ℕ} (room : long_length ≤ length old) (p : OperatorPromise s old new a) where
  pub answer_count : sheet_refusal s ≡ 0 → a ≡ Ok (sheet_least s).exponent
  unfolding operator_answer
  answer_count z = p.answer ∙ rw (eq-eqb (sheet_refusal s) 0 z, le-ltb (length old) (length_for (sheet_least s).exponent) (le_trans (length_most (sheet_least s).exponent) room))

  pub answer_refused : sheet_refusal s ≢ 0 → a ≡ Err (sheet_refusal s)
  unfolding operator_answer
  answer_refused n = p.answer ∙ rw (ne_eqb (sheet_refusal s) 0 n)
