-- Each way out is a case of the definitions; the entries fit the file since the product is orthogonal with an exponent of at most 60.
use Rattle.std.specs.Prelude.{Result, ℕ, Ok, Err}
use mathlib.Core.Path.{◌≡◌, refl, sym, ap, subst}
use mathlib.Core.List.{List, []}
use Prim.Native.Nat.{ℕ, ◌≤◌, ◌<◌}
use native.Mathlib.Omega.{arith}
use Rattle.std.proofs.lemmas.Result.{err_from_is_err_and}
use lib.ListN.{length}
use borrow.Author.Tests.{lt-ltb, le-ltb}
use Rattle.file.specs.File.{kind_for, Fits}
use Rattle.file.specs.Writing.{file_answer, file_buffer, FileWritten}
use Rattle.file.specs.Laws.File.{orthogonal_fits}
use Rattle.refusal.specs.Laws.Refusal.{ok_err, same_ok, same_err}
use Rattle.matrix.specs.declared.Scaled.{Scaled}
use Rattle.gate.specs.Reading.{largest_list, least_of, Reading, gates, refusal, read_from, reading, ReadAs, operator_answer, operator_buffer}
use Rattle.gate.specs.Promise.{ProductPromise}
use Rattle.gate.specs.Laws.Reading.{least_of_orthogonal, promised}
use Rattle.gate.proofs.gates_to_operator.Goals as goal

-- the answer and the buffer of a reading
abbrev Done : List ℕ → Reading → Result ℕ ℕ → List ℕ → Type 0
Done old x a new = (a ≡ operator_answer (length old) x) × (new ≡ operator_buffer old x)

seven : (bs : List ℕ) → largest_list < length bs → reading bs ≡ refusal 7
unfolding reading
seven bs h = rw (lt-ltb largest_list (length bs) h)

too_long_lem : (bs old : List ℕ) → largest_list < length bs → ProductPromise bs old old (Err 7)
too_long_lem bs old h = let e = sym (seven bs h) in promised bs old (ap (operator_answer (length old)) e) (ap (operator_buffer old) e)

not_too_long : (bs : List ℕ) → length bs ≤ largest_list → reading bs ≡ read_from [] bs
unfolding reading
not_too_long bs h = rw (le-ltb largest_list (length bs) h)

module _ (old : List ℕ) where
  refused : (x : Reading) (n : ℕ) → ReadAs x (Err n) → Done old x (Err n) old
  refused (gates w) n p = absurd (ok_err (sym p.0))
  refused (refusal m) n p = (ap Err (same_err p), refl)

  module _ (r : Scaled) where
    wrote : (x : Reading) (a : Result ℕ ℕ) (new : List ℕ) → ReadAs x (Ok r) → FileWritten r.exponent r.matrix old new a → Done old x a new
    wrote (gates w) a new p f = subst (λ (l : Scaled). (a ≡ file_answer l.exponent (length old)) × (new ≡ file_buffer l.exponent l.matrix old)) (same_ok p.0) (f.answer, f.buffer)
    wrote (refusal n) a new p f = absurd (ok_err p)

    fits : (x : Reading) → ReadAs x (Ok r) → Fits (kind_for r.exponent) r.matrix
    fits (gates w) p =
        subst (λ (l : Scaled). Fits (kind_for l.exponent) l.matrix) (sym (same_ok p.0)) (orthogonal_fits (least_of w).exponent (least_of w).matrix p.1 (least_of_orthogonal w))
    fits (refusal n) p = absurd (ok_err p)

-- of a list that is not too long
of_list : (bs old : List ℕ) {a : Result ℕ ℕ} {new : List ℕ} → length bs ≤ largest_list → Done old (read_from [] bs) a new → ProductPromise bs old new a
of_list bs old {a} {new} h d = let (p, q) = subst (λ x. Done old x a new) (sym (not_too_long bs h)) d in promised bs old p q

pub returns-then-letters-gt-LARGEST_LIST : goal.returns-then-letters-gt-LARGEST_LIST
returns-then-letters-gt-LARGEST_LIST c = too_long_lem _ _ c.if-letters-gt-LARGEST_LIST.true

pub returns-in_err-product : goal.returns-in_err-product
returns-in_err-product c = let p = err_from_is_err_and c.from_residual.result c.from_residual.ensures.1 in rw (p.1, p.2) (of_list _ _ (omega arith) (refused _ (read_from [] c.args.letters.now) _ c.in_err-product.ensures))

pub write_file-requires : goal.write_file-requires
write_file-requires c = fits [] _ (read_from [] c.args.letters.now) c.in_ok-product.ensures

pub returns : goal.returns
returns c = of_list _ _ (omega arith) (wrote _ _ (read_from [] c.args.letters.now) _ _ c.in_ok-product.ensures c.write_file.ensures)
