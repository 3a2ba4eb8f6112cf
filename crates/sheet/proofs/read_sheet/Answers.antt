-- A sheet in form is multiplied out and cut again.
use mathlib.Core.Path.{◌≡◌, sym, ap, ◌∙◌, subst}
use mathlib.Core.List.{List}
use mathlib.Core.Logic.{◌≢◌}
use Prim.Native.Nat.{ℕ, ◌+◌, ◌-◌, ◌≤◌}
use native.Mathlib.Omega.{arith}
use Rattle.std.proofs.Common.{length-take-le}
use lib.IntN.{ℤ}
use lib.ListN.{length, take, drop}
use Rattle.matrix.specs.Matrix.{entry, listed}
use Rattle.matrix.specs.Operator.{operator, Orthogonal}
use Rattle.clifford.specs.Columns.{columns_matrix, signed}
use Rattle.reduction.specs.Reduction.{normal_form}
use Rattle.std.specs.Prelude.{Result, Err}
use Rattle.std.proofs.lemmas.Result.{err_from_is_err_and}
use Rattle.refusal.specs.Refusal.{RefusedOr}
use Rattle.refusal.specs.Laws.Refusal.{number_positive}
use Rattle.matrix.specs.declared.Scaled.{Scaled}
use Rattle.sheet_bytes.specs.Bytes.{shortest, sheet_numbers, sheet_columns, sheet_sign, sheet_operator}
use Rattle.sheet_bytes.specs.Sheet.{bytes_refusal, sheet_refusal, sheet_least}
use Rattle.sheet.specs.Promise.{CutAgain, SheetRead}
use Rattle.sheet.specs.Laws.Sheet.{InForm, in_form, in_form_refusal, out_of_form, front_numbers, numbers_room, sheet_exponent, signed_columns, sheet_matrix, sheet_orthogonal}
use Rattle.sheet.proofs.read_sheet.Goals as goal

turned_away : (s : List ℕ) (n : ℕ) → n ≡ bytes_refusal s 0 → 1 ≤ n → SheetRead s (Err n)
unfolding sheet_refusal
turned_away s n e h =
    let r : bytes_refusal s 0 ≢ 0 = λ z. let i = e in omega arith in
    let z : sheet_refusal s ≡ bytes_refusal s 0 = out_of_form s _ r in
    (e ∙ sym z, omega arith)

-- m being the product of the sheet's generators and its Clifford, times the sign
module _ (s : List ℕ) (f : InForm s) (bs : List ℕ) (b : bs ≡ signed (sheet_sign s) (sheet_columns s)) (m : List ℤ) (q : m ≡ listed (normal_form (sheet_numbers s) (columns_matrix bs)).matrix) where
  matrix_is : m ≡ listed (sheet_operator s).matrix
  matrix_is = q ∙ ap (λ x. listed (normal_form (sheet_numbers s) (columns_matrix x)).matrix) b ∙ sheet_matrix s f

  orthogonal : Orthogonal (operator (length s - shortest) (entry m))
  orthogonal = subst (λ k. Orthogonal (operator k (entry m))) (sheet_exponent s f) (rw matrix_is (sheet_orthogonal s f))

  taken_in : (r : Result Scaled ℕ) → CutAgain s (length s - shortest) m r → SheetRead s r
  unfolding sheet_refusal sheet_least
  taken_in r a =
      let a' : CutAgain s (sheet_operator s).exponent (listed (sheet_operator s).matrix) r = rw (sheet_exponent s f) (rw matrix_is at a) in
      subst (λ n. RefusedOr n (λ l. l ≡ sheet_least s) r) (sym (in_form_refusal s _ f)) a'

-- the bytes behind the first, up to the columns
between : (s : List ℕ) → take (1 + (length s - shortest) - 1) (drop 1 s) ≡ sheet_numbers s
between s = let e : 1 + (length s - shortest) - 1 ≡ length s - shortest = omega arith in ap (λ n. take n (drop 1 s)) e

pub returns-in_err-check_bytes : goal.returns-in_err-check_bytes
returns-in_err-check_bytes c =
    let p = err_from_is_err_and c.from_residual.result c.from_residual.ensures.1 in
    rw (p.1, p.2) (turned_away _ _ c.in_err-check_bytes.ensures (number_positive _))

pub multiplied-matrix-requires : goal.multiplied-matrix-requires
multiplied-matrix-requires c =
    let s = c.args.bytes.now in
    let f : InForm s = in_form _ 0 (sym c.in_ok-check_bytes.ensures) in
    rw (between s) (
      let l = length-take-le (length s - shortest) (drop 1 s) (numbers_room s f) in omega arith,
      front_numbers (drop 1 s) (length s - shortest) (numbers_room s f) f.numbers,
      rw c.columns_from-columns.ensures (signed_columns s f),
    )

pub cut_again-requires : goal.cut_again-requires
cut_again-requires c =
    let s = c.args.bytes.now in
    let f : InForm s = in_form _ 0 (sym c.in_ok-check_bytes.ensures) in
    (omega arith, orthogonal s f _ c.columns_from-columns.ensures _ (rw (between s) at c.multiplied-matrix.ensures))

pub returns : goal.returns
returns c =
    let s = c.args.bytes.now in
    let f : InForm s = in_form _ 0 (sym c.in_ok-check_bytes.ensures) in
    taken_in s f _ c.columns_from-columns.ensures _ (rw (between s) at c.multiplied-matrix.ensures) _ c.cut_again.ensures
