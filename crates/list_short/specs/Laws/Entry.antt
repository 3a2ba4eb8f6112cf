-- One sheet: the call's answer says whether it is read, and it has a line of at most ten bytes if it is, and else none.
use Rattle.std.specs.Prelude.{◌≡◌, refl, Bool, true, false, ℕ, ◌-◌, ◌≤◌, eqb, length, drop, Result, Ok, Err}
use Rattle.std.proofs.Common.{sym, ap, ◌∙◌, arith, length-drop, length-take-le, eq-eqb, ne_eqb}
use mathlib.Core.List.{List, [], ◌∷◌, flat_map, append-nil}
use Rattle.std.proofs.Math.Decide.{ℕ_discrete}
use Rattle.refusal.specs.Laws.Refusal.{ok_err}
use Rattle.file.specs.File.{long_length}
use Rattle.sheet_bytes.specs.Bytes.{shortest, sheet_numbers}
use Rattle.sheet_bytes.specs.Sheet.{sheet_refusal}
use Rattle.sheet.specs.Promise.{OperatorPromise}
use Rattle.sheet.specs.Laws.Promise.{answer_count, answer_refused}
use Rattle.text.specs.Text.{digit, decimal, line}
use Rattle.text.specs.Laws.Text.{decimal_one, line_length}
use Rattle.short_sheet.specs.Short.{if_read}
use Rattle.list_short.specs.Output.{short_line, lines_of}

-- the answer of the call says whether it is read
module _ {s old new : List ℕ} {a : Result ℕ ℕ} (room : long_length ≤ length old) (p : OperatorPromise s old new a) where
  pub read : (k : ℕ) → a ≡ Ok k → eqb (sheet_refusal s) 0 ≡ true
  read k e = elim (ℕ_discrete (sheet_refusal s) 0) [
    | yes z ↦ eq-eqb (sheet_refusal s) 0 z
    | no n ↦ absurd (ok_err (sym e ∙ answer_refused room p n))
  ]

  pub not_read : (n : ℕ) → a ≡ Err n → eqb (sheet_refusal s) 0 ≡ false
  not_read n e = elim (ℕ_discrete (sheet_refusal s) 0) [
    | yes z ↦ absurd (ok_err (sym (answer_count room p z) ∙ e))
    | no m ↦ ne_eqb (sheet_refusal s) 0 m
  ]

module _ (s : List ℕ) where
  pub line_not_read : eqb (sheet_refusal s) 0 ≡ false → [] ≡ lines_of (if_read s)
  unfolding lines_of flat_map
  line_not_read e = rw e

  line_read : eqb (sheet_refusal s) 0 ≡ true → short_line s ≡ lines_of (if_read s)
  unfolding lines_of flat_map
  line_read e = rw e (sym (append-nil (short_line s)))

  module _ (l : shortest ≤ length s) (u : length s ≤ 10) where
    count_is : length (sheet_numbers s) ≡ length s - shortest
    count_is = let d = length-drop 1 s in length-take-le (length s - shortest) (drop 1 s) (omega arith)

    -- the count is a digit
    line_is : line (digit (length s - shortest) ∷ []) (sheet_numbers s) ≡ short_line s
    line_is = ap (λ w. line w (sheet_numbers s)) (sym (decimal_one (length s - shortest) (omega arith)) ∙ ap decimal (sym count_is))

    pub entry_line : eqb (sheet_refusal s) 0 ≡ true → line (digit (length s - shortest) ∷ []) (sheet_numbers s) ≡ lines_of (if_read s)
    entry_line e = line_is ∙ line_read e

    pub line_most : length (line (digit (length s - shortest) ∷ []) (sheet_numbers s)) ≤ 10
    line_most = let m = line_length (digit (length s - shortest) ∷ []) (sheet_numbers s) in let c = count_is in omega arith

    pub entry_most : length (lines_of (if_read s)) ≤ 10
    entry_most = go (eqb (sheet_refusal s) 0) refl
      where
        go : (b : Bool) → eqb (sheet_refusal s) 0 ≡ b → length (lines_of (if_read s)) ≤ 10
        go true e = rw (sym (entry_line e)) line_most
        go false e = rw (sym (line_not_read e)) (omega arith)
