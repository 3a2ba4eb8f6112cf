-- Each test is the definition's, in its order.
use mathlib.Core.Path.{◌≡◌, sym, ap, ◌∙◌}
use Prim.Native.Nat.{ℕ, ◌-◌, ◌≤◌}
use native.Mathlib.Omega.{arith}
use mathlib.Core.List.{List}
use lib.ListN.{length, get_or, take, drop}
use lib.Seq.{get_or-take, length-take-le}
use Rattle.std.proofs.Common.{length-drop}
use borrow.Author.Tests.{le-ltb}
use Rattle.matrix.specs.Range.{every}
use Rattle.matrix.specs.Laws.Range.{every_cong}
use Rattle.clifford.specs.Laws.Signed.{signed_none}
use Rattle.sheet_bytes.specs.Bytes.{shortest, longest, sheet_columns}
use Rattle.sheet_bytes.specs.Sheet.{is_number, are_numbers}
use Rattle.sheet_bytes.proofs.check_bytes.Goals as goal

-- the test reads the generators' bytes alone
all_numbers : (s : List ℕ) → shortest ≤ length s → every (length (take (length s - 7 - 1) (drop 1 s))) (λ i. is_number (get_or (take (length s - 7 - 1) (drop 1 s)) i 0)) ≡ are_numbers s
all_numbers s h =
    let d = length-drop 1 s in
    let n : length s - 7 - 1 ≡ length s - shortest = omega arith in
    rw n (
    ap (λ k. every k (λ i. is_number (get_or (take (length s - shortest) (drop 1 s)) i 0))) (length-take-le (length s - shortest) (drop 1 s) (omega arith))
    ∙ every_cong _ _ 0 (length s - shortest) (λ i l u. ap is_number (get_or-take (length s - shortest) (drop 1 s) i 0 (omega arith)))
    )

pub returns-then-not-are_numbers : goal.returns-then-not-are_numbers
returns-then-not-are_numbers c =
    let s = c.args.bytes.now in
    rw (
      le-ltb _ shortest c.if-bytes-lt-SHORTEST.false,
      le-ltb longest _ c.if-bytes-gt-LONGEST.false,
      sym c.is_counted.ensures ∙ c.if-not-is_counted.false,
      sym (c.are_numbers.ensures ∙ all_numbers s (omega arith)) ∙ c.if-not-are_numbers.true,
    )

pub returns : goal.returns
returns c =
    let s = c.args.bytes.now in
    rw (
      le-ltb _ shortest c.if-bytes-lt-SHORTEST.false,
      le-ltb longest _ c.if-bytes-gt-LONGEST.false,
      sym c.is_counted.ensures ∙ c.if-not-is_counted.false,
      sym (c.are_numbers.ensures ∙ all_numbers s (omega arith)) ∙ c.if-not-are_numbers.false,
      sym (c.columns_from.ensures ∙ signed_none (sheet_columns s)),
    ) c.check_columns.ensures
