-- Column bytes of different rows are a permutation's; the length of six bytes is no question.
use mathlib.Core.Path.{◌≡◌, sym, ◌∙◌}
use mathlib.Core.Bool.{true, false}
use lib.ListN.{length}
use borrow.Author.Tests.{eq-eqb}
use Rattle.clifford.specs.Columns.{are_permutation}
use native.Mathlib.Omega.{arith}
use Rattle.sheet_bytes.proofs.is_clifford.Goals as goal

pub returns-then-rows_differ : goal.returns-then-rows_differ
unfolding are_permutation
returns-then-rows_differ c =
    let p : are_permutation c.args.columns ≡ true = rw (eq-eqb (length c.args.columns) 6 (omega arith), c.requires, sym c.rows_differ.ensures ∙ c.if-rows_differ.true) in
    rw p c.is_even.ensures

pub returns-else-rows_differ : goal.returns-else-rows_differ
unfolding are_permutation
returns-else-rows_differ c =
    let p : are_permutation c.args.columns ≡ false = rw (eq-eqb (length c.args.columns) 6 (omega arith), c.requires, sym c.rows_differ.ensures ∙ c.if-rows_differ.false) in
    rw p c.if-rows_differ.false
