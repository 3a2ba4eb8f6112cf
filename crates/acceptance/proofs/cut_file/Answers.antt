-- The length and the exponent are tested here, the entries by the callee.
use mathlib.Core.Path.{◌≡◌, refl, sym, subst, ◌∙◌}
use mathlib.Core.List.{List}
use Prim.Native.Nat.{ℕ, ◌<◌}
use native.Mathlib.Omega.{arith}
use lib.ListN.{length}
use borrow.Author.Tests.{not-true, not-false, lt-ltb}
use Rattle.matrix.specs.Matrix.{entry}
use Rattle.matrix.specs.Operator.{operator}
use Rattle.file.specs.File.{exponent_of, file_exponent, InForm, kind_of, length_of}
use Rattle.file.specs.Laws.File.{is_length_lem, length_is, file_bounded}
use Rattle.refusal.specs.Refusal.{numbered}
use Rattle.acceptance.specs.Acceptance.{entries_refusal, file_refusal}
use Rattle.acceptance.specs.Cutting.{CutAs}
use Rattle.acceptance.specs.Laws.Acceptance.{range_most, in_form}
use Rattle.acceptance.proofs.cut_file.Goals as goal

too_deep : (b : List ℕ) → length b ≡ length_of (kind_of (length b)) → exponent_of (kind_of (length b)) < file_exponent b → file_refusal b ≡ 2
unfolding file_refusal
too_deep b l h = rw (is_length_lem (length b) l, lt-ltb (exponent_of (kind_of (length b))) (file_exponent b) h)

pub returns-then-not-is_length : goal.returns-then-not-is_length
unfolding file_refusal
returns-then-not-is_length c = rw (sym c.is_length.ensures ∙ not-true _ c.if-not-is_length.true-raw) (refl, omega arith)

pub returns-then-largest_exponent-exponent : goal.returns-then-largest_exponent-exponent
returns-then-largest_exponent-exponent c =
    let e = c.largest_exponent.ensures in
    rw (too_deep c.args.bytes.now ((let sized' : let n = length c.args.bytes.now in n ≡ length_of (kind_of n) = length_is _ (sym c.is_length.ensures ∙ not-false _ c.if-not-is_length.false-raw) in sized')) (omega (arith, c.if-largest_exponent-exponent.true))) (refl, omega arith)

pub cut_operator-requires : goal.cut_operator-requires
cut_operator-requires c =
    let f = range_most _ ((let formed' : InForm c.args.bytes.now = record { size = (let sized' : let n = length c.args.bytes.now in n ≡ length_of (kind_of n) = length_is _ (sym c.is_length.ensures ∙ not-false _ c.if-not-is_length.false-raw) in sized'); range = let e = c.largest_exponent.ensures in omega (arith, c.if-largest_exponent-exponent.false) } in formed')) in
    (f, rw c.decode-matrix.ensures (file_bounded _ (λ i. (c.shared_slice_known-2-1.given i).fits)))

pub returns : goal.returns
returns c =
    let f = (let formed' : InForm c.args.bytes.now = record { size = (let sized' : let n = length c.args.bytes.now in n ≡ length_of (kind_of n) = length_is _ (sym c.is_length.ensures ∙ not-false _ c.if-not-is_length.false-raw) in sized'); range = let e = c.largest_exponent.ensures in omega (arith, c.if-largest_exponent-exponent.false) } in formed') in
    let b = c.args.bytes.now in
    rw (in_form b f)
    (subst (λ m. CutAs (entries_refusal (operator (file_exponent b) (entry m))) (file_exponent b) m (numbered c.cut_operator.result)) c.decode-matrix.ensures c.cut_operator.ensures)
