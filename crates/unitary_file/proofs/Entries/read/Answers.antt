use mathlib.Core.Path.{refl, sym, ap, ◌∙◌}
use native.Mathlib.Omega.{arith}
use lib.ListN.{get_or}
use Rattle.unitary.specs.Unitary.{matrix_of}
use Rattle.unitary_file.specs.Unitary.{is_small, is_unitary}
use Rattle.unitary_file.specs.Laws.Reading.{wrong_length, wrong_exponent, entry_too_large, not_unitary, taken_in, refused_as, entries_narrow}
use Rattle.unitary_file.proofs.Entries.read.Goals.{then-bytes-ne-UNITARY_LENGTH-via-then-bytes-ne-UNITARY_LENGTH, then-bytes-ne-UNITARY_LENGTH-via-else-bytes-ne-UNITARY_LENGTH+then-bytes-gt-LARGEST_UNITARY}
use Rattle.unitary_file.proofs.Entries.read.Goals as goal

pub returns-then-bytes-ne-UNITARY_LENGTH : goal.returns-then-bytes-ne-UNITARY_LENGTH
returns-then-bytes-ne-UNITARY_LENGTH c = elim c.then-bytes-ne-UNITARY_LENGTH.branch [
  | then-bytes-ne-UNITARY_LENGTH-via-then-bytes-ne-UNITARY_LENGTH w ↦ refused_as _ _ (wrong_length _ w.if-bytes-ne-UNITARY_LENGTH.true) (omega arith)
  | then-bytes-ne-UNITARY_LENGTH-via-else-bytes-ne-UNITARY_LENGTH+then-bytes-gt-LARGEST_UNITARY w ↦ refused_as _ _ (wrong_exponent _ w.if-bytes-ne-UNITARY_LENGTH.false w.if-bytes-gt-LARGEST_UNITARY.true) (omega arith)
]

pub invariant_of-read : goal.invariant_of-read
invariant_of-read c =
    record { in_range = omega arith; narrow = rw c.decode.ensures (entries_narrow _ (λ i. (c.type_inv.bytes i).fits)) }

pub returns-then-not-is_small : goal.returns-then-not-is_small
returns-then-not-is_small c =
    let k = get_or c.args.bytes.now 0 0 in
    let small = sym (c.is_small.ensures ∙ ap (λ n. is_small k (matrix_of n)) c.decode.ensures) ∙ c.if-not-is_small.true in
    refused_as _ _ (entry_too_large _ c.if-bytes-ne-UNITARY_LENGTH.false c.if-bytes-gt-LARGEST_UNITARY.false small) (omega arith)

pub returns-then-not-is_unitary : goal.returns-then-not-is_unitary
returns-then-not-is_unitary c =
    let k = get_or c.args.bytes.now 0 0 in
    let small = sym (c.is_small.ensures ∙ ap (λ n. is_small k (matrix_of n)) c.decode.ensures) ∙ c.if-not-is_small.false in
    let unitary = sym (c.is_unitary.ensures ∙ ap (λ n. is_unitary k (matrix_of n)) c.decode.ensures) ∙ c.if-not-is_unitary.true in
    refused_as _ _ (not_unitary _ c.if-bytes-ne-UNITARY_LENGTH.false c.if-bytes-gt-LARGEST_UNITARY.false small unitary) (omega arith)

pub returns : goal.returns
returns c =
    let k = get_or c.args.bytes.now 0 0 in
    let small = sym (c.is_small.ensures ∙ ap (λ n. is_small k (matrix_of n)) c.decode.ensures) ∙ c.if-not-is_small.false in
    let unitary = sym (c.is_unitary.ensures ∙ ap (λ n. is_unitary k (matrix_of n)) c.decode.ensures) ∙ c.if-not-is_unitary.false in
    (taken_in _ c.if-bytes-ne-UNITARY_LENGTH.false c.if-bytes-gt-LARGEST_UNITARY.false small unitary, record { exponent = refl; entries = c.decode.ensures })
