-- What is true of the list of short sheets.
use Rattle.std.specs.Prelude.{◌≡◌, refl, List, ℕ, ◌≤◌, length}
use Rattle.std.proofs.Common.{sym, ap, ◌∙◌, subst, arith}
use Rattle.matrix.specs.Operator.{Operator, operator, times_operator, SameOperator, ProperOrthogonal}
use Rattle.matrix.specs.Laws.Operator.{same_operator_refl, same_operator_sym, same_operator_trans, same_operator_of, times_same, same_orthogonal, same_proper_orthogonal}
use Rattle.matrix.specs.Laws.Inverse.{cancel_left}
use Rattle.sheet_bytes.specs.Bytes.{sheet_numbers, sheet_operator}
use Rattle.sheet.specs.Laws.Sheet.{accepted}
use Rattle.round_trip.specs.Laws.Back.{sheet_proper}
use Rattle.count.specs.Count.{count_of}
use Rattle.count.specs.Laws.Group.{group_laws}
use Rattle.short_sheet.specs.Short.{Plain, plain_bytes, Factored, ShortLaws}
use Rattle.short_sheet.specs.Laws.Taken.{taken_of, taken_same, taken_times, remaining_of, taken_numbers, taken_product, taken_clifford, taken_again}
use Rattle.short_sheet.specs.Laws.Plain.{plain_numbers, read_plain, plain_operator, read_taken, plain_bytes_lem, sheet_product, plain_read}
use Rattle.short_sheet.specs.Laws.List.{in_plain, in_short}

-- ---- every operator of count at most 2 is such a product

factored : {A : Operator} → ProperOrthogonal A → count_of A ≤ 2 → (s : List ℕ) × (C : Operator) × Factored A s C
factored {A} p h =
    let gs = taken_of A in
    let o = p.orthogonal in
    let z = (plain_read gs (taken_numbers o) (omega arith)).1 (taken_again o) in
    let l = ap length (plain_numbers gs) in
    let C = operator 0 (remaining_of A) in (
      plain_bytes gs,
      C,
      record {
        listed = (in_short (plain_bytes gs)).1 (read_plain gs z, omega arith);
        clifford = taken_clifford o p.proper;
        same = same_operator_trans (taken_product o) (times_same (same_operator_sym (plain_operator gs)) (same_operator_refl C));
      },
    )

-- ---- in one way

module _ {A C : Operator} {s : List ℕ} (f : Factored A s C) where
  is_plain : Plain s
  is_plain = ((in_short s).0 f.listed).0

  product_proper : ProperOrthogonal (sheet_operator s)
  product_proper = sheet_proper s (accepted s is_plain.read)

  proper : ProperOrthogonal A
  proper = same_proper_orthogonal (same_operator_sym f.same) (group_laws.product_closed product_proper (group_laws.clifford_proper f.clifford))

  -- cutting takes the sheet's numbers, since no Clifford on the right changes what it takes
  taken_is : taken_of A ≡ sheet_numbers s
  taken_is =
      let c : SameOperator C (operator 0 C.matrix) = same_operator_of C (operator 0 C.matrix) f.clifford.exponent_zero (λ i j hi hj. refl) in
      taken_same proper.orthogonal (same_operator_trans f.same (times_same (same_operator_refl (sheet_operator s)) c))
      ∙ taken_times product_proper.orthogonal C.matrix (same_orthogonal c (group_laws.clifford_proper f.clifford).orthogonal)
      ∙ read_taken s is_plain.read

unique : {A C D : Operator} {s t : List ℕ} → Factored A s C → Factored A t D → (s ≡ t) × SameOperator C D
unique {A} {C} {D} {s} {t} f g =
    let e : s ≡ t = plain_bytes_lem (is_plain f) ∙ ap plain_bytes (sym (taken_is f) ∙ taken_is g) ∙ sym (plain_bytes_lem (is_plain g)) in (
      e,
      cancel_left (product_proper f).orthogonal
          (same_operator_trans (same_operator_sym f.same) (subst (λ x. SameOperator A (times_operator (sheet_operator x) D)) (sym e) g.same)),
    )

pub short_laws : ShortLaws
short_laws = record {
  plain = in_plain;
  short = in_short;
  product = sheet_product;
  factored = factored;
  unique = unique;
  counted = λ f. (proper f, ap length (taken_is f));
}
