-- "Both kinds of a small operator give one result" (document 02, P10): files whose operators stand for the same matrix, each of either kind and
-- with an exponent of its own, earn the same refusal, or have the same sheet, count, L, list and sign; and so the calls answer and write the same.
use Rattle.std.proofs.Math.Bool.{cond}
use Rattle.std.specs.Prelude.{◌≡◌, ◌≢◌, List, map, ℕ, ◌+◌, ◌*◌, ◌<◌, ◌≤◌, ltb, ℤ, length, Result, Ok, Err}
use Rattle.std.proofs.Math.Path.{refl, ap₂}
use Rattle.std.proofs.Common.{sym, ap, subst, ◌∙◌, inl, arith}
use Rattle.std.proofs.Math.Decide.{ℕ_discrete, dec_lt}
use borrow.Author.Tests.{eq-eqb, ne_eqb}
use Rattle.matrix.specs.Matrix.{entry}
use Rattle.matrix.specs.Operator.{operator, SameOperator, Orthogonal}
use Rattle.matrix.specs.Laws.Operator.{same_operator_refl, same_operator_sym, same_operator_trans}
use Rattle.clifford.specs.Columns.{times_sign}
use Rattle.clifford.specs.Laws.Sign.{sign_same}
use Rattle.file.specs.File.{short_file, long_file, short_exponent, file_exponent, file_matrix, file_operator, InForm, file_as, written}
use Rattle.file.specs.Laws.File.{length_file_matrix, in_form_as, operator_as, kind_fits}
use Rattle.letter.specs.declared.Gate.{Gate}
use Rattle.letter.specs.Gate.{letter}
use Rattle.gate.specs.Product.{MultipliesTo}
use Rattle.gate_list.specs.List.{list_of}
use Rattle.acceptance.specs.Acceptance.{file_refusal}
use Rattle.acceptance.specs.Cutting.{file_count, file_loose}
use Rattle.acceptance.specs.Laws.Acceptance.{accepted, in_form, same_entries}
use Rattle.sheet_bytes.specs.Laws.Sheet.{same_sheet}
use Rattle.operator.specs.declared.Cuts.{Cuts}
use Rattle.operator.specs.declared.Listed.{Listed}
use Rattle.operator.specs.Promise.{file_sheet, sheet_answer, sheet_buffer, SheetPromise, Handed, GatesPromise}
use Rattle.operator.specs.Laws.Negative.{same_count, same_loose, same_letters}

module _ (b c : List ℕ) (f : InForm b) (g : InForm c) (h : SameOperator (file_operator b) (file_operator c)) where
  pub one_refusal : file_refusal b ≡ file_refusal c
  one_refusal = in_form b f ∙ same_entries h ∙ sym (in_form c g)

  module _ (z : file_refusal b ≡ 0) where
    other : file_refusal c ≡ 0
    other = sym one_refusal ∙ z

    pub one_sheet : file_sheet b ≡ file_sheet c
    one_sheet =
        same_sheet (file_exponent b) (file_exponent c) (file_matrix b) (file_matrix c) (length_file_matrix b) (length_file_matrix c) (accepted b z).entries.orthogonal (accepted c other).entries.orthogonal h

    pub one_count : file_count b ≡ file_count c
    one_count =
        same_count (file_exponent b) (file_exponent c) (file_matrix b) (file_matrix c) (length_file_matrix b) (length_file_matrix c) (accepted b z).entries.orthogonal (accepted c other).entries.orthogonal (inl h)

    pub one_loose : file_loose b ≡ file_loose c
    one_loose =
        same_loose (file_exponent b) (file_exponent c) (file_matrix b) (file_matrix c) (length_file_matrix b) (length_file_matrix c) (accepted b z).entries.orthogonal (accepted c other).entries.orthogonal (inl h)

    pub one_list : list_of (file_exponent b) (file_matrix b) ≡ list_of (file_exponent c) (file_matrix c)
    one_list =
        let a = (accepted c other).entries in
        same_letters (file_exponent b) (file_exponent c) (file_matrix b) (file_matrix c) (length_file_matrix b) (length_file_matrix c) (accepted b z).entries.orthogonal a.orthogonal a.proper (inl h)

  -- ---- the call for a sheet

  one_answer : (n : ℕ) → sheet_answer b n ≡ sheet_answer c n
  unfolding sheet_answer
  one_answer n = elim (ℕ_discrete (file_refusal b) 0) [
    | yes z ↦
        rw (eq-eqb (file_refusal b) 0 z, eq-eqb (file_refusal c) 0 (other z))
        (ap (λ s. cond (ltb n (length s)) (Err 6) (Ok (record { count = file_count b; loose = file_loose b }))) (one_sheet z)
        ∙ ap₂ (λ t l. cond (ltb n (length (file_sheet c))) (Err 6) (Ok (record { count = t; loose = l }))) (one_count z) (one_loose z))
    | no x ↦ rw (ne_eqb (file_refusal b) 0 x, ne_eqb (file_refusal c) 0 (λ z. x (one_refusal ∙ z))) (ap Err one_refusal)
  ]

  one_buffer : (old : List ℕ) → sheet_buffer b old ≡ sheet_buffer c old
  unfolding sheet_buffer
  one_buffer old = elim (ℕ_discrete (file_refusal b) 0) [
    | yes z ↦ rw (eq-eqb (file_refusal b) 0 z, eq-eqb (file_refusal c) 0 (other z), one_sheet z) refl
    | no x ↦ rw (ne_eqb (file_refusal b) 0 x, ne_eqb (file_refusal c) 0 (λ z. x (one_refusal ∙ z))) refl
  ]

  pub one_result_sheet : (old new new' : List ℕ) (a a' : Result Cuts ℕ) → SheetPromise b old new a → SheetPromise c old new' a' → (a ≡ a') × (new ≡ new')
  one_result_sheet old new new' a a' p q = (p.answer ∙ one_answer (length old) ∙ sym q.answer, p.buffer ∙ one_buffer old ∙ sym q.buffer)

  -- ---- the call for a gate list

  module _ (old new new' : List ℕ) (a a' : Result Listed ℕ) (p : GatesPromise b old new a) (q : GatesPromise c old new' a') where
    refused : file_refusal b ≢ 0 → (a ≡ a') × (new ≡ new')
    refused x =
        let (e, n) = p.refused x in
        let (e', n') = q.refused (λ z. x (one_refusal ∙ z)) in
        (e ∙ ap Err one_refusal ∙ sym e', n ∙ sym n')

    no_room : (z : file_refusal b ≡ 0) → length old < 256 * (file_count b + 1) → (a ≡ a') × (new ≡ new')
    no_room z l =
        let (e, n) = p.no_room z l in
        let (e', n') = q.no_room (other z) (subst (λ t. length old < 256 * (t + 1)) (one_count z) l) in
        (e ∙ sym e', n ∙ sym n')

    -- the sign follows from the letters
    handed : (z : file_refusal b ≡ 0) (v w : List Gate) (s r : ℕ) → Handed b old new a v s → Handed c old new' a' w r → (a ≡ a') × (new ≡ new')
    handed z v w s r x y =
        let e : w ≡ v = y.form_list ∙ sym (one_list z) ∙ sym x.form_list in
        let m : MultipliesTo w (times_sign r (file_operator b)) = record { same = same_operator_trans y.list.multiplies.same (sign_same r (same_operator_sym h)) } in
        let k : r ≡ s = x.list.follows r y.list.small (subst (λ u. MultipliesTo u (times_sign r (file_operator b))) e m) in
        let t = one_count z in
        let l = one_loose z in
        let i = x.answer in
        let j = y.answer in
        (cc, x.buffer ∙ ap (λ u. written old (map letter u)) (sym e) ∙ sym y.buffer)

    pub one_result_gates : (a ≡ a') × (new ≡ new')
    one_result_gates = elim (ℕ_discrete (file_refusal b) 0) [
      | no x ↦ refused x
      | yes z ↦ elim (dec_lt (length old) (256 * (file_count b + 1))) [
        | yes l ↦ no_room z l
        | no l ↦
            let (v, s, x) = p.handed z (omega arith) in
            let (w, r, y) = q.handed (other z) (let t = one_count z in omega arith) in
            handed z v w s r x y
      ]
    ]

-- ---- the two files of a small operator

module _ (k : ℕ) (m : List ℤ) (l : length m ≡ 36) (h : k ≤ short_exponent) (o : Orthogonal (operator k (entry m))) where
  pub short_in_form : InForm (file_as short_file k m)
  short_in_form = in_form_as short_file k m h

  pub long_in_form : InForm (file_as long_file k m)
  long_in_form = in_form_as long_file k m (omega arith)

  pub both_kinds : SameOperator (file_operator (file_as short_file k m)) (file_operator (file_as long_file k m))
  both_kinds =
      subst (λ A. SameOperator A (file_operator (file_as long_file k m))) (sym (operator_as short_file k m (kind_fits short_file k m h o) l))
      (subst (SameOperator (operator k (entry m))) (sym (operator_as long_file k m (kind_fits long_file k m (omega arith) o) l)) (same_operator_refl (operator k (entry m))))
