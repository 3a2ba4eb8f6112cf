-- An accepted file's normal form, as the code holds it, and what its sheet and its gate list are.
use Rattle.std.specs.Prelude.{◌≡◌, refl, true, ◌≢◌, ℕ, ◌+◌, ◌*◌, ◌-◌, ◌<◌, ◌≤◌, length, take, replicate, Result, Ok, Err}
use Rattle.refusal.specs.Refusal.{refusal_of}
use Rattle.std.proofs.Math.Path.{sym, ap, ap₂, subst}
use Rattle.std.proofs.Common.{◌∙◌, ⊎_elim, arith, take_at}
use mathlib.Core.List.{List, ◌++◌, map}
use Rattle.std.proofs.Math.Nat.{zero-add}
use Rattle.std.proofs.Math.ListN.{drop}
use Rattle.std.proofs.lemmas.List.{length-map}
use Rattle.matrix.specs.Matrix.{entry}
use Rattle.matrix.specs.Operator.{SameOperator}
use Rattle.matrix.specs.Laws.Array.{least_form_lem}
use borrow.Author.Tests.{eq-eqb, ne_eqb, lt-ltb, le-ltb}
use Rattle.file.specs.File.{written, largest_exponent, file_exponent, file_matrix, file_operator}
use Rattle.clifford.specs.Columns.{are_column_bytes}
use Rattle.clifford.specs.Laws.Columns.{matrix_permutation, permutation_complete, columns_valid}
use Rattle.reduction.specs.Reduction.{remaining}
use Rattle.reduction.specs.Laws.NormalForm.{Cutting, cutting}
use Rattle.letter.specs.Gate.{letter}
use Rattle.letter.specs.Written.{Written}
use Rattle.gate_list.specs.List.{gate_list, list_sign, list_of, sign_of_list}
use Rattle.gate_list.specs.Promise.{ListFor}
use Rattle.gate_list.specs.Laws.List.{list_of_lem}
use Rattle.sheet_bytes.specs.Bytes.{shortest, sheet_bytes, sheet, sheet_operator}
use Rattle.sheet_bytes.specs.Laws.Sheet.{length_sheet, sheet_back}
use Rattle.sheet_bytes.specs.Laws.Count.{sheet_first}
use Rattle.operator.specs.declared.Cuts.{Cuts}
use Rattle.reduction.specs.declared.Cut.{Cut}
use Rattle.acceptance.specs.Acceptance.{file_refusal}
use Rattle.acceptance.specs.Cutting.{file_count, file_loose, file_numbers, file_columns, CutOf}
use Rattle.operator.specs.Promise.{ExactlyRefused, file_sheet, sheet_answer, sheet_buffer, SheetPromise, GatesPromise}
use Rattle.acceptance.specs.Laws.Acceptance.{accepted, range_most}
use Rattle.operator.specs.Laws.Exactly.{exactly_refused, exactly_accepted}

module _ (b : List ℕ) (z : file_refusal b ≡ 0) where
  pub file_cutting : Cutting (file_exponent b) (file_matrix b)
  file_cutting = cutting (file_exponent b) (file_matrix b) (accepted b z).entries.orthogonal

  pub count_small : file_count b ≤ largest_exponent
  count_small = let h = (least_form_lem (file_exponent b) (file_matrix b)).below in let r = range_most b (accepted b z).form in omega arith

  pub columns_bytes : are_column_bytes (file_columns b) ≡ true
  columns_bytes = columns_valid (file_columns b) (permutation_complete (file_columns b) (matrix_permutation (entry (remaining (file_exponent b) (file_matrix b))) file_cutting.orthogonal))

  pub sheet_length : length (file_sheet b) ≡ file_count b + shortest
  sheet_length = length_sheet (file_exponent b) (file_matrix b) (accepted b z).entries.orthogonal

  -- the sheet's generators in order, times its Clifford, times the sign are the operator
  pub sheet_multiplies : SameOperator (sheet_operator (file_sheet b)) (file_operator b)
  sheet_multiplies = sheet_back (file_exponent b) (file_matrix b) (accepted b z).entries.orthogonal

-- what the code holds
pub record Ready (b : List ℕ) (r : Cut) : Type 0 where
  pub accepted : file_refusal b ≡ 0
  pub count : r.count ≡ file_count b
  pub loose : r.loose ≡ file_loose b
  pub numbers : take r.count r.numbers ≡ file_numbers b
  pub columns : r.columns ≡ file_columns b
  pub bytes : sheet_bytes (take r.count r.numbers) r.columns ≡ file_sheet b
  pub long : length (file_sheet b) ≡ r.count + shortest

pub ready : (b : List ℕ) (r : Cut) → CutOf b (Ok r) → Ready b r
unfolding sheet
ready b r (z, c) =
    let t : r.count ≡ file_count b = c.count in
    let n : take r.count r.numbers ≡ file_numbers b =
    ap₂ take t c.numbers ∙ take_at (file_numbers b) (replicate (60 - file_count b) 0) (file_count b) (file_cutting b z).exact in
    record {
      accepted = z;
      count = t;
      loose = c.loose;
      numbers = n;
      columns = c.columns;
      bytes = ap₂ sheet_bytes n c.columns;
      long = sheet_length b z ∙ ap (λ x. x + shortest) (sym t);
    }

-- ---- the ways out of the two calls

module _ (b old : List ℕ) where
  sheet_as : {new : List ℕ} {a : Result Cuts ℕ} → a ≡ sheet_answer b (length old) → new ≡ sheet_buffer b old → ExactlyRefused b (refusal_of a) → SheetPromise b old new a
  sheet_as p q x = record {
    answer = p;
    buffer = q;
    multiplies = λ z. sheet_multiplies b z;
    least = λ z. (file_cutting b z).least;
    exact = λ z. sheet_length b z;
    stated = λ z. sheet_first (file_exponent b) (file_matrix b) (accepted b z).entries.orthogonal;
    exactly = x;
  }

  -- an accepted file's answers: no room, and none
  six : file_refusal b ≡ 0 → ExactlyRefused b 6
  six z = exactly_accepted b 6 z (λ f. ⊎_elim (λ x. omega arith) (λ y. ⊎_elim (λ x. omega arith) (λ x. omega arith) y) f)

  none : file_refusal b ≡ 0 → ExactlyRefused b 0
  none z = exactly_refused b 0 (sym z)

  -- the file is refused
  module _ (n : ℕ) (c : CutOf b (Err n)) where
    still_refused : file_refusal b ≢ 0
    still_refused z = let h = c.1 in omega arith

    pub sheet_refused_lem : SheetPromise b old old (Err n)
    unfolding sheet_answer sheet_buffer
    sheet_refused_lem =
        let t = ne_eqb (file_refusal b) 0 still_refused in
        sheet_as (rw t (ap Err c.0)) (rw t) (exactly_refused b n c.0)

    pub gates_refused : GatesPromise b old old (Err n)
    gates_refused = record {
      refused = λ x. (ap Err c.0, refl);
      no_room = λ z l. absurd (still_refused z);
      handed = λ z l. absurd (still_refused z);
      exactly = exactly_refused b n c.0;
    }

  -- the code holds r
  module _ (r : Cut) (c : CutOf b (Ok r)) where
    pub sheet_no_room : length old < r.count + shortest → SheetPromise b old old (Err 6)
    unfolding sheet_answer sheet_buffer
    sheet_no_room h =
        let y = ready b r c in
        let t = eq-eqb (file_refusal b) 0 y.accepted in
        let l = lt-ltb (length old) (length (file_sheet b)) (rw y.long h) in
        sheet_as (rw (t, l)) (rw (t, l)) (six y.accepted)

    pub sheet_done : (new : List ℕ) → r.count + shortest ≤ length old → new ≡ written old (sheet_bytes (take r.count r.numbers) r.columns)
        → SheetPromise b old new (Ok (record { count = r.count; loose = r.loose }))
    unfolding sheet_answer sheet_buffer
    sheet_done new h n =
        let y = ready b r c in
        let t = eq-eqb (file_refusal b) 0 y.accepted in
        let l = le-ltb (length old) (length (file_sheet b)) (rw y.long h) in
        sheet_as (rw (t, l) (ap₂ (λ x z. Ok (record { count = x; loose = z })) y.count y.loose)) (rw (t, l) (n ∙ ap (written old) y.bytes)) (none y.accepted)

    pub gates_no_room : length old < 256 * (r.count + 1) → GatesPromise b old old (Err 6)
    gates_no_room h =
        let y = ready b r c in
        let t = y.count in
        record {
          refused = λ n. absurd (n y.accepted);
          no_room = λ z l. (refl, refl);
          handed = λ z l. absurd (omega arith);
          exactly = six y.accepted;
        }

    pub gates_done : (new : List ℕ) (n s : ℕ) → 256 * (r.count + 1) ≤ length old → Written (gate_list (take r.count r.numbers) r.columns) 0 old new n
        → s ≡ list_sign (take r.count r.numbers) r.columns → GatesPromise b old new (Ok (record { count = r.count; letters = n; loose = r.loose; sign = s }))
    unfolding written
    gates_done new n s h k q =
        let y = ready b r c in
        let t = y.count in
        let a = (accepted b y.accepted).entries in
        let g = list_of_lem (file_exponent b) (file_matrix b) a.orthogonal a.proper in
        let w = list_of (file_exponent b) (file_matrix b) in
        let v : Written w 0 old new n = subst (λ x. Written x 0 old new n) (ap₂ gate_list y.numbers y.columns) k in
        let f : sign_of_list (file_exponent b) (file_matrix b) ≡ s = sym (q ∙ ap₂ list_sign y.numbers y.columns) in
        record {
          refused = λ n. absurd (n y.accepted);
          no_room = λ z l. absurd (omega arith);
          handed = λ z l. (
            w,
            s,
            record {
              buffer = v.buffer ∙ ap (λ x. map letter w ++ drop x old) (zero-add (length w) ∙ sym (length-map w letter));
              answer = let e = v.next ∙ zero-add (length w) in cc (t, e, y.loose);
              list = subst (ListFor (file_operator b) (file_count b) w) f g;
              form_list = refl;
            },
          );
          exactly = none y.accepted;
        }
