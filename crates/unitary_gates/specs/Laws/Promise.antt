-- The normal form of an accepted unitary's form, as the code holds it, and the ways out of the call.
use Rattle.std.specs.Prelude.{◌≡◌, refl, true, ◌≢◌, ℕ, ◌+◌, ◌*◌, ◌-◌, ◌<◌, ◌≤◌, replicate, Ok, Err}
use Rattle.std.proofs.Math.Path.{sym, ap, subst}
use Rattle.std.proofs.Common.{ap₂, ◌∙◌, inl, ⊎_elim, arith, length-append}
use mathlib.Core.List.{List, ◌++◌, map}
use Rattle.std.proofs.Math.Nat.{zero-add}
use Rattle.std.proofs.Math.ListN.{length, take, drop}
use Rattle.std.proofs.lemmas.List.{length-map}
use Rattle.std.proofs.Math.Seq.{take_at}
use Rattle.matrix.specs.Matrix.{entry, listed}
use Rattle.matrix.specs.Operator.{operator, SameUpToSign, Orthogonal}
use Rattle.matrix.specs.Laws.Operator.{same_operator_sym, same_orthogonal, negative_orthogonal}
use Rattle.matrix.specs.Laws.Array.{length_listed, least_form_lem, listed_same}
use Rattle.matrix.specs.declared.Scaled.{Scaled}
use Rattle.clifford.specs.Columns.{are_column_bytes}
use Rattle.clifford.specs.Laws.Columns.{matrix_permutation, permutation_complete, columns_valid}
use Rattle.clifford.specs.Laws.Sign.{up_trans}
use Rattle.reduction.specs.Reduction.{count, taken, remaining}
use Rattle.reduction.specs.Laws.NormalForm.{Numbers, cutting}
use Rattle.file.specs.File.{written}
use Rattle.letter.specs.declared.Gate.{Gate}
use Rattle.letter.specs.Gate.{letter}
use Rattle.letter.specs.Written.{Written}
use Rattle.gate_list.specs.List.{gate_list}
use Rattle.reduction.specs.declared.Cut.{Cut}
use Rattle.acceptance.specs.Cutting.{CutFrom}
use Rattle.operator.specs.Laws.Negative.{same_count, same_loose}
use Rattle.unitary.specs.Unitary.{Quotient, quotient, Unitary, matrix_of}
use Rattle.unitary.specs.Form.{form_of}
use Rattle.unitary.specs.Laws.Exact.{form}
use Rattle.omega.specs.Modular.{power_of}
use Rattle.unitary_file.specs.declared.Entries.{Entries}
use Rattle.unitary_file.specs.Unitary.{largest_unitary, unitary_of, unitary_refusal}
use Rattle.unitary_file.specs.Reading.{ReadAs, unitary_in}
use Rattle.unitary_file.specs.Laws.Accepted.{accepted}
use Rattle.six_form.specs.Places.{FormAs}
use Rattle.unitary_gates.specs.Promise.{form_count, form_loose, form_list, UnitaryList, UnitaryPromise}
use Rattle.unitary_gates.specs.Laws.List.{array_orthogonal, unitary_list, form_count_small, list_of_form}
use Rattle.unitary_gates.specs.Laws.Exactly.{exactly_refused, exactly_accepted}

-- ---- the form that was computed, and its normal form

module _ (U : Quotient) (o : Unitary U) (f : Scaled) (a : FormAs U f) where
  abbrev k : ℕ
  k = f.exponent

  pub computed_orthogonal : Orthogonal (operator k (entry f.matrix))
  computed_orthogonal = ⊎_elim (λ h. same_orthogonal (same_operator_sym h) (form U o).orthogonal) (λ h. same_orthogonal (same_operator_sym h) (negative_orthogonal (form U o).orthogonal)) a.same

  same : SameUpToSign (operator k (entry f.matrix)) (operator (form_of U).exponent (entry (listed (form_of U).matrix)))
  same = up_trans a.same (inl (listed_same (form_of U)))

  -- what the code holds of it
  pub record Held (c : Cut) : Type 0 where
    pub count : c.count ≡ form_count U
    pub loose : c.loose ≡ form_loose U
    pub small : c.count ≤ 2 * U.exponent + 2
    pub numbers : Numbers (take c.count c.numbers)
    pub columns : are_column_bytes c.columns ≡ true
    pub list : gate_list (take c.count c.numbers) c.columns ≡ form_list U

  pub held : (c : Cut) → CutFrom k f.matrix c → Held c
  held c t =
      let m = f.matrix in
      let q = cutting k m computed_orthogonal in
      let l = length_listed (form_of U).matrix in
      let n : take c.count c.numbers ≡ taken k m = ap₂ take (t.count) (t.numbers) ∙ take_at (taken k m) (replicate (60 - count k m) 0) (count k m) q.exact in
      record {
        count = t.count ∙ same_count k (form_of U).exponent m (listed (form_of U).matrix) a.long l computed_orthogonal (array_orthogonal U o) same;
        loose = t.loose ∙ same_loose k (form_of U).exponent m (listed (form_of U).matrix) a.long l computed_orthogonal (array_orthogonal U o) same;
        small = let h = (least_form_lem k m).below in let e = t.count in let s = a.small in omega arith;
        numbers = rw n q.numbers;
        columns = rw (t.columns) (columns_valid _ (permutation_complete _ (matrix_permutation (entry (remaining k m)) q.orthogonal)));
        list = ap₂ gate_list n (t.columns) ∙ list_of_form U o k m a.long computed_orthogonal a.same;
      }

-- the letters that are written stand in the buffer
pub written_fits : (w : List Gate) (old new : List ℕ) (n : ℕ) → Written w 0 old new n → n ≤ length new
written_fits w old new n k =
    let e = ap length k.buffer ∙ length-append (map letter w) (drop (0 + length w) old) in
    let f = length-map w letter in
    let g = k.next in
    omega arith

-- ---- the ways out of the call

module _ (b old : List ℕ) where
  pub unitary_refused : (n : ℕ) → ReadAs b (Err n) → UnitaryPromise b old old (Err n)
  unitary_refused n p =
      let h : unitary_refusal b ≢ 0 = λ z. let l = p.1 in omega arith in
      record {
        refused = λ x. (ap Err p.0, refl);
        no_room = λ z l. absurd (h z);
        handed = λ z l. absurd (h z);
        exactly = exactly_refused b n p.0;
      }

  -- the code holds r
  module _ (r : Entries) (p : ReadAs b (Ok r)) where
    none : unitary_refusal b ≡ 0
    none = p.0

    abbrev W : Quotient
    W = unitary_in r

    is : W ≡ unitary_of b
    is = ap₂ (λ k n. quotient k (matrix_of n)) p.1.exponent p.1.entries

    pub is_unitary_lem : Unitary W
    is_unitary_lem = rw is (accepted b none).unitary

    module _ (f : Scaled) (a : FormAs W f) (c : Cut) (t : CutFrom f.exponent f.matrix c) where
      what : Held W is_unitary_lem f a c
      what = held W is_unitary_lem f a c t

      count_is : c.count ≡ form_count (unitary_of b)
      count_is = what.count ∙ ap form_count is

      pub unitary_no_room : length old < 256 * (c.count + 1) → UnitaryPromise b old old (Err 6)
      unitary_no_room h =
          let x = count_is in
          record {
            refused = λ n. absurd (n none);
            no_room = λ z l. (refl, refl);
            handed = λ z l. absurd (omega arith);
            exactly = exactly_accepted b 6 none (λ g. ⊎_elim (λ x. omega arith) (λ x. omega arith) g);
          }

      pub unitary_done : (new : List ℕ) (n q : ℕ) → 256 * (c.count + 1) ≤ length old → Written (gate_list (take c.count c.numbers) c.columns) 0 old new n
          → ((w : List Gate) → take n new ≡ map letter w → q ≡ power_of W w) → UnitaryPromise b old new (Ok (record { count = c.count; letters = n; loose = c.loose; power = q }))
      unfolding written
      unitary_done new n q h k power =
          let x = count_is in
          let w = form_list W in
          let v : Written w 0 old new n = subst (λ x. Written x 0 old new n) what.list k in
          let next : n ≡ length w = v.next ∙ zero-add (length w) in
          let buffer : new ≡ written old (map letter w) = v.buffer ∙ ap (λ x. map letter w ++ drop x old) (zero-add (length w) ∙ sym (length-map w letter)) in
          let front : take n new ≡ map letter w = ap (take n) buffer ∙ take_at (map letter w) (drop (length (map letter w)) old) n (length-map w letter ∙ sym next) in
          let l = unitary_list W is_unitary_lem q (power w front) in
          record {
            refused = λ n. absurd (n none);
            no_room = λ z l. absurd (omega arith);
            handed = λ z y. (
              w,
              q,
              record {
                buffer = buffer;
                answer = let y = what.loose ∙ ap form_loose is in cc (x, next, y);
                list = subst (λ U. UnitaryList U w q) is l;
              },
            );
            exactly = exactly_refused b 0 (sym none);
          }

-- room for every list
pub count_small : (b : List ℕ) → unitary_refusal b ≡ 0 → form_count (unitary_of b) ≤ 2 * largest_unitary + 2
count_small b z = let a = accepted b z in let h = form_count_small (unitary_of b) a.unitary in let r = a.range in omega arith
