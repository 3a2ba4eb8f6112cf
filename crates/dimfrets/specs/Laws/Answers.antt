-- What the calls answer has room in the word: no refusal is numbered 0, no gate list has 2^16 letters, and no bundle or text 2^24 bytes.
use Rattle.std.specs.Prelude.{Bool, true, false, cond, ◌||◌, ◌≢◌, ◌⊎◌, ◌≡◌, refl, ℕ, ◌+◌, ◌*◌, ◌^◌, ◌<◌, ◌≤◌, eqb, ltb, length, Option, Some, None, Result, Ok, Err}
use mathlib.Core.List.{List, [], ◌∷◌, ◌++◌, map}
use Rattle.std.proofs.Common.{inl, inr, sym, ap, ◌∙◌, arith, eqb-true}
use Rattle.std.proofs.Math.Decide.{ℕ_discrete, dec_lt}
use Rattle.std.proofs.lemmas.Bool.{eqb-false}
use Rattle.refusal.specs.Laws.Refusal.{ok_err, same_err}
use Rattle.file.specs.File.{largest_exponent, length_for}
use Rattle.letter.specs.declared.Gate.{Gate}
use Rattle.letter.specs.Gate.{letter, gate_of}
use Rattle.gate.specs.Reading as reading
use Rattle.operator.specs.declared.Listed.{Listed}
use Rattle.acceptance.specs.Acceptance.{file_refusal}
use Rattle.acceptance.specs.Cutting.{file_count}
use Rattle.operator.specs.Promise.{file_sheet, sheet_answer, GatesPromise}
use Rattle.operator.specs.Laws.Promise.{count_small}
use Rattle.unitary_file.specs.Unitary.{unitary_of, unitary_refusal}
use Rattle.unitary_gates.specs.declared.Synthesis.{Synthesis}
use Rattle.unitary_gates.specs.Promise.{form_count, UnitaryPromise}
use Rattle.unitary_gates.specs.Laws.Promise as unitary
use Rattle.sheet_bytes.specs.Sheet.{sheet_refusal, sheet_least}
use Rattle.sheet.specs.Promise as sheet
use Rattle.order.specs.Order.{largest_spoilage, figure, order_answer}
use Rattle.bundle.specs.Bundle as bundle
use Rattle.bundle_write.specs.Writing.{sheets_refusal, sheets_bundle, bundle_answer}
use Rattle.bundle_write.specs.Laws.Promise.{bundle_small}
use Rattle.qasm.specs.Text.{text_of}
use Rattle.qasm.specs.Reading.{read_letters, read_qasm}
use Rattle.qasm.specs.Promise.{written_answer}
use Rattle.qasm.specs.Laws.Refusals.{writing_refused, text_small, reading_refused, letters_small}
use Rattle.block.specs.Block.{block_count, program_refusal}
use Rattle.layer.specs.Promise.{layer_answer}
use Rattle.answer_word.specs.Encoding.{letters_of, synthesis_letters, bytes_of}

-- an answer with a value for where nothing is refused
module _ {A : Type 0} (done : A) where
  apart : {m n : ℕ} → n ≢ m → ◌≢◌ {A = Result A ℕ} (Err n) (Err m)
  apart h e = h (same_err e)

  none : {n : ℕ} → ◌≢◌ {A = Result A ℕ} (Ok done) (Err n)
  none e = ok_err e

  -- refused with the number n, or not at all
  chosen : (t : Bool) (n : ℕ) → n ≢ 0 → ◌≢◌ {A = Result A ℕ} (cond t (Err n) (Ok done)) (Err 0)
  chosen true n h = apart h
  chosen false n h = none

  -- refused with the number r where it is not 0, and else with 6 for want of room
  refused_or_short : (r : ℕ) (t : Bool) → ◌≢◌ {A = Result A ℕ} (cond (eqb r 0) (cond t (Err 6) (Ok done)) (Err r)) (Err 0)
  refused_or_short r t = by (eqb r 0) (eqb-false r 0)
    where
      by : (z : Bool) → (z ≡ false → r ≢ 0) → ◌≢◌ {A = Result A ℕ} (cond z (cond t (Err 6) (Ok done)) (Err r)) (Err 0)
      by true h = chosen t 6 (λ z. omega arith)
      by false h = apart (h refl)

pub sheet_not_zero : (b : List ℕ) (n : ℕ) → sheet_answer b n ≢ Err 0
unfolding sheet_answer
sheet_not_zero b n = refused_or_short _ (file_refusal b) (ltb n (length (file_sheet b)))

pub sheet_operator_not_zero : (s : List ℕ) (n : ℕ) → sheet.operator_answer s n ≢ Err 0
unfolding sheet.operator_answer
sheet_operator_not_zero s n = refused_or_short _ (sheet_refusal s) (ltb n (length_for (sheet_least s).exponent))

pub layers_not_zero : (b : List ℕ) (n : ℕ) → layer_answer b n ≢ Err 0
unfolding layer_answer
layers_not_zero b n = refused_or_short _ (program_refusal 2 b) (ltb n (block_count 2 b))

pub order_not_zero : (t p : ℕ) → order_answer t p ≢ Err 0
unfolding order_answer
order_not_zero t p = chosen (figure t p) (ltb largest_exponent t || ltb largest_spoilage p) 14 (λ z. omega arith)

-- ---- gate lists read

module _ (n : ℕ) where
  read_on : (t : Bool) (x : ℕ) (y : reading.Reading) → x ≢ 0 → reading.operator_answer n y ≢ Err 0 → reading.operator_answer n (cond t (reading.refusal x) y) ≢ Err 0
  read_on true x y h k = λ e. h (same_err e)
  read_on false x y h k = k

  read_letter_lem : (w : List Gate) (rest : List Gate → reading.Reading) (l : Option Gate) → ((v : List Gate) → reading.operator_answer n (rest v) ≢ Err 0) → reading.operator_answer n (reading.read_letter w rest l) ≢ Err 0
  read_letter_lem w rest None k = λ e. let z = same_err e in omega arith
  read_letter_lem w rest (Some g) k =
      let v = w ++ g ∷ [] in
      read_on (ltb largest_exponent (reading.least_of v).exponent) 9 (rest v) (λ z. omega arith) (k v)

  read_from_lem : (w : List Gate) (bs : List ℕ) → reading.operator_answer n (reading.read_from w bs) ≢ Err 0
  unfolding reading.read_from
  read_from_lem w [] = chosen (reading.least_of w).exponent (ltb n (length_for (reading.least_of w).exponent)) 6 (λ z. omega arith)
  read_from_lem w (b ∷ bs) = read_letter_lem w (λ v. reading.read_from v bs) (gate_of b) (λ v. read_from_lem v bs)

  pub gates_operator_not_zero : (bs : List ℕ) → reading.operator_answer n (reading.reading bs) ≢ Err 0
  unfolding reading.reading
  gates_operator_not_zero bs = read_on (ltb reading.largest_list (length bs)) 7 (reading.read_from [] bs) (λ z. omega arith) (read_from_lem [] bs)

-- ---- gate lists written

abbrev Fit : Result Listed ℕ → Type 0
Fit a = (a ≢ Err 0) × (letters_of a < 2 ^ 16)

pub gates_fit : (b old new : List ℕ) (a : Result Listed ℕ) → GatesPromise b old new a → (a ≢ Err 0) × (letters_of a < 2 ^ 16)
gates_fit b old new a p =
    elim (ℕ_discrete (file_refusal b) 0) [
      | no n ↦ none n (p.refused n).0
      | yes z ↦ elim (dec_lt (length old) (256 * (file_count b + 1))) [ yes l ↦ none (λ z. omega arith) (p.no_room z l).0 | no l ↦ some z (omega arith) ]
    ]
  where
    none : {n : ℕ} → n ≢ 0 → a ≡ Err n → Fit a
    none h e = (λ z. h (same_err (sym e ∙ z)), rw (ap letters_of e) (omega arith))

    some : file_refusal b ≡ 0 → 256 * (file_count b + 1) ≤ length old → Fit a
    some z l =
        let (w, s, h) = p.handed z l in
        let e = ap letters_of h.answer in
        let n = h.list.short in
        let t = count_small b z in
        (λ r. ok_err (sym h.answer ∙ r), omega arith)

-- ---- gate lists of unitaries

abbrev FitU : Result Synthesis ℕ → Type 0
FitU a = (a ≢ Err 0) × (synthesis_letters a < 2 ^ 16)

pub unitary_fits : (b old new : List ℕ) (a : Result Synthesis ℕ) → UnitaryPromise b old new a → (a ≢ Err 0) × (synthesis_letters a < 2 ^ 16)
unitary_fits b old new a p =
    elim (ℕ_discrete (unitary_refusal b) 0) [
      | no n ↦ none n (p.refused n).0
      | yes z ↦ elim (dec_lt (length old) (256 * (form_count (unitary_of b) + 1))) [ yes l ↦ none (λ z. omega arith) (p.no_room z l).0 | no l ↦ some z (omega arith) ]
    ]
  where
    none : {n : ℕ} → n ≢ 0 → a ≡ Err n → FitU a
    none h e = (λ z. h (same_err (sym e ∙ z)), rw (ap synthesis_letters e) (omega arith))

    some : unitary_refusal b ≡ 0 → 256 * (form_count (unitary_of b) + 1) ≤ length old → FitU a
    some z l =
        let (w, s, h) = p.handed z l in
        let e = ap synthesis_letters h.answer in
        let n = h.list.list.1.short in
        let t = unitary.count_small b z in
        (λ r. ok_err (sym h.answer ∙ r), omega arith)

-- ---- bundles

pub part_not_zero : (b : List ℕ) (n : ℕ) → bundle.part_of b n ≢ Err 0
unfolding bundle.part_of
part_not_zero b n = refused_or_short _ (bundle.bundle_refusal b n) false

pub bundle_not_zero : (s : List ℕ) (n : ℕ) → bundle_answer s n ≢ Err 0
unfolding bundle_answer
bundle_not_zero s n = refused_or_short _ (sheets_refusal s) (ltb n (length (sheets_bundle s)))

pub bundle_bytes : (s : List ℕ) (n : ℕ) → bytes_of (bundle_answer s n) < 2 ^ 24
unfolding bundle_answer
bundle_bytes s n = by (eqb (sheets_refusal s) 0) refl (ltb n (length (sheets_bundle s)))
  where
    by : (z : Bool) → eqb (sheets_refusal s) 0 ≡ z → (t : Bool)
        → bytes_of (cond z (cond t (Err 6) (Ok (length (sheets_bundle s)))) (Err (sheets_refusal s))) < 2 ^ 24
    by false e t = omega arith
    by true e true = omega arith
    by true e false = let l = bundle_small s (eqb-true (sheets_refusal s) 0 e) in omega arith

-- ---- text

-- a reading that is refused with another number than 0, or gives a list of fewer than 2^24 bytes
module _ (bytesOfList : List Gate → List ℕ) (n : ℕ) where
  written_fits : (r : reading.Reading) → r ≢ reading.refusal 0 → ((w : List Gate) → r ≡ reading.gates w → length (bytesOfList w) < 2 ^ 24)
      → (written_answer bytesOfList n r ≢ Err 0) × (bytes_of (written_answer bytesOfList n r) < 2 ^ 24)
  written_fits (reading.refusal k) h f = (λ e. h (ap reading.refusal (same_err e)), omega arith)
  written_fits (reading.gates w) h f = by (ltb n (length (bytesOfList w)))
    where
      by : (t : Bool) → ◌≢◌ {A = Result ℕ ℕ} (cond t (Err 6) (Ok (length (bytesOfList w)))) (Err 0) × (bytes_of (cond t (Err 6) (Ok (length (bytesOfList w)))) < 2 ^ 24)
      by true = (λ e. let z = same_err e in omega arith, omega arith)
      by false = (λ e. ok_err e, f w refl)

either_not_zero : {a b n : ℕ} → a ≢ 0 → b ≢ 0 → (n ≡ a) ⊎ (n ≡ b) → n ≢ 0
either_not_zero h k (inl e) z = h (sym e ∙ z)
either_not_zero h k (inr e) z = k (sym e ∙ z)

pub text_fits : (bs : List ℕ) (n : ℕ) → (written_answer text_of n (read_letters bs) ≢ Err 0) × (bytes_of (written_answer text_of n (read_letters bs)) < 2 ^ 24)
text_fits bs n =
    written_fits text_of n (read_letters bs) (λ e. either_not_zero (λ z. omega arith) (λ z. omega arith) (writing_refused bs 0 e) refl)
    (λ w e. let l = text_small bs w e in omega arith)

pub letters_fit : (bs : List ℕ) (n : ℕ) → (written_answer (map letter) n (read_qasm bs) ≢ Err 0) × (bytes_of (written_answer (map letter) n (read_qasm bs)) < 2 ^ 24)
letters_fit bs n =
    written_fits (map letter) n (read_qasm bs) (λ e. either_not_zero (λ z. omega arith) (λ z. omega arith) (reading_refused bs 0 e) refl)
    (λ w e. let l = letters_small bs w e in omega arith)
