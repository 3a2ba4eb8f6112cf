-- Which bytes are taken: those of up to 512 sheets, end to end, and no others. What is written of sheets gives back each of them.
use Rattle.std.specs.Prelude.{◌≡◌, refl, ◌≢◌, Bool, true, false, not, ℕ, zero, suc, ◌≤◌, ◌<◌, ltb, length}
use Rattle.std.proofs.Common.{sym, subst, ◌∙◌, zero-add, length-append, get_or-append-add, ltb-false}
use Rattle.std.proofs.Math.Path.{ap}
use mathlib.Core.List.{List, [], ◌∷◌, ◌++◌, flatten}
use Rattle.std.proofs.Math.Decide.{dec_lt}
use native.Mathlib.Omega.{arith}
use Rattle.std.proofs.Math.ListN.{get_or, get_or-eq_default}
use Rattle.std.proofs.lemmas.Bool.{lt-leb}
use Rattle.matrix.specs.Range.{tabulate}
use Rattle.matrix.specs.Laws.Range.{first_stops, first_goes_on, length_tabulate, get_d_tabulate}
use Rattle.sheet_bytes.specs.Bytes.{shortest, longest}
use Rattle.sheet_bytes.specs.Sheet.{Counted, sheet_refusal}
use Rattle.sheet_bytes.specs.Laws.Count.{Each, first_end_lem, read_counted}
use Rattle.bundle.specs.Bundle.{most_sheets, length_at, start_of, offset, sheet_in, bundle_of}
use Rattle.bundle.specs.Laws.Read.{found, part_length, part_not_empty, part_counted}
use Rattle.bundle.specs.Laws.Made.{Opens, end_to_end, start_behind, made_first, made_start, made_sheet}
use Rattle.bundle_write.specs.Writing.{is_whole, stored_count, sheets_refusal, sheets_bundle}
use Rattle.bundle_write.specs.Laws.Stored.{WholeAt, whole_sound, whole_complete, stored_whole, stored_few, stored_end_to_end, stored_reads, stored_parts}
use Rattle.bundle_write.specs.Laws.Promise.{many_refused, sheets_accepted}

-- a sheet as far as its frame goes: it says how long it is, and that is a length that a sheet may have
pub record Framed (s : List ℕ) : Type 0 where
  pub counted : Counted s
  pub least : shortest ≤ length s
  pub most : length s ≤ longest

-- every sheet that is read is one
pub read_framed : (s : List ℕ) → sheet_refusal s ≡ 0 → Framed s
unfolding sheet_refusal
read_framed s z = go (ltb (length s) shortest) refl (ltb longest (length s)) refl
  where
    go : (a : Bool) → ltb (length s) shortest ≡ a → (b : Bool) → ltb longest (length s) ≡ b → Framed s
    go true p b q = let e : 10 ≡ sheet_refusal s = rw p in absurd (omega arith)
    go false p true q = let e : 10 ≡ sheet_refusal s = rw (p, q) in absurd (omega arith)
    go false p false q = record { counted = read_counted s z; least = ltb-false _ _ p; most = ltb-false _ _ q }

framed_at : (ss : List (List ℕ)) → Each Framed ss → (n : ℕ) → n < length ss → WholeAt (flatten ss) (start_of (flatten ss) n)
unfolding flatten start_of
framed_at [] o n l = absurd (omega arith)
framed_at (s ∷ ss) o zero l =
    let p = o 0 (omega arith) in
    let e = first_end_lem s (flatten ss) p.counted in
    let a = p.least in
    let b = p.most in
    let k = length-append s (flatten ss) in
    record { least = omega arith; most = omega arith; inside = omega arith }
framed_at (s ∷ ss) o (suc n) l =
    let p = o 0 (omega arith) in
    let w = framed_at ss (λ n l. o (suc n) (omega arith)) n (omega arith) in
    let a = start_behind s (flatten ss) p.counted n in
    let f = ap (λ k. get_or (s ++ flatten ss) k 0) a ∙ get_or-append-add s (flatten ss) (start_of (flatten ss) n) 0 in
    let k = length-append s (flatten ss) in
    let x = w.least in
    let y = w.most in
    let z = w.inside in
    record { least = omega arith; most = omega arith; inside = omega arith }

-- where the bytes end no sheet stands
none_at_end : (s : List ℕ) (at : ℕ) → at ≡ length s → is_whole s at ≡ false
none_at_end s at e = let d = get_or-eq_default s 0 {n = at} (omega arith) in rw (lt-leb shortest (length_at s at) (omega arith))

module _ (ss : List (List ℕ)) (o : Each Framed ss) where
  opens : Each Opens ss
  opens n l = record { counted = (o n l).counted; long = (o n l).least }

  passes : (n : ℕ) → n < length ss → not (is_whole (flatten ss) (start_of (flatten ss) n)) ≡ false
  passes n l = ap not (whole_complete (flatten ss) (start_of (flatten ss) n) (framed_at ss o n l))

  -- more than 512 sheets earn 20
  pub too_many_sheets : most_sheets < length ss → sheets_refusal (flatten ss) ≡ 20
  too_many_sheets m =
      let l = first_goes_on (λ n. not (is_whole (flatten ss) (start_of (flatten ss) n))) 0 (suc most_sheets) (suc most_sheets) (omega arith) (λ i _ h. passes i (omega arith)) in
      many_refused (flatten ss) (omega arith)

  module _ (few : length ss ≤ most_sheets) where
    stored_all : stored_count (flatten ss) ≡ length ss
    stored_all =
        let e = (end_to_end ss opens).ended in
        let a = first_goes_on (λ n. not (is_whole (flatten ss) (start_of (flatten ss) n))) 0 (suc most_sheets) (length ss) (omega arith) (λ i _ h. passes i h) in
        let b = first_stops (λ n. not (is_whole (flatten ss) (start_of (flatten ss) n))) 0 (suc most_sheets) (length ss) (omega arith) (ap not (none_at_end (flatten ss) (start_of (flatten ss) (length ss)) e)) in
        omega arith

    -- up to 512 sheets are taken
    pub sheets_taken : sheets_refusal (flatten ss) ≡ 0
    sheets_taken =
        let e = stored_all in
        sheets_accepted (flatten ss) (omega arith) (ap (start_of (flatten ss)) e ∙ (end_to_end ss opens).ended)

    -- and the bundle that is written gives back each of them
    pub sheet_written : (n : ℕ) → n < length ss → sheet_in (sheets_bundle (flatten ss)) n ≡ get_or ss n []
    unfolding sheets_bundle
    sheet_written n l = ap (λ c. sheet_in (bundle_of (flatten ss) c) n) stored_all ∙ made_sheet ss opens few n l

-- bytes that are taken are those of up to 512 sheets
module _ (s : List ℕ) (z : sheets_refusal s ≡ 0) where
  abbrev stored : List (List ℕ)
  stored = tabulate (sheet_in (sheets_bundle s)) 0 (stored_count s)

  part_framed : (n : ℕ) → n < stored_count s → Framed (sheet_in (sheets_bundle s) n)
  unfolding sheets_bundle
  part_framed n l =
      let b = sheets_bundle s in
      let r = stored_reads s z n l in
      let h = stored_end_to_end s z in
      let a = (found b n r).at ∙ made_start s (stored_count s) h n (omega arith) in
      let f : get_or b (offset b n) 0 ≡ get_or s (start_of s n) 0 = ap (λ k. get_or b k 0) a ∙ made_first s (stored_count s) h n l in
      let k = part_length b n r in
      let w = (whole_sound s (start_of s n) (stored_whole s n l)).most in
      record { counted = part_counted b n r; least = part_not_empty b n r; most = omega arith }

  pub taken_sheets : (ss : List (List ℕ)) × Each Framed ss × (length ss ≤ most_sheets) × (flatten ss ≡ s)
  taken_sheets =
      let e = length_tabulate (sheet_in (sheets_bundle s)) 0 (stored_count s) in
      let m = stored_few s z in (
        stored,
        λ n l. subst Framed (sym (get_d_tabulate (sheet_in (sheets_bundle s)) 0 (stored_count s) n [] (omega arith) ∙ ap (sheet_in (sheets_bundle s)) (zero-add n))) (part_framed n (omega arith)),
        omega arith,
        stored_parts s z,
      )

-- bytes that earn 21 are not sheets end to end, however many
pub no_sheets : (s : List ℕ) → sheets_refusal s ≡ 21 → (ss : List (List ℕ)) → Each Framed ss → flatten ss ≢ s
no_sheets s z ss o e = elim (dec_lt most_sheets (length ss)) [
  | yes l ↦ let a = ap sheets_refusal e in let b = too_many_sheets ss o l in absurd (omega arith)
  | no l ↦ let a = ap sheets_refusal e in let b = sheets_taken ss o (omega arith) in absurd (omega arith)
]
