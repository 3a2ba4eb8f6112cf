-- Whole sheets that stand end to end from the front on: where they start, and what is made of them.
use Rattle.std.proofs.Math.Path.{◌≡◌, refl}
use Rattle.std.specs.Prelude.{Bool, not, cond, leb}
use Rattle.std.proofs.Math.Bool.{true, false}
use mathlib.Core.List.{List, flatten}
use Prim.Native.Nat.{ℕ, zero, suc, ◌+◌, ◌*◌, ◌≤◌, ◌<◌}
use native.Mathlib.Omega.{arith}
use Rattle.std.proofs.Math.Dec.{eqb, ltb}
use Rattle.std.proofs.Math.ListN.{length}
use borrow.Author.Tests.{eqb-true, le-leb, leb-true, ltb-false, not-false}
use Rattle.matrix.specs.Range.{tabulate}
use Rattle.matrix.specs.Laws.Test.{and_left, and_right}
use Rattle.matrix.specs.Laws.Range.{first_passed}
use Rattle.sheet_bytes.specs.Bytes.{shortest, longest}
use Rattle.bundle.specs.Bundle.{most_sheets, length_at, start_of, bundle_refusal, sheet_in}
use Rattle.bundle.specs.Laws.Read.{read_refusal}
use Rattle.bundle.specs.Laws.Made.{EndToEnd, made_count, made_bundled, made_parts}
use Rattle.bundle_write.specs.Writing.{is_whole, stored_count, sheets_refusal, sheets_bundle}

pub record WholeAt (s : List ℕ) (at : ℕ) : Type 0 where
  pub least : shortest ≤ length_at s at
  pub most : length_at s at ≤ longest
  pub inside : at + length_at s at ≤ length s

pub whole_sound : (s : List ℕ) (at : ℕ) → is_whole s at ≡ true → WholeAt s at
whole_sound s at h =
    let r = and_right (leb shortest (length_at s at)) _ h in
    record {
      least = leb-true _ _ (and_left (leb shortest (length_at s at)) _ h);
      most = leb-true _ _ (and_left (leb (length_at s at) longest) _ r);
      inside = leb-true _ _ (and_right (leb (length_at s at) longest) _ r);
    }

pub whole_complete : (s : List ℕ) (at : ℕ) → WholeAt s at → is_whole s at ≡ true
whole_complete s at w =
    rw (le-leb shortest (length_at s at) w.least, le-leb (length_at s at) longest w.most, le-leb (at + length_at s at) (length s) w.inside)

module _ (s : List ℕ) where
  pub stored_whole : (n : ℕ) → n < stored_count s → is_whole s (start_of s n) ≡ true
  stored_whole n l = not-false _ (first_passed (λ n. not (is_whole s (start_of s n))) 0 (suc most_sheets) n (omega arith) l)

  stored_at : (n : ℕ) → n < stored_count s → WholeAt s (start_of s n)
  stored_at n l = whole_sound s (start_of s n) (stored_whole n l)

  -- a sheet starts within the bytes, and behind sheets that are not too long
  pub stored_start : (n : ℕ) → n ≤ stored_count s → (start_of s n ≤ length s) × (start_of s n ≤ longest * n)
  unfolding start_of
  stored_start zero l = (omega arith, omega arith)
  stored_start (suc n) l =
      let w = stored_at n (omega arith) in
      let i = w.inside in
      let m = w.most in
      let h = (stored_start n (omega arith)).1 in
      (omega arith, omega arith)

  -- ---- sheets that earn no refusal

  module _ (z : sheets_refusal s ≡ 0) where
    stored : (stored_count s ≤ most_sheets) × (start_of s (stored_count s) ≡ length s)
    unfolding sheets_refusal
    stored = go (ltb most_sheets (stored_count s)) (eqb (start_of s (stored_count s)) (length s)) refl refl z
      where
        go : (t u : Bool) → ltb most_sheets (stored_count s) ≡ t → eqb (start_of s (stored_count s)) (length s) ≡ u → ◌≡◌ {A = ℕ} (cond t 20 (cond (not u) 21 0)) 0
            → (stored_count s ≤ most_sheets) × (start_of s (stored_count s) ≡ length s)
        go true u p q z = absurd (omega arith)
        go false false p q z = absurd (omega arith)
        go false true p q z = (ltb-false _ _ p, eqb-true _ _ q)

    pub stored_few : stored_count s ≤ most_sheets
    stored_few = stored.0

    pub stored_end_to_end : EndToEnd s (stored_count s)
    stored_end_to_end = record { firsts = λ n l. let w = (stored_at n l).least in omega arith; ended = stored.1 }

    -- what is written is read without refusal
    pub stored_reads : (n : ℕ) → n < stored_count s → bundle_refusal (sheets_bundle s) n ≡ 0
    unfolding sheets_bundle
    stored_reads n l = let e = made_count s (stored_count s) in read_refusal _ (made_bundled s (stored_count s) stored_end_to_end stored_few) n (omega arith)

    -- and its parts, end to end, are the sheets
    pub stored_parts : flatten (tabulate (sheet_in (sheets_bundle s)) 0 (stored_count s)) ≡ s
    unfolding sheets_bundle
    stored_parts = made_parts s (stored_count s) stored_end_to_end stored_few
