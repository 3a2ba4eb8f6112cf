-- A bundle that is read is the bundle of its parts: there is no other way to write it.
use Rattle.std.specs.Prelude.{◌≡◌}
use Rattle.std.proofs.Math.Path.{refl, ap, ap₂}
use Rattle.std.proofs.Common.{sym, ◌∙◌, drop-cons}
use mathlib.Core.List.{List, ◌∷◌, ◌++◌, flatten}
use Prim.Native.Nat.{ℕ, zero, suc, ◌+◌, ◌*◌, ◌-◌, ◌%◌, ◌/◌, ◌≤◌, ◌<◌}
use native.Mathlib.Omega.{arith}
use Rattle.std.proofs.Math.ListN.{length, get_or, take, drop, take-append-drop}
use Rattle.std.proofs.Math.Seq.{get_or-take, drop-length}
use Rattle.matrix.specs.Range.{tabulate}
use Rattle.file.specs.File.{two_at}
use Rattle.bundle.specs.Bundle.{sheet_count, trailer_start, start_of, sheet_in, two_bytes, offsets, bundle_of}
use Rattle.bundle.specs.Laws.Read.{Bundled, start_le, parts_end_to_end}

module _ (b : List ℕ) (byte : (i : ℕ) → get_or b i 0 < 256) (h : Bundled b) where
  -- 16 bits are the two bytes that they stand in
  two_there : (i : ℕ) → i + 1 < length b → drop i b ≡ two_bytes (two_at b i) ++ drop (i + 2) b
  two_there i l =
      let x = byte i in
      let y = byte (i + 1) in
      let p : two_at b i % 256 ≡ get_or b i 0 = omega arith in
      let q : two_at b i / 256 ≡ get_or b (i + 1) 0 = omega arith in
      let j : suc i ≡ i + 1 = omega arith in
      let k : suc (i + 1) ≡ i + 2 = omega arith in
      drop-cons b i 0 (omega arith)
      ∙ ap₂ ◌∷◌ (sym p) (ap (λ j. drop j b) j ∙ drop-cons b (i + 1) 0 (omega arith) ∙ ap₂ ◌∷◌ (sym q) (ap (λ k. drop k b) k))

  -- the trailer from the offset of sheet n on
  trailer_from : (n k : ℕ) → n + k ≡ sheet_count b → drop (trailer_start b + 2 * n) b ≡ flatten (tabulate (λ i. two_bytes (start_of b i)) n k) ++ two_bytes (sheet_count b)
  unfolding tabulate flatten
  trailer_from n zero e =
      let f = h.fits in
      let i : trailer_start b + 2 * n ≡ length b - 2 = omega arith in
      let j : length b - 2 + 2 ≡ length b = let l = h.long in omega arith in
      ap (λ i. drop i b) i ∙ two_there (length b - 2) (let l = h.long in omega arith)
      ∙ ap (λ x. two_bytes (sheet_count b) ++ x) (ap (λ j. drop j b) j ∙ drop-length b)
  trailer_from n (suc k) e =
      let f = h.fits in
      let i : trailer_start b + 2 * n + 2 ≡ trailer_start b + 2 * suc n = omega arith in
      two_there (trailer_start b + 2 * n) (omega arith)
      ∙ ap₂ (λ x r. two_bytes x ++ r) (h.follows n (omega arith)) (ap (λ i. drop i b) i ∙ trailer_from (suc n) k (omega arith))

  -- the sheets start where they start in the bytes before the trailer
  start_before : (n : ℕ) → n ≤ sheet_count b → start_of (take (trailer_start b) b) n ≡ start_of b n
  unfolding start_of
  start_before zero l = refl
  start_before (suc n) l =
      let a = start_before n (omega arith) in
      let m = start_le b (suc n) (sheet_count b) (omega arith) in
      let f = h.firsts n (omega arith) in
      let e = h.ended in
      ap₂ (λ x y. x + (y - 56)) a (ap (λ k. get_or (take (trailer_start b) b) k 0) a ∙ get_or-take (trailer_start b) b (start_of b n) 0 (omega arith))

  offsets_before : (n k : ℕ) → n + k ≤ sheet_count b → flatten (tabulate (λ i. two_bytes (start_of (take (trailer_start b) b) i)) n k) ≡ flatten (tabulate (λ i. two_bytes (start_of b i)) n k)
  unfolding tabulate flatten
  offsets_before n zero l = refl
  offsets_before n (suc k) l = ap₂ (λ x r. two_bytes x ++ r) (start_before n (omega arith)) (offsets_before (suc n) k (omega arith))

  pub bundle_again : bundle_of (flatten (tabulate (sheet_in b) 0 (sheet_count b))) (sheet_count b) ≡ b
  unfolding bundle_of
  bundle_again =
      let i : trailer_start b ≡ trailer_start b + 2 * 0 = omega arith in
      ap (λ s. s ++ (offsets s (sheet_count b) ++ two_bytes (sheet_count b))) (parts_end_to_end b h)
      ∙ ap (λ x. take (trailer_start b) b ++ (x ++ two_bytes (sheet_count b))) (offsets_before 0 (sheet_count b) (omega arith))
      ∙ ap (λ x. take (trailer_start b) b ++ x) (sym (ap (λ i. drop i b) i ∙ trailer_from 0 (sheet_count b) (omega arith)))
      ∙ take-append-drop (trailer_start b) b
