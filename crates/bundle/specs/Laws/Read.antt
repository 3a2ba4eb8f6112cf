-- What a bundle that earns neither 20 nor 21 has: its parts are not empty, lie before the trailer, and are the bytes before it, end to end.
use Rattle.std.specs.Prelude.{◌≡◌, Bool, cond, ◌&&◌, ◌≢◌, leb, ltb, get_or, drop, Ok, Err}
use Rattle.std.proofs.Math.Path.{refl, sym, ap}
use Rattle.std.proofs.Common.{ap₂, ◌∙◌, zero-add, add-one, length-drop, take-add, length-take-le, get_or-take, get_or-drop}
use Rattle.std.proofs.Math.Bool.{true, false}
use mathlib.Core.List.{List, [], ◌++◌, flatten, append_assoc, append-nil}
use Prim.Native.Nat.{ℕ, zero, suc, ◌+◌, ◌*◌, ◌-◌, ◌≤◌, ◌<◌}
use Rattle.std.proofs.Math.Decide.{ℕ_discrete, dec_lt}
use native.Mathlib.Omega.{arith}
use Rattle.std.proofs.Math.ListN.{length, take}
use borrow.Author.Tests.{eqb-true, leb-true, ltb-true, ltb-false, lt-ltb, le-ltb, lt-leb, le-leb, eq-eqb, ne_eqb}
use Rattle.matrix.specs.Range.{every, tabulate}
use Rattle.matrix.specs.Laws.Test.{and_left, and_right}
use Rattle.matrix.specs.Laws.Range.{every_sound, every_complete}
use Rattle.sheet_bytes.specs.Bytes.{shortest}
use Rattle.sheet_bytes.specs.Sheet.{Counted}
use Rattle.bundle.specs.declared.Part.{Part}
use Rattle.bundle.specs.Bundle.{most_sheets, sheet_count, trailer_length, trailer_start, offset, length_at, start_of, is_followed, is_ended, has_trailer, has_sheets, bundle_refusal, part_of, sheet_in, place_in}

-- ---- what the tests say

-- a bundle, which earns neither 20 nor 21
pub record Bundled (b : List ℕ) : Type 0 where
  pub long : 2 ≤ length b
  pub fits : trailer_length (sheet_count b) ≤ length b
  pub few : sheet_count b ≤ most_sheets
  pub firsts : (n : ℕ) → n < sheet_count b → 64 ≤ get_or b (start_of b n) 0
  pub follows : (n : ℕ) → n < sheet_count b → offset b n ≡ start_of b n
  pub ended : start_of b (sheet_count b) ≡ trailer_start b

bundled_sound : (b : List ℕ) → has_trailer b ≡ true → has_sheets b ≡ true → Bundled b
bundled_sound b t s =
    let t₁ = and_right (leb 2 (length b)) _ t in
    let f : (n : ℕ) → n < sheet_count b → is_followed b n ≡ true = every_sound (sheet_count b) (is_followed b) (and_left (every (sheet_count b) (is_followed b)) (is_ended b) s) in
    record {
      long = leb-true _ _ (and_left (leb 2 (length b)) _ t);
      fits = leb-true _ _ (and_left (leb (trailer_length (sheet_count b)) (length b)) _ t₁);
      few = leb-true _ _ (and_right (leb (trailer_length (sheet_count b)) (length b)) _ t₁);
      firsts = λ n h. leb-true _ _ (and_left (leb 64 (get_or b (start_of b n) 0)) _ (f n h));
      follows = λ n h. eqb-true _ _ (and_right (leb 64 (get_or b (start_of b n) 0)) _ (f n h));
      ended = eqb-true _ _ (and_right (every (sheet_count b) (is_followed b)) (is_ended b) s);
    }

pub bundled : (b : List ℕ) (n : ℕ) → bundle_refusal b n ≢ 20 → bundle_refusal b n ≢ 21 → Bundled b
unfolding bundle_refusal
bundled b n d e = go (has_trailer b) refl (has_sheets b) refl
  where
    go : (t : Bool) → has_trailer b ≡ t → (s : Bool) → has_sheets b ≡ s → Bundled b
    go true p true q = bundled_sound b p q
    go true p false q = absurd (e (rw (p, q)))
    go false p s q = absurd (d (rw p))

both : {s t : Bool} → s ≡ true → t ≡ true → (s && t) ≡ true
both p q = rw (p, q)

module _ (b : List ℕ) (h : Bundled b) where
  has_trailer_lem : has_trailer b ≡ true
  has_trailer_lem = both (le-leb _ _ h.long) (both (le-leb _ _ h.fits) (le-leb _ _ h.few))

  has_sheets_lem : has_sheets b ≡ true
  has_sheets_lem =
      both (every_complete (sheet_count b) (is_followed b) (λ n l. both (le-leb _ _ (h.firsts n l)) (eq-eqb _ _ (h.follows n l))))
      (eq-eqb _ _ h.ended)

  -- the number of the refusal: 0 for each sheet that there is, and 22 for the others
  pub read_refusal : (n : ℕ) → n < sheet_count b → bundle_refusal b n ≡ 0
  unfolding bundle_refusal
  read_refusal n l = rw (has_trailer_lem, has_sheets_lem, lt-ltb n (sheet_count b) l)

  pub no_sheet_refusal : (n : ℕ) → sheet_count b ≤ n → bundle_refusal b n ≡ 22
  unfolding bundle_refusal
  no_sheet_refusal n l = rw (has_trailer_lem, has_sheets_lem, le-ltb n (sheet_count b) l)

-- every number that no bundle has a sheet for earns the same
pub far_alike : (b : List ℕ) (m n : ℕ) → most_sheets ≤ m → most_sheets ≤ n → bundle_refusal b m ≡ bundle_refusal b n
unfolding bundle_refusal
far_alike b m n k l = go (has_trailer b) refl
  where
    go : (t : Bool) → has_trailer b ≡ t → bundle_refusal b m ≡ bundle_refusal b n
    go true p =
        let f = leb-true (sheet_count b) most_sheets (and_right (leb (trailer_length (sheet_count b)) (length b)) _ (and_right (leb 2 (length b)) _ p)) in
        rw (le-ltb m (sheet_count b) (omega arith), le-ltb n (sheet_count b) (omega arith))
    go false p = rw p

-- ---- places

-- the first sheet, and the one behind sheet n
module _ (b : List ℕ) where
  pub start_first : 0 ≡ start_of b 0
  unfolding start_of
  start_first = refl

  pub start_next : (n at : ℕ) → at ≡ start_of b n → at + length_at b at ≡ start_of b (n + 1)
  unfolding start_of
  start_next n at e = ap (λ k. k + length_at b k) e ∙ sym (ap (start_of b) (add-one n))

start_add : (b : List ℕ) (n k : ℕ) → start_of b n ≤ start_of b (n + k)
unfolding start_of
start_add b n zero = let e = ap (start_of b) (let i : n + zero ≡ n = omega arith in i) in omega arith
start_add b n (suc k) =
    let h = start_add b n k in
    let e = ap (start_of b) (let i : n + suc k ≡ suc (n + k) = omega arith in i) in
    omega arith

pub start_le : (b : List ℕ) (n m : ℕ) → n ≤ m → start_of b n ≤ start_of b m
start_le b n m h = let a = start_add b n (m - n) in let e = ap (start_of b) (let i : n + (m - n) ≡ m = omega arith in i) in omega arith

-- ---- a sheet that is there

pub record Found (b : List ℕ) (n : ℕ) : Type 0 where
  pub bundled : Bundled b
  pub inside : n < sheet_count b
  -- its offset is where it starts, by the sheets before it
  pub at : offset b n ≡ start_of b n
  pub first : 64 ≤ get_or b (offset b n) 0
  pub end : offset b n + length_at b (offset b n) ≤ trailer_start b

found_in : (b : List ℕ) (n : ℕ) → Bundled b → n < sheet_count b → Found b n
unfolding start_of
found_in b n h l =
    let e = h.follows n l in
    let f : get_or b (offset b n) 0 ≡ get_or b (start_of b n) 0 = ap (λ i. get_or b i 0) e in
    let g = h.firsts n l in
    let s = start_le b (suc n) (sheet_count b) l in
    let t = h.ended in
    record { bundled = h; inside = l; at = e; first = omega arith; end = omega arith }

pub found : (b : List ℕ) (n : ℕ) → bundle_refusal b n ≡ 0 → Found b n
found b n z =
    let h = bundled b n (λ e. omega arith) (λ e. omega arith) in
    elim (dec_lt n (sheet_count b)) [ yes l ↦ found_in b n h l | no l ↦ let r = no_sheet_refusal b h n (omega arith) in absurd (omega arith) ]

-- ---- the part

module _ (b : List ℕ) (n : ℕ) where
  module _ (z : bundle_refusal b n ≡ 0) where
    pub part_is : sheet_in b n ≡ take (length_at b (offset b n)) (drop (offset b n) b)
    unfolding sheet_in
    part_is = rw (eq-eqb (bundle_refusal b n) 0 z)

    pub part_found : part_of b n ≡ Ok (record { start = offset b n; length = length_at b (offset b n) })
    unfolding part_of
    part_found = rw (eq-eqb (bundle_refusal b n) 0 z)

    pub place_is : place_in b n ≡ offset b n
    unfolding place_in
    place_is = rw (eq-eqb (bundle_refusal b n) 0 z)

    pub part_length : length (sheet_in b n) ≡ length_at b (offset b n)
    part_length =
        let f = found b n z in
        let e = f.end in
        let l = length-drop (offset b n) b in
        ap length part_is ∙ length-take-le (length_at b (offset b n)) (drop (offset b n) b) (omega arith)

    -- a part that is handed back is not empty: it has the fewest bytes of a sheet at least
    pub part_not_empty : shortest ≤ length (sheet_in b n)
    part_not_empty = let f = (found b n z).first in let l = part_length in omega arith

    -- it is as long as its first byte says
    pub part_counted : Counted (sheet_in b n)
    part_counted =
        let f = (found b n z).first in
        let l = part_length in
        let e : get_or (sheet_in b n) 0 0 ≡ get_or b (offset b n + 0) 0 =
        ap (λ s. get_or s 0 0) part_is ∙ get_or-take (length_at b (offset b n)) (drop (offset b n) b) 0 0 (omega arith) ∙ get_or-drop (offset b n) b 0 0 in
        let i = ap (λ k. get_or b k 0) (let i : offset b n + 0 ≡ offset b n = omega arith in i) in
        omega arith

  -- "On a refusal the part is empty"
  module _ (z : bundle_refusal b n ≢ 0) where
    pub part_refused : sheet_in b n ≡ []
    unfolding sheet_in
    part_refused = rw (ne_eqb (bundle_refusal b n) 0 z)

    pub place_none : place_in b n ≡ 0
    unfolding place_in
    place_none = rw (ne_eqb (bundle_refusal b n) 0 z)

    pub part_missing : part_of b n ≡ Err (bundle_refusal b n)
    unfolding part_of
    part_missing = rw (ne_eqb (bundle_refusal b n) 0 z)

  -- so a part that is answered by its place lies in the bytes, and is what is handed back
  pub part_at : (p : Part) → part_of b n ≡ Ok p → (p.start + p.length ≤ length b) × (take p.length (drop p.start b) ≡ sheet_in b n) × (p.start ≡ place_in b n)
  part_at w e = elim (ℕ_discrete (bundle_refusal b n) 0) [
    | yes z ↦
        let f = part_found z in
        let p : w.start ≡ offset b n = cc in
        let q : w.length ≡ length_at b (offset b n) = cc in
        let l = (found b n z).end in
        (omega arith, ap₂ (λ k i. take k (drop i b)) q p ∙ sym (part_is z), p ∙ sym (place_is z))
    | no z ↦ let f = part_missing z in let x : ◌≡◌ {A = ℕ} 0 1 = cc in absurd (omega arith)
  ]

  pub part_none : (r : ℕ) → part_of b n ≡ Err r → (sheet_in b n ≡ []) × (place_in b n ≡ 0)
  part_none r e = elim (ℕ_discrete (bundle_refusal b n) 0) [
    | yes z ↦ let f = part_found z in let x : ◌≡◌ {A = ℕ} 0 1 = cc in absurd (omega arith)
    | no z ↦ (part_refused z, place_none z)
  ]

-- ---- end to end

module _ (b : List ℕ) (h : Bundled b) where
  one_more : (a : ℕ) → a < sheet_count b → take (start_of b a) b ++ sheet_in b a ≡ take (start_of b (suc a)) b
  unfolding start_of
  one_more a l =
      let f = found_in b a h l in
      ap (λ s. take (start_of b a) b ++ s) (part_is b a (read_refusal b h a l) ∙ ap (λ i. take (length_at b i) (drop i b)) f.at)
      ∙ sym (take-add (start_of b a) (length_at b (start_of b a)) b)

  from_part : (a k : ℕ) → a + k ≤ sheet_count b → take (start_of b a) b ++ flatten (tabulate (sheet_in b) a k) ≡ take (start_of b (a + k)) b
  unfolding tabulate flatten
  from_part a zero l = append-nil (take (start_of b a) b) ∙ ap (λ n. take (start_of b n) b) (let i : a ≡ a + zero = omega arith in i)
  from_part a (suc k) l =
      sym (append_assoc (take (start_of b a) b) (sheet_in b a) (flatten (tabulate (sheet_in b) (suc a) k)))
      ∙ ap (λ x. x ++ flatten (tabulate (sheet_in b) (suc a) k)) (one_more a (omega arith))
      ∙ from_part (suc a) k (omega arith)
      ∙ ap (λ n. take (start_of b n) b) (let i : suc a + k ≡ a + suc k = omega arith in i)

  -- "sheets end to end … with the trailer right after the last": the parts of all n, in their order, are the bytes before the trailer
  pub parts_end_to_end : flatten (tabulate (sheet_in b) 0 (sheet_count b)) ≡ take (trailer_start b) b
  unfolding start_of
  parts_end_to_end =
      from_part 0 (sheet_count b) (let l : 0 + sheet_count b ≤ sheet_count b = omega arith in l)
      ∙ ap (λ n. take n b) (ap (start_of b) (zero-add (sheet_count b)) ∙ h.ended)

-- ---- long bytes

-- the most bytes of a bundle that is read: an offset has 16 bits, the sheet there at most 199 bytes, and the trailer is that of 512 sheets
abbrev pub longest_bundle : ℕ
longest_bundle = 65535 + 199 + trailer_length most_sheets

module _ (b : List ℕ) (byte : (i : ℕ) → get_or b i 0 < 256) where
  bundled_length : Bundled b → length b ≤ longest_bundle
  unfolding start_of
  bundled_length h = go (sheet_count b) refl
    where
      go : (c : ℕ) → sheet_count b ≡ c → length b ≤ longest_bundle
      go zero e = let s = ap (start_of b) e in let t = h.ended in let f = h.fits in omega arith
      go (suc n) e =
          let s = ap (start_of b) e in
          let t = h.ended in
          let m = h.few in
          let f = h.fits in
          let o = h.follows n (omega arith) in
          let x = byte (trailer_start b + 2 * n) in
          let y = byte (trailer_start b + 2 * n + 1) in
          let z = byte (start_of b n) in
          omega arith

  -- so of longer bytes the last two decide, whatever stands before them
  pub long_refused : longest_bundle < length b → (n : ℕ) → bundle_refusal b n ≡ cond (ltb most_sheets (sheet_count b)) 20 21
  unfolding bundle_refusal
  long_refused l n = go (has_sheets b) refl (ltb most_sheets (sheet_count b)) refl
    where
      none : (s : Bool) → (s && false) ≡ false
      none true = refl
      none false = refl

      no_trailer : ltb most_sheets (sheet_count b) ≡ true → has_trailer b ≡ false
      no_trailer e =
          rw (lt-leb (sheet_count b) most_sheets (ltb-true most_sheets (sheet_count b) e), none (leb (trailer_length (sheet_count b)) (length b)), none (leb 2 (length b)))

      trailer : ltb most_sheets (sheet_count b) ≡ false → has_trailer b ≡ true
      trailer e =
          let m = ltb-false most_sheets (sheet_count b) e in
          rw (le-leb 2 (length b) (omega arith), le-leb (trailer_length (sheet_count b)) (length b) (omega arith), le-leb (sheet_count b) most_sheets m)

      go : (s : Bool) → has_sheets b ≡ s → (t : Bool) → ltb most_sheets (sheet_count b) ≡ t → bundle_refusal b n ≡ cond t 20 21
      go s p true q = rw (no_trailer q)
      go false p false q = rw (trailer q, p)
      go true p false q = let k = bundled_length (bundled_sound b (trailer q) p) in absurd (omega arith)
