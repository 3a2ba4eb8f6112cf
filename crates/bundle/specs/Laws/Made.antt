-- A bundle made of sheets is read without refusal, and gives back each sheet.
use Rattle.std.specs.Prelude.{◌≡◌}
use Rattle.std.proofs.Math.Path.{refl, ap, ap₂}
use Rattle.std.proofs.Common.{sym, subst, ◌∙◌, zero-add, add-one, lt-ltb, le-ltb}
use mathlib.Core.List.{List, [], ◌∷◌, ◌++◌, flatten, append-nil, append_assoc}
use Prim.Native.Nat.{ℕ, zero, suc, ◌+◌, ◌*◌, ◌-◌, ◌/◌, ◌%◌, ◌≤◌, ◌<◌}
use native.Mathlib.Omega.{arith}
use Rattle.std.proofs.Math.ListN.{length, get_or, take, length-append, get_or-append}
use Rattle.std.proofs.Math.Seq.{get_or-append-add, take-append_seam}
use Rattle.matrix.specs.Range.{tabulate}
use Rattle.matrix.specs.Laws.Range.{length_tabulate, get_d_tabulate}
use Rattle.sheet_bytes.specs.Bytes.{shortest, longest}
use Rattle.sheet_bytes.specs.Sheet.{Counted, sheet_refusal}
use Rattle.sheet_bytes.specs.Laws.Count.{Each, first_end_lem, told_apart}
use Rattle.file.specs.File.{two_at}
use Rattle.bundle.specs.Bundle.{most_sheets, sheet_count, trailer_length, trailer_start, start_of, bundle_refusal, sheet_in, two_bytes, offsets, bundle_of}
use Rattle.bundle.specs.Laws.Read.{Bundled, start_le, read_refusal, no_sheet_refusal, part_counted, parts_end_to_end}

-- n sheets stand end to end in s, and nothing behind them
pub record EndToEnd (s : List ℕ) (n : ℕ) : Type 0 where
  pub firsts : (i : ℕ) → i < n → 64 ≤ get_or s (start_of s i) 0
  pub ended : start_of s n ≡ length s

-- ---- the trailer

flatten_next : (g : ℕ → List ℕ) (a k : ℕ) → flatten (tabulate g a k) ++ g (a + k) ≡ flatten (tabulate g a (suc k))
unfolding tabulate flatten
flatten_next g a zero = ap g (let i : a + zero ≡ a = omega arith in i) ∙ sym (append-nil (g a))
flatten_next g a (suc k) =
    append_assoc (g a) (flatten (tabulate g (suc a) k)) (g (a + suc k))
    ∙ ap (λ x. g a ++ x) (ap (λ i. flatten (tabulate g (suc a) k) ++ g i) (let i : a + suc k ≡ suc a + k = omega arith in i) ∙ flatten_next g (suc a) k)

two_later : (x y : ℕ) (l : List ℕ) (k : ℕ) → two_at (x ∷ y ∷ l) (2 * suc k) ≡ two_at l (2 * k)
two_later x y l k =
    let i : 2 * suc k ≡ suc (suc (2 * k)) = omega arith in
    let j : 2 * suc k + 1 ≡ suc (suc (2 * k + 1)) = omega arith in
    ap₂ (λ i j. get_or (x ∷ y ∷ l) i 0 + 256 * get_or (x ∷ y ∷ l) j 0) i j

module _ (f : ℕ → ℕ) where
  length_two : (a k : ℕ) → length (flatten (tabulate (λ i. two_bytes (f i)) a k)) ≡ 2 * k
  unfolding tabulate flatten
  length_two a zero = refl
  length_two a (suc k) = let e = length_two (suc a) k in omega arith

  -- number n of those that follow one another, in 16 bits each
  two_at_lem : (a k : ℕ) (rest : List ℕ) (n : ℕ) → n < k → two_at (flatten (tabulate (λ i. two_bytes (f i)) a k) ++ rest) (2 * n) ≡ f (a + n)
  unfolding tabulate flatten
  two_at_lem a zero rest n h = absurd (omega arith)
  two_at_lem a (suc k) rest zero h = let e : f a % 256 + 256 * (f a / 256) ≡ f a = omega arith in e ∙ ap f (let i : a ≡ a + zero = omega arith in i)
  two_at_lem a (suc k) rest (suc n) h =
      two_later (f a % 256) (f a / 256) (flatten (tabulate (λ i. two_bytes (f i)) (suc a) k) ++ rest) n
      ∙ two_at_lem (suc a) k rest n (omega arith) ∙ ap f (let i : suc a + n ≡ a + suc n = omega arith in i)

-- ---- the bundle

module _ (s : List ℕ) (c : ℕ) where
  pub length_offsets : length (offsets s c) ≡ 2 * c
  length_offsets = length_two (start_of s) 0 c

  pub offsets_next : offsets s c ++ two_bytes (start_of s c) ≡ offsets s (c + 1)
  offsets_next =
      ap (λ i. offsets s c ++ two_bytes (start_of s i)) (sym (zero-add c)) ∙ flatten_next (λ i. two_bytes (start_of s i)) 0 c ∙ ap (offsets s) (sym (add-one c))

  pub made_length : length (bundle_of s c) ≡ length s + trailer_length c
  unfolding bundle_of
  made_length =
      let a = length-append s (offsets s c ++ two_bytes c) in
      let b = length-append (offsets s c) (two_bytes c) in
      let l = length_offsets in
      omega arith

  -- 16 bits of the trailer
  trailer_two : (i k : ℕ) → k ≡ length s + i → two_at (bundle_of s c) k ≡ two_at (offsets s c ++ two_bytes c) i
  unfolding bundle_of
  trailer_two i k e =
      let j : k + 1 ≡ length s + (i + 1) = omega arith in
      ap₂ (λ x y. x + 256 * y) (ap (λ k. get_or (bundle_of s c) k 0) e ∙ get_or-append-add s (offsets s c ++ two_bytes c) i 0)
      (ap (λ k. get_or (bundle_of s c) k 0) j ∙ get_or-append-add s (offsets s c ++ two_bytes c) (i + 1) 0)

  pub made_count : sheet_count (bundle_of s c) ≡ c
  made_count =
      let n = made_length in
      let o = length_offsets in
      let i : length (offsets s c) ≡ length (offsets s c) + 0 = omega arith in
      let e : c % 256 + 256 * (c / 256) ≡ c = omega arith in
      trailer_two (length (offsets s c)) (length (bundle_of s c) - 2) (omega arith)
      ∙ ap₂ (λ x y. x + 256 * y) (ap (λ k. get_or (offsets s c ++ two_bytes c) k 0) i ∙ get_or-append-add (offsets s c) (two_bytes c) 0 0)
      (get_or-append-add (offsets s c) (two_bytes c) 1 0)
      ∙ e

  made_trailer : trailer_start (bundle_of s c) ≡ length s
  made_trailer = let n = made_length in let e = made_count in omega arith

  module _ (h : EndToEnd s c) where
    inside : (n : ℕ) → n < c → start_of s n < length s
    unfolding start_of
    inside n l = let f = h.firsts n l in let m = start_le s (suc n) c l in let e = h.ended in omega arith

    pub made_first : (n : ℕ) → n < c → get_or (bundle_of s c) (start_of s n) 0 ≡ get_or s (start_of s n) 0
    unfolding bundle_of
    made_first n l = get_or-append s (offsets s c ++ two_bytes c) 0 (start_of s n) (inside n l)

    pub made_start : (n : ℕ) → n ≤ c → start_of (bundle_of s c) n ≡ start_of s n
    unfolding start_of
    made_start zero l = refl
    made_start (suc n) l =
        let a = made_start n (omega arith) in
        let f = ap (λ k. get_or (bundle_of s c) k 0) a ∙ made_first n (omega arith) in
        ap₂ (λ x y. x + (y - 56)) a f

    pub made_bundled : c ≤ most_sheets → Bundled (bundle_of s c)
    made_bundled few =
        let l = made_length in
        let e = made_count in
        let t = made_trailer in
        record {
          long = omega arith;
          fits = omega arith;
          few = omega arith;
          firsts = λ n i.
              let f = ap (λ k. get_or (bundle_of s c) k 0) (made_start n (omega arith)) ∙ made_first n (omega arith) in
              let g = h.firsts n (omega arith) in
              omega arith;
          follows = λ n i.
              trailer_two (2 * n) (trailer_start (bundle_of s c) + 2 * n) (omega arith)
              ∙ two_at_lem (start_of s) 0 c (two_bytes c) n (omega arith) ∙ ap (start_of s) (zero-add n) ∙ sym (made_start n (omega arith));
          ended = ap (start_of (bundle_of s c)) e ∙ made_start c (omega arith) ∙ h.ended ∙ sym t;
        }

    -- its parts are the sheets, end to end
    pub made_parts : c ≤ most_sheets → flatten (tabulate (sheet_in (bundle_of s c)) 0 c) ≡ s
    unfolding bundle_of
    made_parts few =
        ap (λ n. flatten (tabulate (sheet_in (bundle_of s c)) 0 n)) (sym made_count)
        ∙ parts_end_to_end (bundle_of s c) (made_bundled few)
        ∙ ap (λ n. take n (bundle_of s c)) made_trailer
        ∙ take-append_seam s (offsets s c ++ two_bytes c)

-- ---- of a list of sheets

-- what a bundle needs of a sheet: it says how long it is, and is not shorter than a sheet may be
pub record Opens (s : List ℕ) : Type 0 where
  pub counted : Counted s
  pub long : shortest ≤ length s

pub start_behind : (s r : List ℕ) → Counted s → (n : ℕ) → start_of (s ++ r) (suc n) ≡ length s + start_of r n
unfolding start_of
start_behind s r c zero = let e = first_end_lem s r c in omega arith
start_behind s r c (suc n) =
    let a = start_behind s r c n in
    let f = ap (λ k. get_or (s ++ r) k 0) a ∙ get_or-append-add s r (start_of r n) 0 in
    ap₂ (λ x y. x + (y - 56)) a f ∙ omega arith

pub end_to_end : (ss : List (List ℕ)) → Each Opens ss → EndToEnd (flatten ss) (length ss)
unfolding flatten start_of
end_to_end [] o = record { firsts = λ i h. absurd (omega arith); ended = refl }
end_to_end (s ∷ ss) o =
    let p = o 0 (omega arith) in
    let h = end_to_end ss (λ n l. o (suc n) (omega arith)) in
    record {
      firsts = λ i l. first i l p h;
      ended = start_behind s (flatten ss) p.counted (length ss) ∙ ap (λ n. length s + n) h.ended ∙ sym (length-append s (flatten ss));
    }
  where
    first : (i : ℕ) → i < suc (length ss) → Opens s → EndToEnd (flatten ss) (length ss) → 64 ≤ get_or (s ++ flatten ss) (start_of (s ++ flatten ss) i) 0
    first zero l p h = let e = first_end_lem s (flatten ss) p.counted in let m = p.long in omega arith
    first (suc i) l p h =
        let e = ap (λ k. get_or (s ++ flatten ss) k 0) (start_behind s (flatten ss) p.counted i) ∙ get_or-append-add s (flatten ss) (start_of (flatten ss) i) 0 in
        let f = h.firsts i (omega arith) in
        omega arith

module _ (ss : List (List ℕ)) (o : Each Opens ss) (few : length ss ≤ most_sheets) where
  abbrev made : List ℕ
  made = bundle_of (flatten ss) (length ss)

  bundled : Bundled made
  bundled = made_bundled (flatten ss) (length ss) (end_to_end ss o) few

  -- "A bundle holds up to 512 sheets": made of sheets, it is read without refusal
  pub made_refusal : (n : ℕ) → n < length ss → bundle_refusal made n ≡ 0
  made_refusal n l = let e = made_count (flatten ss) (length ss) in read_refusal made bundled n (omega arith)

  pub made_no_sheet : (n : ℕ) → length ss ≤ n → bundle_refusal made n ≡ 22
  made_no_sheet n l = let e = made_count (flatten ss) (length ss) in no_sheet_refusal made bundled n (omega arith)

  parts : tabulate (sheet_in made) 0 (length ss) ≡ ss
  parts =
      told_apart (tabulate (sheet_in made) 0 (length ss)) ss
      (λ n l. let k = length_tabulate (sheet_in made) 0 (length ss) in
      subst Counted (sym (get_d_tabulate (sheet_in made) 0 (length ss) n [] (omega arith) ∙ ap (sheet_in made) (zero-add n))) (part_counted made n (made_refusal n (omega arith))))
      (λ n l. (o n l).counted) (made_parts (flatten ss) (length ss) (end_to_end ss o) few)

  -- and gives back each of them
  pub made_sheet : (n : ℕ) → n < length ss → sheet_in made n ≡ get_or ss n []
  made_sheet n l = ap (sheet_in made) (sym (zero-add n)) ∙ sym (get_d_tabulate (sheet_in made) 0 (length ss) n [] l) ∙ ap (λ x. get_or x n []) parts

-- "An empty bundle is two zero bytes", of which every n earns 22
pub made_empty : bundle_of [] 0 ≡ 0 ∷ 0 ∷ []
unfolding bundle_of tabulate flatten
made_empty = refl

pub empty_bundle : (n : ℕ) → bundle_refusal (0 ∷ 0 ∷ []) n ≡ 22
unfolding flatten
empty_bundle n = subst (λ b. bundle_refusal b n ≡ 22) made_empty (made_no_sheet [] (λ k h. absurd (omega arith)) (omega arith) n (omega arith))

-- "the sheet's own checks come when it is read": one that is longer than a sheet may be is handed back, and then earns 10
pub too_long_a_sheet : (s : List ℕ) → Counted s → longest < length s → (bundle_refusal (bundle_of s 1) 0 ≡ 0) × (sheet_in (bundle_of s 1) 0 ≡ s) × (sheet_refusal s ≡ 10)
unfolding flatten sheet_refusal
too_long_a_sheet s c l =
    let o : Each Opens (s ∷ []) = λ n h. alone n h in
    let e = ap (λ x. bundle_of x 1) (append-nil s) in (
      subst (λ b. bundle_refusal b 0 ≡ 0) e (made_refusal (s ∷ []) o (omega arith) 0 (omega arith)),
      subst (λ b. sheet_in b 0 ≡ s) e (made_sheet (s ∷ []) o (omega arith) 0 (omega arith)),
      rw (le-ltb (length s) shortest (omega arith), lt-ltb longest (length s) l),
    )
  where
    alone : (n : ℕ) → n < 1 → Opens (get_or (s ∷ []) n [])
    alone zero h = record { counted = c; long = omega arith }
    alone (suc n) h = absurd (omega arith)
