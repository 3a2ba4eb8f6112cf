-- A file written an entry at a time.
use Rattle.std.specs.Prelude.{◌≡◌, refl, List, [], ◌∷◌, ℕ, ◌+◌, ◌*◌, ◌^◌, ◌<◌, ◌≤◌, ℤ, pos, length, get_or, set, take}
use Rattle.std.proofs.Common.{sym, ap, subst, ◌∙◌, arith, to_z, of_z, to_z-of_z}
use Rattle.std.specs.Int.{w32, w64, to_le_bytes}
use Rattle.matrix.specs.Range.{tabulate}
use Rattle.matrix.specs.Laws.Range.{length_tabulate, get_d_tabulate}
use Rattle.matrix.specs.Laws.Machine.{kept, mag_le}
use Rattle.file.specs.File.{Kind, short_file, long_file, length_of, width_of, highest_of, Fits, bits_of, byte_of, file_byte, file_as, Appended, written}
use Rattle.file.specs.Laws.Bytes.{file_byte_lem, low_bytes}
use Rattle.file.specs.Laws.File.{length_as, some_byte}
use Rattle.file.specs.Laws.Written.{written_over, tabulate_more, appended_as, appended_front, appended_append, appended_length}

-- where entry n stands
abbrev pub place : Kind → ℕ → ℕ
place t n = 1 + width_of t * n

next_place : (t : Kind) (n : ℕ) → place t n + width_of t ≡ place t (n + 1)
next_place short_file n = omega arith
next_place long_file n = omega arith

in_file : (t : Kind) (n : ℕ) → n ≤ 36 → place t n ≤ length_of t
in_file short_file n h = omega arith
in_file long_file n h = omega arith

all_places : (t : Kind) → place t 36 ≡ length_of t
all_places short_file = refl
all_places long_file = refl

highest_small : (t : Kind) → highest_of t ≤ 2 ^ 31
highest_small short_file = omega arith
highest_small long_file = omega arith

-- an entry that fits, as the machine has it
pub stored_entry : (t : Kind) (m : List ℤ) → Fits t m → (n : ℕ) → n < 36 → to_z w64 (of_z w64 (get_or m n (pos 0))) ≡ get_or m n (pos 0)
stored_entry t m f n l = let h = mag_le (get_or m n (pos 0)) in let u = highest_small t in let x = f.below n l in kept (omega arith)

-- and its low bytes
pub stored_bytes : (t : Kind) (p : ℕ) → p ≡ width_of t → (m : List ℤ) → Fits t m → (n : ℕ) → n < 36
    → take p (to_le_bytes w32 (of_z w32 (to_z w32 (of_z w32 (to_z w64 (of_z w64 (get_or m n (pos 0)))))))) ≡ tabulate (byte_of (bits_of (highest_of t) (get_or m n (pos 0)))) 0 (width_of t)
stored_bytes t p s m f n l =
    let x = get_or m n (pos 0) in
    let h = mag_le x in
    let u = highest_small t in
    let b = f.below n l in
    let e = stored_entry t m f n l in
    let k : to_z w32 (of_z w32 x) ≡ x = to_z-of_z {w = w32} (record { sfits = omega arith }) in
    rw (e, k) (ap (λ q. take q (to_le_bytes w32 (of_z w32 x))) s ∙ low_bytes t x b)

-- the exponent and the first n entries are written
abbrev pub Begun : Kind → ℕ → List ℤ → ℕ → List ℕ → List ℕ → Type 0
Begun t k m n old new = Appended (tabulate (file_byte t k m) 0 (place t n)) 0 old new (place t n)

pub begun_none : (t : Kind) (k : ℕ) (m : List ℤ) (b : List ℕ) → length_of t ≤ length b → Begun t k m 0 (set b 0 k) (set b 0 k)
unfolding tabulate
begun_none t k m b h = go t b (let l = some_byte t in omega arith)
  where
    go : (t : Kind) (b : List ℕ) → 0 < length b → Begun t k m 0 (set b 0 k) (set b 0 k)
    go t [] l = absurd (omega arith)
    go short_file (x ∷ b) l = record { next = refl; buffer = refl }
    go long_file (x ∷ b) l = record { next = refl; buffer = refl }

module _ (t : Kind) (k : ℕ) (m : List ℤ) (n : ℕ) (old new : List ℕ) (w : Begun t k m n old new) (l : length_of t ≤ length old) where
  front : n ≤ 36 → 0 + length (tabulate (file_byte t k m) 0 (place t n)) ≤ length old
  front h = let e = length_tabulate (file_byte t k m) 0 (place t n) in let i = in_file t n h in omega arith

  -- the buffer keeps its length
  pub begun_length : n ≤ 36 → length new ≡ length old
  begun_length h = appended_length w (front h)

  -- a turn writes the bytes of entry n
  module _ (u : ℕ) (e : u ≡ bits_of (highest_of t) (get_or m n (pos 0))) (h : n < 36) (last : List ℕ) (v : Appended (tabulate (byte_of u) 0 (width_of t)) (place t n) new last (place t n + width_of t)) where
    entry : (i : ℕ) → i < length (tabulate (byte_of u) 0 (width_of t)) → get_or (tabulate (byte_of u) 0 (width_of t)) i 0 ≡ file_byte t k m (place t n + i)
    entry i d =
        let j : i < width_of t = rw (length_tabulate (byte_of u) 0 (width_of t)) at d in
        get_d_tabulate (byte_of u) 0 (width_of t) i 0 j ∙ ap (byte_of u) (zero i) ∙ ap (λ x. byte_of x i) e ∙ sym (file_byte_lem t k m n i j) ∙ ap (file_byte t k m) (moved (width_of t * n) i)
      where
        zero : (i : ℕ) → 0 + i ≡ i
        zero i = omega arith

        moved : (x i : ℕ) → 1 + (x + i) ≡ 1 + x + i
        moved x i = omega arith

    pub begun_more : Begun t k m (n + 1) old last
    begun_more =
        let f = file_byte t k m in
        let s = ap (λ x. place t n + x) (length_tabulate (byte_of u) 0 (width_of t)) ∙ next_place t n in
        subst (Appended (tabulate f 0 (place t (n + 1))) 0 old last) (next_place t n)
        (appended_as (tabulate_more f (place t n) (tabulate (byte_of u) 0 (width_of t)) entry ∙ ap (tabulate f 0) s) (appended_append w (front (omega arith)) v))

-- the whole file; k was written first
pub begun_all : (t : Kind) (k : ℕ) (m : List ℤ) (n : ℕ) (b new : List ℕ) → n ≡ 36 → Begun t k m n (set b 0 k) new → new ≡ written b (file_as t k m)
unfolding file_as
begun_all t k m n b new e w =
    appended_front w
    ∙ ap (λ x. written (set b 0 k) (tabulate (file_byte t k m) 0 x)) (ap (place t) e ∙ all_places t)
    ∙ written_over b (file_as t k m) 0 k (rw (length_as t k m) (some_byte t))
