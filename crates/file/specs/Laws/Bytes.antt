-- The bits and the bytes of an entry.
use Rattle.std.specs.Prelude.{◌≡◌, refl, Bool, true, false, cond, List, [], ◌∷◌, ℕ, zero, suc, ◌+◌, ◌*◌, ◌-◌, ◌/◌, ◌%◌, ◌^◌, ◌<◌, ◌≤◌, T, ltb, ℤ, pos, negsuc, nat_abs, ◌+ℤ◌, ◌-ℤ◌, get_or, take}
use Rattle.std.proofs.Common.{sym, ap, ap₂, ◌∙◌, subst, mod-eq_of_lt, arith, lt-ltb, le-ltb, ltb-true, ltb-false}
use Rattle.std.proofs.Math.Nat.{div-div-eq-div-mul}
use Rattle.std.specs.Int.{w32, cast_unsigned, to_le_bytes}
use Rattle.std.specs.Int.Signed.{lt_z}
use Rattle.matrix.specs.Range.{tabulate}
use Rattle.file.specs.File.{Kind, short_file, long_file, width_of, highest_of, signed_of, two_at, entry_bits, bits_of, byte_of, file_byte}

-- ---- two's complement, where the highest bit is worth h

minus : (a b : ℕ) → a < b → pos a -ℤ pos b ≡ negsuc (b - suc a)
minus a zero l = absurd (omega arith)
minus a (suc b) l = rw (lt-ltb a (suc b) l)

module _ (h : ℕ) where
  pub bits_lt : (x : ℤ) → nat_abs x < h → bits_of h x < 2 * h
  bits_lt (pos n) f = omega arith
  bits_lt (negsuc n) f = omega arith

  -- the bits of a number below zero
  pub bits_negative : (x : ℤ) → nat_abs x < h → lt_z x (pos 0) ≡ true → x +ℤ pos (2 * h) ≡ pos (bits_of h x)
  bits_negative (pos n) f t = let l = ltb-true n 0 t in absurd (omega arith)
  bits_negative (negsuc n) f t = let l : suc n ≤ 2 * h = omega arith in rw (le-ltb (2 * h) (suc n) l)

  -- and of one that is not below
  pub bits_positive : (x : ℤ) → lt_z x (pos 0) ≡ false → x ≡ pos (bits_of h x)
  bits_positive (pos n) t = refl
  bits_positive (negsuc n) t = absurd (subst T t tt)

  pub signed_bits : (x : ℤ) → nat_abs x < h → signed_of h (bits_of h x) ≡ x
  signed_bits (pos n) f = rw (lt-ltb n h f)
  signed_bits (negsuc n) f =
      let l : h ≤ 2 * h - suc n = omega arith in
      let u : 2 * h - suc n < 2 * h = omega arith in
      let e : 2 * h - suc (2 * h - suc n) ≡ n = omega arith in
      rw (le-ltb (2 * h - suc n) h l) (minus (2 * h - suc n) (2 * h) u ∙ ap negsuc e)

  pub signed_size : (u : ℕ) → u < 2 * h → nat_abs (signed_of h u) ≤ h
  signed_size u l = go (ltb u h) refl
    where
      go : (t : Bool) → ltb u h ≡ t → nat_abs (cond t (pos u) (pos u -ℤ pos (2 * h))) ≤ h
      go true e = let i = ltb-true u h e in omega arith
      go false e = let i = ltb-false u h e in rw (minus u (2 * h) l) (omega arith)

-- ---- bytes

-- the 16 bits at a place, by the two bytes there
two_of : (b : List ℕ) (i j k : ℕ) → i ≡ j → i + 1 ≡ k → {x y : ℕ} → get_or b j 0 ≡ x → get_or b k 0 ≡ y → two_at b i ≡ x + 256 * y
two_of b i j k p q e f = ap₂ (λ x y. x + 256 * y) (ap (λ i. get_or b i 0) p ∙ e) (ap (λ i. get_or b i 0) q ∙ f)

-- an entry's bits, by its bytes
pub bytes_entry : (t : Kind) (b : List ℕ) (n u : ℕ) → u < 2 * highest_of t → ((j : ℕ) → j < width_of t → get_or b (1 + (width_of t * n + j)) 0 ≡ byte_of u j) → entry_bits t b n ≡ u
bytes_entry short_file b n u l e =
    let v : byte_of u 0 + 256 * byte_of u 1 ≡ u = omega arith in
    two_of b (1 + 2 * n) _ _ (omega arith) (omega arith) (e 0 (omega arith)) (e 1 (omega arith)) ∙ v
bytes_entry long_file b n u l e =
    let p : u / 256 / 256 ≡ u / 65536 = div-div-eq-div-mul u 256 256 in
    let q : u / 65536 / 256 ≡ u / 16777216 = div-div-eq-div-mul u 65536 256 in
    let low : byte_of u 0 + 256 * byte_of u 1 ≡ u % 65536 = omega arith in
    let last : u / 16777216 % 256 ≡ u / 65536 / 256 = mod-eq_of_lt (omega arith) ∙ sym q in
    let parts : u / 65536 % 256 + 256 * (u / 65536 / 256) ≡ u / 65536 = omega arith in
    let high : byte_of u 2 + 256 * byte_of u 3 ≡ u / 65536 = ap (λ x. byte_of u 2 + 256 * x) last ∙ parts in
    let v : u % 65536 + 65536 * (u / 65536) ≡ u = omega arith in
    ap₂ (λ x y. x + 65536 * y)
    (two_of b (1 + 4 * n) _ _ (omega arith) (omega arith) (e 0 (omega arith)) (e 1 (omega arith)) ∙ low)
    (two_of b (3 + 4 * n) _ _ (omega arith) (omega arith) (e 2 (omega arith)) (e 3 (omega arith)) ∙ high)
    ∙ v

-- where they stand in a file
pub file_byte_lem : (t : Kind) (k : ℕ) (m : List ℤ) (n j : ℕ) → j < width_of t → file_byte t k m (1 + (width_of t * n + j)) ≡ byte_of (bits_of (highest_of t) (get_or m n (pos 0))) j
file_byte_lem t k m n j h =
    let (q, r) = divided t h in
    ap (file_byte t k m) (one_more (width_of t * n + j)) ∙ ap₂ (λ x y. byte_of (bits_of (highest_of t) (get_or m x (pos 0))) y) q r
  where
    one_more : (p : ℕ) → 1 + p ≡ suc p
    one_more p = omega arith

    divided : (t : Kind) → j < width_of t → ((width_of t * n + j) / width_of t ≡ n) × ((width_of t * n + j) % width_of t ≡ j)
    divided short_file l = let q : (2 * n + j) / 2 ≡ n = omega arith in let r : (2 * n + j) % 2 ≡ j = omega arith in (q, r)
    divided long_file l = let q : (4 * n + j) / 4 ≡ n = omega arith in let r : (4 * n + j) % 4 ≡ j = omega arith in (q, r)

-- an entry's bits fit its bytes
two_lt : (b : List ℕ) → ((i : ℕ) → get_or b i 0 < 256) → (i : ℕ) → two_at b i < 65536
two_lt b byte i = let x = byte i in let y = byte (i + 1) in omega arith

pub entry_lt : (t : Kind) (b : List ℕ) → ((i : ℕ) → get_or b i 0 < 256) → (n : ℕ) → entry_bits t b n < 2 * highest_of t
entry_lt short_file b byte n = let l = two_lt b byte (1 + 2 * n) in omega arith
entry_lt long_file b byte n = let l = two_lt b byte (1 + 4 * n) in let u = two_lt b byte (3 + 4 * n) in omega arith

lowest : (u : ℕ) → u % 256 ≡ byte_of u 0
lowest u = omega arith

-- the low bytes of a number's 32 bits
pub low_bytes : (t : Kind) (x : ℤ) → nat_abs x < highest_of t → take (width_of t) (to_le_bytes w32 (cast_unsigned w32 x)) ≡ tabulate (byte_of (bits_of (highest_of t) x)) 0 (width_of t)
unfolding tabulate
low_bytes short_file (pos n) h = ap (λ x. x ∷ byte_of n 1 ∷ []) (lowest n)
low_bytes short_file (negsuc n) h =
    let p : (2 ^ 32 - suc n) % 256 ≡ byte_of (2 ^ 16 - suc n) 0 = omega arith in
    let q : (2 ^ 32 - suc n) / 256 % 256 ≡ byte_of (2 ^ 16 - suc n) 1 = omega arith in
    ap₂ (λ x y. x ∷ y ∷ []) p q
low_bytes long_file (pos n) h = ap (λ x. x ∷ byte_of n 1 ∷ byte_of n 2 ∷ byte_of n 3 ∷ []) (lowest n)
low_bytes long_file (negsuc n) h = let u = 2 ^ 32 - suc n in ap (λ x. x ∷ byte_of u 1 ∷ byte_of u 2 ∷ byte_of u 3 ∷ []) (lowest u)
