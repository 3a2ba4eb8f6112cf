-- Reading back what was written, and the sizes that the arithmetic on a file's entries needs.
use Rattle.std.specs.Prelude.{◌≡◌, refl, Bool, true, false, cond, ◌||◌, List, ℕ, ◌+◌, ◌*◌, ◌/◌, ◌%◌, ◌^◌, ◌<◌, ◌≤◌, eqb, ltb, ℤ, pos, nat_abs, length, get_or}
use Rattle.std.proofs.Math.Path.{sym, ap}
use Rattle.std.proofs.Common.{ap₂, subst, ◌∙◌, eqb-true, ltb-true, ltb-false, lt-ltb, le-ltb}
use native.Mathlib.Omega.{arith}
use Rattle.matrix.specs.Matrix.{entry}
use Rattle.matrix.specs.Operator.{operator, Orthogonal}
use Rattle.matrix.specs.Array.{Bounded}
use Rattle.matrix.specs.Laws.Test.{true_T}
use Rattle.matrix.specs.Laws.Range.{length_tabulate, get_d_tabulate, tabulate_is}
use Rattle.matrix.specs.Laws.Array.{entry_flat, orthogonal_bounded}
use Rattle.file.specs.File.{Kind, short_file, long_file, short_length, long_length, short_exponent, largest_exponent, length_of, exponent_of, width_of, highest_of, is_length, kind_of, kind_for, file_exponent, signed_of, entry_of, file_matrix, file_operator, InForm, Fits, bits_of, file_byte, file_as, file_of, length_for}
use Rattle.file.specs.Laws.Bytes.{bits_lt, signed_bits, signed_size, bytes_entry, file_byte_lem, entry_lt}

-- ---- the kind of a file

pub kind_of_length : (t : Kind) → kind_of (length_of t) ≡ t
kind_of_length short_file = refl
kind_of_length long_file = refl

-- the length of a file that may have it is that of its kind, and the other way round
pub is_length_lem : (n : ℕ) → n ≡ length_of (kind_of n) → is_length n ≡ true
is_length_lem n = go (eqb n long_length) refl
  where
    go : (t : Bool) → eqb n long_length ≡ t → n ≡ length_of (cond t long_file short_file) → is_length n ≡ true
    go true e l = subst (λ n. is_length n ≡ true) (sym (eqb-true n long_length e)) refl
    go false e l = subst (λ n. is_length n ≡ true) (sym l) refl

pub length_is : (n : ℕ) → is_length n ≡ true → n ≡ length_of (kind_of n)
length_is n = go (eqb n short_length) refl (eqb n long_length) refl
  where
    go : (s : Bool) → eqb n short_length ≡ s → (l : Bool) → eqb n long_length ≡ l → (s || l) ≡ true → n ≡ length_of (cond l long_file short_file)
    go s p true q e = eqb-true _ _ q
    go true p false q e = eqb-true _ _ p
    go false p false q e = absurd (true_T e)

-- what holds of the kind that k calls for: the two cases
pub for_kind : (P : Kind → Type 0) (k : ℕ) → (k ≤ short_exponent → P short_file) → (short_exponent < k → P long_file) → P (kind_for k)
for_kind P k s l = go (ltb short_exponent k) refl
  where
    go : (t : Bool) → ltb short_exponent k ≡ t → P (cond t long_file short_file)
    go true e = l (ltb-true short_exponent k e)
    go false e = s (ltb-false short_exponent k e)

pub kind_range : (k : ℕ) → k ≤ largest_exponent → k ≤ exponent_of (kind_for k)
kind_range k h = for_kind (λ t. k ≤ exponent_of t) k (λ s. s) (λ l. h)

pub length_most : (k : ℕ) → length_for k ≤ long_length
length_most k = for_kind (λ t. length_of t ≤ long_length) k (λ s. omega arith) (λ l. omega arith)

-- "is what we write when it suffices", and else the long file
pub short_for : (k : ℕ) → k ≤ short_exponent → kind_for k ≡ short_file
short_for k h = rw (le-ltb short_exponent k h)

pub long_for : (k : ℕ) → short_exponent < k → kind_for k ≡ long_file
long_for k h = rw (lt-ltb short_exponent k h)

-- the places of an entry's bytes are in the file
places : (t : Kind) (n j : ℕ) → n < 36 → j < width_of t → 1 + (width_of t * n + j) < length_of t
places short_file n j h l = omega arith
places long_file n j h l = omega arith

pub some_byte : (t : Kind) → 0 < length_of t
some_byte short_file = omega arith
some_byte long_file = omega arith

-- ---- reading back

module _ (t : Kind) (k : ℕ) (m : List ℤ) where
  pub length_as : length (file_as t k m) ≡ length_of t
  unfolding file_as
  length_as = length_tabulate (file_byte t k m) 0 (length_of t)

  kind_as : kind_of (length (file_as t k m)) ≡ t
  kind_as = ap kind_of length_as ∙ kind_of_length t

  byte_at : (p : ℕ) → p < length_of t → get_or (file_as t k m) p 0 ≡ file_byte t k m p
  unfolding file_as
  byte_at p h = let e : 0 + p ≡ p = omega arith in get_d_tabulate (file_byte t k m) 0 (length_of t) p 0 h ∙ ap (file_byte t k m) e

  pub exponent_as : file_exponent (file_as t k m) ≡ k
  exponent_as = byte_at 0 (some_byte t)

  pub in_form_as : k ≤ exponent_of t → InForm (file_as t k m)
  in_form_as h = record { size = length_as ∙ ap length_of (sym kind_as); range = rw (exponent_as, kind_as) h }

  module _ (f : Fits t m) where
    entry_as : (n : ℕ) → n < 36 → entry_of (kind_of (length (file_as t k m))) (file_as t k m) n ≡ get_or m n (pos 0)
    entry_as n h =
        let x = get_or m n (pos 0) in
        let e = bytes_entry t (file_as t k m) n (bits_of (highest_of t) x) (bits_lt (highest_of t) x (f.below n h)) (λ j l. byte_at (1 + (width_of t * n + j)) (places t n j h l) ∙ file_byte_lem t k m n j l) in
        ap (λ u. entry_of u (file_as t k m) n) kind_as ∙ ap (signed_of (highest_of t)) e ∙ signed_bits (highest_of t) x (f.below n h)

    pub matrix_as : length m ≡ 36 → file_matrix (file_as t k m) ≡ m
    unfolding file_matrix
    matrix_as l = sym (tabulate_is (entry_of (kind_of (length (file_as t k m))) (file_as t k m)) 36 (pos 0) m l (λ n h. sym (entry_as n h)))

    pub operator_as : length m ≡ 36 → file_operator (file_as t k m) ≡ operator k (entry m)
    operator_as l = ap₂ (λ x y. operator x (entry y)) exponent_as (matrix_as l)

-- ---- what is read

pub length_file_matrix : (b : List ℕ) → length (file_matrix b) ≡ 36
unfolding file_matrix
length_file_matrix b = length_tabulate (entry_of (kind_of (length b)) b) 0 36

module _ (b : List ℕ) (bytes : (i : ℕ) → get_or b i 0 < 256) where
  pub entry_size : (t : Kind) (n : ℕ) → nat_abs (entry_of t b n) ≤ highest_of t
  entry_size t n = signed_size (highest_of t) _ (entry_lt t b bytes n)

  largest : (t : Kind) (n : ℕ) → nat_abs (entry_of t b n) ≤ 2 ^ 31
  largest short_file n = let h = entry_size short_file n in omega arith
  largest long_file n = entry_size long_file n

  -- small enough to be squared
  pub file_bounded : Bounded (2 ^ 31) (entry (file_matrix b))
  unfolding file_matrix
  file_bounded = record {
    size = λ r c hr hc.
        rw (get_d_tabulate (entry_of (kind_of (length b)) b) 0 36 (r * 6 + c) (pos 0) (omega arith)) (largest (kind_of (length b)) (0 + (r * 6 + c)));
  }

-- ---- what can be written

bounded_fits : (t : Kind) (b : ℕ) (m : List ℤ) → b < highest_of t → Bounded b (entry m) → Fits t m
bounded_fits t b m h s = record {
  below = λ n l. let q : nat_abs (get_or m n (pos 0)) ≤ b = rw entry_flat at (s.size (n / 6) (n % 6) (omega arith) (omega arith)) in omega arith;
}

-- every operator that a file may carry
pub kind_fits : (t : Kind) (k : ℕ) (m : List ℤ) → k ≤ exponent_of t → Orthogonal (operator k (entry m)) → Fits t m
kind_fits short_file k m h o = bounded_fits short_file (2 ^ 14) m (omega arith) (orthogonal_bounded k 14 (entry m) o (omega arith))
kind_fits long_file k m h o = bounded_fits long_file (2 ^ 30) m (omega arith) (orthogonal_bounded k 30 (entry m) o (omega arith))

pub orthogonal_fits : (k : ℕ) (m : List ℤ) → k ≤ largest_exponent → Orthogonal (operator k (entry m)) → Fits (kind_for k) m
orthogonal_fits k m h o = kind_fits (kind_for k) k m (kind_range k h) o

-- ---- the file that is written

module _ (k : ℕ) (m : List ℤ) where
  pub length_file : length (file_of k m) ≡ length_for k
  length_file = length_as (kind_for k) k m

  pub exponent_back : file_exponent (file_of k m) ≡ k
  exponent_back = exponent_as (kind_for k) k m

  module _ (h : k ≤ largest_exponent) where
    pub file_in_form : InForm (file_of k m)
    file_in_form = in_form_as (kind_for k) k m (kind_range k h)

    module _ (o : Orthogonal (operator k (entry m))) (l : length m ≡ 36) where
      pub matrix_back : file_matrix (file_of k m) ≡ m
      matrix_back = matrix_as (kind_for k) k m (orthogonal_fits k m h o) l

      pub operator_back : file_operator (file_of k m) ≡ operator k (entry m)
      operator_back = operator_as (kind_for k) k m (orthogonal_fits k m h o) l
