-- Operator files (document 01, "Operators"; document 02, P10), and what an output buffer holds. A file is the list of its bytes.
use Rattle.std.specs.Prelude.{Bool, cond, ◌||◌, List, ◌++◌, ◌≡◌, ℕ, zero, suc, ◌+◌, ◌*◌, ◌-◌, ◌/◌, ◌%◌, ◌^◌, ◌<◌, ◌≤◌, eqb, ltb, ℤ, pos, negsuc, nat_abs, ◌-ℤ◌, length, get_or, take, drop}
use Rattle.matrix.specs.Range.{tabulate}
use Rattle.matrix.specs.Matrix.{entry}
use Rattle.matrix.specs.Operator.{Operator, operator}

-- ---- the two kinds of file

-- "Operators may have k up to 60 in a second file of 145 bytes with 32-bit entries; the 73-byte file stays for k up to 28"
pub data Kind : Type 0 where
  short_file : Kind
  long_file : Kind

abbrev pub short_length : ℕ
short_length = 73

abbrev pub long_length : ℕ
long_length = 145

abbrev pub short_exponent : ℕ
short_exponent = 28

-- the largest exponent that any file carries
abbrev pub largest_exponent : ℕ
largest_exponent = 60

abbrev pub length_of : Kind → ℕ
length_of short_file = short_length
length_of long_file = long_length

-- the largest exponent of a kind: "28 for the short file and 60 for the long one"
abbrev pub exponent_of : Kind → ℕ
exponent_of short_file = short_exponent
exponent_of long_file = largest_exponent

-- the bytes of an entry
abbrev pub width_of : Kind → ℕ
width_of short_file = 2
width_of long_file = 4

-- what the highest of an entry's bits is worth
abbrev pub highest_of : Kind → ℕ
highest_of short_file = 2 ^ 15
highest_of long_file = 2 ^ 31

-- whether a file may have n bytes: "Number 1 now allows both lengths"
abbrev pub is_length : ℕ → Bool
is_length n = eqb n short_length || eqb n long_length

-- the kind of a file of n bytes, where it may have so many
abbrev pub kind_of : ℕ → Kind
kind_of n = cond (eqb n long_length) long_file short_file

-- the kind that is written for the exponent k: the short file "is what we write when it suffices"
abbrev pub kind_for : ℕ → Kind
kind_for k = cond (ltb short_exponent k) long_file short_file

-- ---- what a file says

-- "Byte 0 is k"
abbrev pub file_exponent : List ℕ → ℕ
file_exponent b = get_or b 0 0

-- "two's complement": the number that bits are, the highest of which is worth h
abbrev pub signed_of : ℕ → ℕ → ℤ
signed_of h u = cond (ltb u h) (pos u) (pos u -ℤ pos (2 * h))

-- the 16 bits at a place, "low byte first"
abbrev pub two_at : List ℕ → ℕ → ℕ
two_at b i = get_or b i 0 + 256 * get_or b (i + 1) 0

-- the bits of entry n, 16 or 32 of them
abbrev pub entry_bits : Kind → List ℕ → ℕ → ℕ
entry_bits short_file b n = two_at b (1 + 2 * n)
entry_bits long_file b n = two_at b (1 + 4 * n) + 65536 * two_at b (3 + 4 * n)

-- entry n of a file of this kind
abbrev pub entry_of : Kind → List ℕ → ℕ → ℤ
entry_of t b n = signed_of (highest_of t) (entry_bits t b n)

-- "36 entries"
unfoldable pub file_matrix : List ℕ → List ℤ
file_matrix b = tabulate (entry_of (kind_of (length b)) b) 0 36

-- the operator of a file
abbrev pub file_operator : List ℕ → Operator
file_operator b = operator (file_exponent b) (entry (file_matrix b))

-- a file "of the right length with an exponent in range" (demand 3), so that it earns neither 1 nor 2
pub record InForm (b : List ℕ) : Type 0 where
  pub size : length b ≡ length_of (kind_of (length b))
  pub range : file_exponent b ≤ exponent_of (kind_of (length b))

-- ---- the file of an operator

-- every entry fits a file of this kind
pub record Fits (t : Kind) (m : List ℤ) : Type 0 where
  pub below : (n : ℕ) → n < 36 → nat_abs (get_or m n (pos 0)) < highest_of t

-- the bits of a number in two's complement, the highest of which is worth h
abbrev pub bits_of : ℕ → ℤ → ℕ
bits_of h (pos n) = n
bits_of h (negsuc n) = 2 * h - suc n

-- byte p of a number, the lowest of which is byte 0
abbrev pub byte_of : ℕ → ℕ → ℕ
byte_of u p = u / 256 ^ p % 256

-- byte p of a file: the exponent, and from 1 on the bytes of each entry, "low byte first"
abbrev pub file_byte : Kind → ℕ → List ℤ → ℕ → ℕ
file_byte t k m zero = k
file_byte t k m (suc p) = byte_of (bits_of (highest_of t) (get_or m (p / width_of t) (pos 0))) (p % width_of t)

-- the file of this kind: "Byte 0 is k …. Then 36 entries"
unfoldable pub file_as : Kind → ℕ → List ℤ → List ℕ
file_as t k m = tabulate (file_byte t k m) 0 (length_of t)

-- the file that is written, and how many bytes it has
abbrev pub file_of : ℕ → List ℤ → List ℕ
file_of k m = file_as (kind_for k) k m

abbrev pub length_for : ℕ → ℕ
length_for k = length_of (kind_for k)

-- ---- an output buffer

-- the buffer `old` with `new` at its front: "bytes past the output also hold theirs"
unfoldable pub written : List ℕ → List ℕ → List ℕ
written old new = new ++ drop (length new) old

-- the bytes bs stand in the buffer from `at` on, and the rest is as it was; r is the place after them
pub record Appended (bs : List ℕ) (at : ℕ) (old new : List ℕ) (r : ℕ) : Type 0 where
  pub next : r ≡ at + length bs
  pub buffer : new ≡ take at old ++ bs ++ drop (at + length bs) old
