-- An operator written into an output buffer where it has room: "6 follows the file written" (document 02, P10).
use Rattle.std.specs.Prelude.{◌≡◌, cond, List, ℕ, ltb, ℤ, length, Result, Ok, Err}
use Rattle.file.specs.File.{length_for, file_of, written}

-- the answer, where the lent buffer has n bytes: 6, or the exponent
abbrev pub file_answer : ℕ → ℕ → Result ℕ ℕ
file_answer k n = cond (ltb n (length_for k)) (Err 6) (Ok k)

-- the buffer afterwards
abbrev pub file_buffer : ℕ → List ℤ → List ℕ → List ℕ
file_buffer k m old = cond (ltb (length old) (length_for k)) old (written old (file_of k m))

pub record FileWritten (k : ℕ) (m : List ℤ) (old new : List ℕ) (a : Result ℕ ℕ) : Type 0 where
  pub answer : a ≡ file_answer k (length old)
  pub buffer : new ≡ file_buffer k m old
