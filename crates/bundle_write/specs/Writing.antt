-- The bundle of sheets that a lab stores end to end (document 02, P7), and what the call that writes it promises.
use Rattle.std.specs.Prelude.{Bool, not, cond, ◌&&◌, ◌≡◌, ℕ, suc, ◌+◌, ◌*◌, ◌<◌, eqb, leb, ltb, length, Result, Ok, Err}
use mathlib.Core.List.{List, flatten}
use Rattle.matrix.specs.Range.{first_from, tabulate}
use Rattle.file.specs.File.{written}
use Rattle.sheet_bytes.specs.Bytes.{shortest, longest}
use Rattle.bundle.specs.Bundle.{most_sheets, trailer_length, length_at, start_of, bundle_refusal, sheet_in, bundle_of}

-- whether a whole sheet stands at a place: as long as its first byte says, which is a length that a sheet may have, and not past the end
abbrev pub is_whole : List ℕ → ℕ → Bool
is_whole s at = leb shortest (length_at s at) && (leb (length_at s at) longest && leb (at + length_at s at) (length s))

-- how many whole sheets stand end to end from the front on; they are counted up to one more than a bundle holds
abbrev pub stored_count : List ℕ → ℕ
stored_count s = first_from (λ n. not (is_whole s (start_of s n))) 0 (suc most_sheets)

-- "20, … more than 512"; "21, …": bytes that are not sheets end to end
unfoldable pub sheets_refusal : List ℕ → ℕ
sheets_refusal s =
    cond (ltb most_sheets (stored_count s)) 20
    (cond (not (eqb (start_of s (stored_count s)) (length s))) 21 0)

-- the bundle of sheets that stand end to end
unfoldable pub sheets_bundle : List ℕ → List ℕ
sheets_bundle s = bundle_of s (stored_count s)

-- the most bytes that such a bundle has
abbrev pub longest_written : ℕ
longest_written = most_sheets * longest + trailer_length most_sheets

-- the answer, where the lent buffer has n bytes: the refusals of the sheets, and then 6, a buffer that is shorter than the bundle
unfoldable pub bundle_answer : List ℕ → ℕ → Result ℕ ℕ
bundle_answer s n =
    cond (eqb (sheets_refusal s) 0)
    (cond (ltb n (length (sheets_bundle s))) (Err 6) (Ok (length (sheets_bundle s))))
    (Err (sheets_refusal s))

-- the buffer afterwards
unfoldable pub bundle_buffer : List ℕ → List ℕ → List ℕ
bundle_buffer s old =
    cond (eqb (sheets_refusal s) 0) (cond (ltb (length old) (length (sheets_bundle s))) old (written old (sheets_bundle s))) old

pub record BundlePromise (s old new : List ℕ) (a : Result ℕ ℕ) : Type 0 where
  pub answer : a ≡ bundle_answer s (length old)
  pub buffer : new ≡ bundle_buffer s old
  -- what is written is read without refusal, and its parts, end to end, are the sheets
  pub reads : sheets_refusal s ≡ 0 → (n : ℕ) → n < stored_count s → bundle_refusal (sheets_bundle s) n ≡ 0
  pub parts : sheets_refusal s ≡ 0 → flatten (tabulate (sheet_in (sheets_bundle s)) 0 (stored_count s)) ≡ s
