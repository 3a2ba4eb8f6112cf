-- Bundles (document 02, P7): "A bundle holds up to 512 sheets end to end, then a trailer pointing back". A bundle is the list of its bytes.
use Rattle.std.specs.Prelude.{Bool, not, cond, ◌&&◌, ℕ, zero, suc, ◌+◌, ◌*◌, ◌-◌, ◌/◌, ◌%◌, ◌<◌, eqb, leb, ltb, length, get_or, take, drop, Result, Ok, Err}
use mathlib.Core.List.{List, [], ◌∷◌, ◌++◌, flatten}
use Rattle.matrix.specs.Range.{every, tabulate}
use Rattle.file.specs.File.{two_at}
use Rattle.bundle.specs.declared.Part.{Part}

-- "up to 512 sheets"
abbrev pub most_sheets : ℕ
most_sheets = 512

-- ---- the trailer

-- "the 16-bit number of sheets as the last two bytes"
abbrev pub sheet_count : List ℕ → ℕ
sheet_count b = two_at b (length b - 2)

-- the bytes of a trailer for n sheets
abbrev pub trailer_length : ℕ → ℕ
trailer_length n = 2 * n + 2

abbrev pub trailer_start : List ℕ → ℕ
trailer_start b = length b - trailer_length (sheet_count b)

-- "for each sheet the 16-bit offset of its first byte": that of sheet n
abbrev pub offset : List ℕ → ℕ → ℕ
offset b n = two_at b (trailer_start b + 2 * n)

-- ---- the sheets

-- "each sheet is as long as its first byte says (that byte less 56)": the one that starts at a place
abbrev pub length_at : List ℕ → ℕ → ℕ
length_at b at = get_or b at 0 - 56

-- where sheet n starts, by the sheets before it: "Offsets start at 0", and the sheets are "end to end"
unfoldable pub start_of : List ℕ → ℕ → ℕ
start_of b zero = 0
start_of b (suc n) = start_of b n + length_at b (start_of b n)

-- the first byte of sheet n is not "below 64", and its offset follows the sheets
abbrev pub is_followed : List ℕ → ℕ → Bool
is_followed b n = leb 64 (get_or b (start_of b n) 0) && eqb (offset b n) (start_of b n)

-- "with the trailer right after the last"
abbrev pub is_ended : List ℕ → Bool
is_ended b = eqb (start_of b (sheet_count b)) (trailer_start b)

-- ---- refusals

-- "20, no trailer of a fitting length or more than 512"
abbrev pub has_trailer : List ℕ → Bool
has_trailer b = leb 2 (length b) && (leb (trailer_length (sheet_count b)) (length b) && leb (sheet_count b) most_sheets)

-- "21, a sheet's first byte below 64, offsets that don't follow the sheets, or sheets that don't end where the trailer starts"
abbrev pub has_sheets : List ℕ → Bool
has_sheets b = every (sheet_count b) (is_followed b) && is_ended b

-- of sheet n: 20 and 21, then "22, no sheet n; in that order"; "a check of the same bytes and n gives the number, or 0 if there is none"
unfoldable pub bundle_refusal : List ℕ → ℕ → ℕ
bundle_refusal b n =
    cond (not (has_trailer b)) 20
    (cond (not (has_sheets b)) 21
    (cond (not (ltb n (sheet_count b))) 22 0))

-- ---- what is handed back

-- where sheet n stands, or the refusal's number
unfoldable pub part_of : List ℕ → ℕ → Result Part ℕ
part_of b n = cond (eqb (bundle_refusal b n) 0) (Ok (record { start = offset b n; length = length_at b (offset b n) })) (Err (bundle_refusal b n))

-- a place has 16 bits, and a sheet at most 255 less 56 bytes
abbrev pub Placed : Result Part ℕ → Type 0
Placed (Ok p) = (p.start < 65536) × (p.length < 200)
Placed (Err r) = Unit {0}

-- "the reader hands back the sheet as that part of the bytes it was given"; "On a refusal the part is empty"
unfoldable pub sheet_in : List ℕ → ℕ → List ℕ
sheet_in b n = cond (eqb (bundle_refusal b n) 0) (take (length_at b (offset b n)) (drop (offset b n) b)) []

-- "that part": where it stands in the bytes; an empty part stands at their front
unfoldable pub place_in : List ℕ → ℕ → ℕ
place_in b n = cond (eqb (bundle_refusal b n) 0) (offset b n) 0

-- ---- the bundle of given sheets

-- 16 bits, "low byte first"
abbrev pub two_bytes : ℕ → List ℕ
two_bytes x = x % 256 ∷ x / 256 ∷ []

-- the offsets of the first n of sheets that stand end to end in s
abbrev pub offsets : List ℕ → ℕ → List ℕ
offsets s n = flatten (tabulate (λ i. two_bytes (start_of s i)) 0 n)

-- the bundle of the n sheets that stand end to end in s
unfoldable pub bundle_of : List ℕ → ℕ → List ℕ
bundle_of s n = s ++ (offsets s n ++ two_bytes n)
