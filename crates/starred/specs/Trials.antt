-- Document 01's trial cuts that are marked to be proved of the definitions, with the first byte of document 02, P4, the last byte of P2 and the
-- L of P3; these requests' own cases, the orders of P1, the walks of P6, the bundles of P7, the two kinds of file of P10, the counts of P11 and the pairs of
-- P12: a table of cases, and the test that each passes.
use Rattle.std.specs.Prelude.{Bool, true, false, ◌&&◌, List, [], ◌∷◌, ◌++◌, ℕ, ◌+◌, ◌-◌, ◌^◌, eqb, pos, negsuc, ◌*ℤ◌, take, replicate, Result, Ok, Err}
use Rattle.matrix.specs.List.{same_list}
use Rattle.matrix.specs.Matrix.{Matrix, δ, replaced, listed}
use Rattle.matrix.specs.Operator.{Operator, times_operator, inverse, negative}
use Rattle.matrix.specs.Array.{before_odd}
use Rattle.file.specs.File.{Kind, short_file, long_file, file_as, file_of}
use Rattle.letter.specs.declared.Gate.{Gate}
use Rattle.letter.specs.declared.Gate.TheVariants.{H1, Cz, Cs}
use Rattle.gate.specs.Product.{product_of}
use Rattle.gate.specs.Reading.{product_file}
use Rattle.count.specs.Count.{count_of, distance}
use Rattle.acceptance.specs.Acceptance.{file_refusal}
use Rattle.acceptance.specs.Cutting.{file_loose}
use Rattle.operator.specs.Promise.{file_sheet}
use Rattle.sheet_bytes.specs.Bytes.{sheet_of}
use Rattle.sheet_bytes.specs.Sheet.{sheet_refusal}
use Rattle.short_sheet.specs.Short.{plain_bytes}
use Rattle.bundle.specs.Bundle.{bundle_refusal, sheet_in}
use Rattle.bundle_write.specs.Writing.{sheets_refusal, sheets_bundle}
use Rattle.order.specs.Order.{order_answer}

pub data Trial : Type 0 where
  -- this file is accepted and has this sheet, and so many cuts that grouped as 2 and 4
  cuts : List ℕ → List ℕ → ℕ → Trial
  -- this file earns this refusal
  file_refused : List ℕ → ℕ → Trial
  -- these bytes, read as a sheet, earn this refusal, or 0: they are read
  sheet_refused : List ℕ → ℕ → Trial
  -- this list multiplies to an operator with this sheet, and so many cuts that grouped as 2 and 4
  multiplies : List Gate → List ℕ → ℕ → Trial
  -- this list's product is written as the file of this exponent and matrix
  equals : List Gate → ℕ → Matrix → Trial
  -- this count and this spoilage order so many states
  orders : ℕ → ℕ → ℕ → Trial
  -- so many entries of this matrix stand before the first odd one
  walks : Matrix → ℕ → Trial
  -- in this bundle, the sheet of this number is this one
  takes : List ℕ → ℕ → List ℕ → Trial
  -- these bytes, read as a bundle, earn this refusal for the sheet of this number
  bundle_refused : List ℕ → ℕ → ℕ → Trial
  -- these sheets, end to end, have this bundle
  bundles : List ℕ → List ℕ → Trial
  -- these bytes, read as sheets end to end, earn this refusal
  sheets_refused : List ℕ → ℕ → Trial
  -- these two operators have these counts, and their product has this one
  counted : Operator → Operator → (first second product : ℕ) → Trial
  -- the second operator is so far from the first
  apart : Operator → Operator → ℕ → Trial

-- whether an answer is this count, figure or number of layers
abbrev pub counts : Result ℕ ℕ → ℕ → Bool
counts (Ok m) n = eqb m n
counts (Err m) n = false

abbrev pub passes : Trial → Bool
passes (cuts b s l) = eqb (file_refusal b) 0 && (same_list (file_sheet b) s && eqb (file_loose b) l)
passes (file_refused b n) = eqb (file_refusal b) n
passes (sheet_refused s n) = eqb (sheet_refusal s) n
passes (multiplies w s l) = same_list (sheet_of (product_of w)) s && eqb (file_loose (product_file w)) l
passes (equals w k M) = same_list (product_file w) (file_of k (listed M))
passes (orders t p n) = counts (order_answer t p) n
passes (walks M n) = eqb (before_odd M) n
passes (takes b n s) = eqb (bundle_refusal b n) 0 && same_list (sheet_in b n) s
passes (bundle_refused b n r) = eqb (bundle_refusal b n) r
passes (bundles s b) = eqb (sheets_refusal s) 0 && same_list (sheets_bundle s) b
passes (sheets_refused s r) = eqb (sheets_refusal s) r
passes (counted A B a b c) = eqb (count_of A) a && (eqb (count_of B) b && eqb (count_of (times_operator A B)) c)
passes (apart A B d) = eqb (distance A B) d

-- a file of either kind; the exponent may be one that its kind cannot carry
abbrev file : Kind → ℕ → Matrix → List ℕ
file t k M = file_as t k (listed M)

-- a number times the identity
abbrev times : ℕ → Matrix
times n r c = pos n *ℤ δ r c

-- the operators of `C`, of `CHC` and of `Z`
abbrev cs : Operator
cs = product_of (Cs ∷ [])

abbrev chc : Operator
chc = product_of (Cs ∷ H1 ∷ Cs ∷ [])

abbrev cz : Operator
cz = product_of (Cz ∷ [])

abbrev pub all_pass : List Trial → Bool
all_pass [] = true
all_pass (t ∷ ts) = passes t && all_pass ts

-- the sheets of the identity, of `C` and of `CHC`, these end to end, and as a bundle
abbrev identity_sheet : List ℕ
identity_sheet = 64 ∷ 1 ∷ 2 ∷ 3 ∷ 4 ∷ 5 ∷ 6 ∷ 0 ∷ []

abbrev cs_sheet : List ℕ
cs_sheet = 65 ∷ 3 ∷ 1 ∷ 2 ∷ 3 ∷ 4 ∷ 5 ∷ 6 ∷ 0 ∷ []

abbrev chc_sheet : List ℕ
chc_sheet = 66 ∷ 3 ∷ 13 ∷ 3 ∷ 130 ∷ 1 ∷ 4 ∷ 5 ∷ 6 ∷ 0 ∷ []

abbrev three_sheets : List ℕ
three_sheets = identity_sheet ++ cs_sheet ++ chc_sheet

abbrev three_bundled : List ℕ
three_bundled = three_sheets ++ 0 ∷ 0 ∷ 8 ∷ 0 ∷ 17 ∷ 0 ∷ 3 ∷ 0 ∷ []

-- 199 bytes whose first one fits them
abbrev too_long : List ℕ
too_long = 255 ∷ replicate 198 1

-- the identity; twice the identity, k 2; twice the product of `CHC`, k 4; the same three as long files; 2^14 times the identity, k 28, in both
-- kinds, with k 29 in a short file, and 2^14 times `C`, k 29, in a long one; 2^30 times the identity, k 60, and k 61; one more in its last entry, and
-- an entry of −2^31; the long identity with k 1, a byte short, a byte long, and its first 73 bytes, which are a short file; two sheets that earn 13; a last byte above 1, also of a sheet that
-- would earn 13; a negative column 1; columns that are no Clifford; the sheet of `CHC` without its first byte, and without its last one too; a
-- first byte for a longer sheet, also of a sheet that would earn 11; seven bytes and 69, whose first byte fits them, and 68, whose columns are no Clifford; the identity with −1 in
-- row 1; `C`; `CC` and `Z`; `HH`, which is the identity; `ZZ`, which is its negative; eight `C`, which are the identity, count 0; `CHC`; the orders;
-- the walks: the identity, twice the identity, and that with 1 as its last entry and with −1 in row 2; three sheets as a bundle, each of them
-- taken, and number 3; the empty bundle; no bytes, one, and a trailer for one sheet too many; offsets that leave a gap, a first byte of 63, a sheet
-- that reaches into the trailer, also where there is no such sheet; 199 bytes, which are handed back and earn 10; no sheets and three, written; a
-- sheet cut short, and a first byte for 69; products whose count is the sum of those of their factors, lower by two, and lower by the whole sum: `CH` and
-- `C`, `CHC` and `C`, `CHC` and its inverse; `Z` on either side of `CHC`; the negative of `C`; distances: of `C` and `CHC`, no more than their counts
-- differ by, of `C` and `CZ`, which a Clifford on the right takes to one another, and of `Z`, a Clifford, and `CHC`; pairs of numbers that are listed, the
-- second one higher and lower, pairs that are not, of different and of equal numbers, and 16, which is no generator
unfoldable pub trials : List Trial
trials =
    cuts (file short_file 0 δ) identity_sheet 0 ∷
    cuts (file short_file 2 (times 2)) identity_sheet 0 ∷
    cuts (file short_file 4 (λ r c. pos 2 *ℤ chc.matrix r c)) chc_sheet 1 ∷
    cuts (file long_file 0 δ) identity_sheet 0 ∷
    cuts (file long_file 2 (times 2)) identity_sheet 0 ∷
    cuts (file long_file 4 (λ r c. pos 2 *ℤ chc.matrix r c)) chc_sheet 1 ∷
    cuts (file short_file 28 (times 16384)) identity_sheet 0 ∷
    cuts (file long_file 28 (times 16384)) identity_sheet 0 ∷
    file_refused (file short_file 29 (times 16384)) 2 ∷
    cuts (file long_file 29 (λ r c. pos 16384 *ℤ cs.matrix r c)) cs_sheet 0 ∷
    cuts (file long_file 60 (times (2 ^ 30))) identity_sheet 0 ∷
    file_refused (file long_file 61 (times (2 ^ 30))) 2 ∷
    file_refused (file long_file 60 (replaced 5 (λ c. pos (2 ^ 30 + 1) *ℤ δ 5 c) (times (2 ^ 30)))) 3 ∷
    file_refused (file long_file 60 (replaced 5 (λ c. negsuc (2 ^ 31 - 1) *ℤ δ 5 c) (times (2 ^ 30)))) 3 ∷
    file_refused (file long_file 1 δ) 4 ∷
    file_refused (take 144 (file long_file 0 δ)) 1 ∷
    file_refused (file long_file 0 δ ++ 0 ∷ []) 1 ∷
    file_refused (take 73 (file long_file 0 δ)) 4 ∷
    sheet_refused (66 ∷ 13 ∷ 3 ∷ 1 ∷ 2 ∷ 3 ∷ 4 ∷ 5 ∷ 6 ∷ 0 ∷ []) 13 ∷
    sheet_refused (66 ∷ 3 ∷ 3 ∷ 1 ∷ 2 ∷ 3 ∷ 4 ∷ 5 ∷ 6 ∷ 0 ∷ []) 13 ∷
    sheet_refused (64 ∷ 1 ∷ 2 ∷ 3 ∷ 4 ∷ 5 ∷ 6 ∷ 2 ∷ []) 15 ∷
    sheet_refused (66 ∷ 3 ∷ 3 ∷ 1 ∷ 2 ∷ 3 ∷ 4 ∷ 5 ∷ 6 ∷ 2 ∷ []) 15 ∷
    sheet_refused (64 ∷ 129 ∷ 130 ∷ 131 ∷ 132 ∷ 133 ∷ 134 ∷ 0 ∷ []) 15 ∷
    sheet_refused (64 ∷ 129 ∷ 2 ∷ 3 ∷ 4 ∷ 5 ∷ 6 ∷ 0 ∷ []) 12 ∷
    sheet_refused (3 ∷ 13 ∷ 3 ∷ 130 ∷ 1 ∷ 4 ∷ 5 ∷ 6 ∷ 0 ∷ []) 16 ∷
    sheet_refused (3 ∷ 13 ∷ 3 ∷ 130 ∷ 1 ∷ 4 ∷ 5 ∷ 6 ∷ []) 16 ∷
    sheet_refused (65 ∷ 1 ∷ 2 ∷ 3 ∷ 4 ∷ 5 ∷ 6 ∷ 0 ∷ []) 16 ∷
    sheet_refused (65 ∷ 0 ∷ 2 ∷ 3 ∷ 4 ∷ 5 ∷ 6 ∷ 0 ∷ []) 16 ∷
    sheet_refused (63 ∷ 1 ∷ 2 ∷ 3 ∷ 4 ∷ 5 ∷ 6 ∷ []) 10 ∷
    sheet_refused (125 ∷ replicate 68 1) 10 ∷
    sheet_refused (124 ∷ replicate 67 1) 12 ∷
    file_refused (file short_file 0 (replaced 0 (λ c. negsuc 0 *ℤ δ 0 c) δ)) 5 ∷
    file_refused (file long_file 0 (replaced 0 (λ c. negsuc 0 *ℤ δ 0 c) δ)) 5 ∷
    multiplies (Cs ∷ []) cs_sheet 0 ∷
    multiplies (Cs ∷ Cs ∷ []) (64 ∷ 2 ∷ 129 ∷ 6 ∷ 5 ∷ 132 ∷ 131 ∷ 0 ∷ []) 0 ∷
    multiplies (Cz ∷ []) (64 ∷ 2 ∷ 129 ∷ 6 ∷ 5 ∷ 132 ∷ 131 ∷ 0 ∷ []) 0 ∷
    equals (H1 ∷ H1 ∷ []) 0 δ ∷
    equals (Cz ∷ Cz ∷ []) 0 (λ r c. negsuc 0 *ℤ δ r c) ∷
    multiplies (Cz ∷ Cz ∷ []) (64 ∷ 1 ∷ 2 ∷ 3 ∷ 4 ∷ 5 ∷ 6 ∷ 1 ∷ []) 0 ∷
    equals (Cs ∷ Cs ∷ Cs ∷ Cs ∷ Cs ∷ Cs ∷ Cs ∷ Cs ∷ []) 0 δ ∷
    multiplies (Cs ∷ H1 ∷ Cs ∷ []) chc_sheet 1 ∷
    orders 10 50 10 ∷
    orders 10 150 12 ∷
    orders 28 50 29 ∷
    orders 0 1000 0 ∷
    orders 60 50 63 ∷
    orders 60 1000 120 ∷
    orders 1 500 1 ∷
    orders 3 500 5 ∷
    walks δ 0 ∷
    walks (times 2) 36 ∷
    walks (replaced 5 (λ c. δ 5 c) (times 2)) 35 ∷
    walks (replaced 1 (λ c. negsuc 0 *ℤ δ 1 c) (times 2)) 7 ∷
    takes three_bundled 0 identity_sheet ∷
    takes three_bundled 1 cs_sheet ∷
    takes three_bundled 2 chc_sheet ∷
    bundle_refused three_bundled 3 22 ∷
    bundle_refused (0 ∷ 0 ∷ []) 0 22 ∷
    bundle_refused [] 0 20 ∷
    bundle_refused (0 ∷ []) 0 20 ∷
    bundle_refused (0 ∷ 1 ∷ 0 ∷ []) 0 20 ∷
    bundle_refused (three_sheets ++ 0 ∷ 0 ∷ 8 ∷ 0 ∷ 18 ∷ 0 ∷ 3 ∷ 0 ∷ []) 0 21 ∷
    bundle_refused (63 ∷ 1 ∷ 2 ∷ 3 ∷ 4 ∷ 5 ∷ 6 ∷ 0 ∷ 0 ∷ 1 ∷ 0 ∷ []) 0 21 ∷
    bundle_refused (65 ∷ 1 ∷ 2 ∷ 3 ∷ 4 ∷ 5 ∷ 6 ∷ 0 ∷ 0 ∷ 0 ∷ 1 ∷ 0 ∷ []) 1 21 ∷
    takes (too_long ++ 0 ∷ 0 ∷ 1 ∷ 0 ∷ []) 0 too_long ∷
    sheet_refused too_long 10 ∷
    bundles [] (0 ∷ 0 ∷ []) ∷
    bundles three_sheets three_bundled ∷
    sheets_refused (three_sheets ++ 64 ∷ 1 ∷ 2 ∷ 3 ∷ 4 ∷ 5 ∷ 6 ∷ []) 21 ∷
    sheets_refused (125 ∷ replicate 68 1) 21 ∷
    counted (product_of (Cs ∷ H1 ∷ [])) cs 1 1 2 ∷
    counted chc cs 2 1 1 ∷
    counted chc (inverse chc) 2 2 0 ∷
    counted cz chc 0 2 2 ∷
    counted chc cz 2 0 2 ∷
    counted chc (negative cs) 2 1 1 ∷
    apart cs chc 1 ∷
    apart cs (times_operator cs cz) 0 ∷
    apart cz chc 2 ∷
    sheet_refused (plain_bytes (1 ∷ 2 ∷ [])) 0 ∷
    sheet_refused (plain_bytes (7 ∷ 2 ∷ [])) 0 ∷
    sheet_refused (plain_bytes (2 ∷ 1 ∷ [])) 13 ∷
    sheet_refused (plain_bytes (1 ∷ 1 ∷ [])) 13 ∷
    sheet_refused (plain_bytes (16 ∷ [])) 11 ∷
    sheet_refused (plain_bytes (1 ∷ 16 ∷ [])) 11 ∷
    []
