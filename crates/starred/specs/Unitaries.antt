-- The cases of document 02, P5: products of plain matrices, unitaries by their 65 bytes, with list and power of ω, and refusals; a table of cases, and
-- the test that each passes.
use Rattle.std.specs.Prelude.{Bool, true, ◌&&◌, List, [], ◌∷◌, ◌++◌, map, ℕ, ◌/◌, ◌%◌, eqb, ℤ, pos, negsuc}
use Rattle.matrix.specs.List.{same_list}
use Rattle.file.specs.File.{short_file, highest_of, bits_of}
use Rattle.letter.specs.declared.Gate.{Gate}
use Rattle.letter.specs.declared.Gate.TheVariants.{H1, H2, S1, S2, Cz, Cs}
use Rattle.letter.specs.Gate.{letter}
use Rattle.gaussian.specs.declared.Gaussian.{Gaussian}
use Rattle.gaussian.specs.Gaussian.{gaussian, real, unit, one+i, same_test}
use Rattle.unitary.specs.Unitary.{matrix_of, plain_of}
use Rattle.omega.specs.Modular.{power_of}
use Rattle.unitary_file.specs.Unitary.{unitary_of, unitary_refusal}
use Rattle.unitary_gates.specs.Promise.{form_count, form_loose, form_list}

-- an exponent, and 16 entries row by row
pub record Written : Type 0 where
  exponent : ℕ
  entries : List Gaussian

abbrev over : ℕ → List Gaussian → Written
over k zs = record { exponent = k; entries = zs }

-- their bytes
abbrev bytes16 : ℤ → List ℕ
bytes16 x = let u = bits_of (highest_of short_file) x in u % 256 ∷ u / 256 ∷ []

abbrev entry_bytes : List Gaussian → List ℕ
entry_bytes [] = []
entry_bytes (z ∷ zs) = bytes16 z.re ++ bytes16 z.im ++ entry_bytes zs

abbrev pub bytes_of : Written → List ℕ
bytes_of u = u.exponent ∷ entry_bytes u.entries

abbrev numbers : List Gaussian → List ℤ
numbers [] = []
numbers (z ∷ zs) = z.re ∷ z.im ∷ numbers zs

pub data Trial : Type 0 where
  -- the plain matrices of this list multiply to this
  multiplies : List Gate → Written → Trial
  -- this unitary has this list, this power of ω, this count and this L
  lists : Written → List Gate → (power count loose : ℕ) → Trial
  -- these bytes earn this refusal
  refuses : List ℕ → ℕ → Trial

abbrev pub passes : Trial → Bool
passes (multiplies w u) = eqb (plain_of w).exponent u.exponent && same_test 4 4 (plain_of w).matrix (matrix_of (numbers u.entries))
passes (lists u w p t l) =
    let U = unitary_of (bytes_of u) in
    eqb (unitary_refusal (bytes_of u)) 0 && same_list (map letter (form_list U)) (map letter w) && eqb (power_of U (form_list U)) p && eqb (form_count U) t && eqb (form_loose U) l
passes (refuses b n) = eqb (unitary_refusal b) n

abbrev pub all_pass : List Trial → Bool
all_pass [] = true
all_pass (t ∷ ts) = passes t && all_pass ts

-- ---- entries and unitaries

abbrev o : Gaussian
o = real (pos 0)

abbrev l : Gaussian
l = real (pos 1)

abbrev m : Gaussian
m = real (negsuc 0)

abbrev j : Gaussian
j = gaussian (pos 0) (negsuc 0)

abbrev diagonal : Gaussian → Gaussian → Gaussian → Gaussian → List Gaussian
diagonal a b c d = a ∷ o ∷ o ∷ o ∷ o ∷ b ∷ o ∷ o ∷ o ∷ o ∷ c ∷ o ∷ o ∷ o ∷ o ∷ d ∷ []

abbrev one : List Gaussian
one = diagonal l l l l

abbrev h_first_lem : List Gaussian
h_first_lem = l ∷ o ∷ l ∷ o ∷ o ∷ l ∷ o ∷ l ∷ l ∷ o ∷ m ∷ o ∷ o ∷ l ∷ o ∷ m ∷ []

abbrev h_second_lem : List Gaussian
h_second_lem = l ∷ l ∷ o ∷ o ∷ l ∷ m ∷ o ∷ o ∷ o ∷ o ∷ l ∷ l ∷ o ∷ o ∷ l ∷ m ∷ []

abbrev swap : List Gaussian
swap = l ∷ o ∷ o ∷ o ∷ o ∷ o ∷ l ∷ o ∷ o ∷ l ∷ o ∷ o ∷ o ∷ o ∷ o ∷ l ∷ []

abbrev chc : List Gaussian
chc = l ∷ o ∷ l ∷ o ∷ o ∷ l ∷ o ∷ unit ∷ l ∷ o ∷ m ∷ o ∷ o ∷ unit ∷ o ∷ l ∷ []

-- orthonormal if no conjugate is taken
abbrev unconjugated : List Gaussian
unconjugated = l ∷ l ∷ unit ∷ o ∷ l ∷ m ∷ o ∷ unit ∷ o ∷ j ∷ l ∷ m ∷ j ∷ o ∷ l ∷ l ∷ []

-- ---- the tables

-- the six plain gates, by source 001, and `CHC`; refused: an entry alone, k 30, k 29, where the entries are too small, an entry of 2 with k 0, the same with k 2, where it is not too large, and
-- rows that are orthonormal if no conjugate is taken
unfoldable pub matrices : List Trial
matrices =
    multiplies [] (over 0 one) ∷
    multiplies (H1 ∷ []) (over 1 h_first_lem) ∷
    multiplies (H2 ∷ []) (over 1 h_second_lem) ∷
    multiplies (S1 ∷ []) (over 0 (diagonal l l unit unit)) ∷
    multiplies (S2 ∷ []) (over 0 (diagonal l unit l unit)) ∷
    multiplies (Cz ∷ []) (over 0 (diagonal l l l m)) ∷
    multiplies (Cs ∷ []) (over 0 (diagonal l l l unit)) ∷
    multiplies (Cs ∷ H1 ∷ Cs ∷ []) (over 1 chc) ∷
    refuses (0 ∷ entry_bytes (l ∷ [])) 17 ∷
    refuses (bytes_of (over 30 one)) 17 ∷
    refuses (bytes_of (over 29 one)) 19 ∷
    refuses (bytes_of (over 0 (diagonal (real (pos 2)) l l l))) 18 ∷
    refuses (bytes_of (over 2 (diagonal (real (pos 2)) l l l))) 19 ∷
    refuses (bytes_of (over 0 unconjugated)) 19 ∷
    []

-- the identity, ω times it (k 1, entries 1 + i) and minus it, H on each qubit, CZ and SWAP
unfoldable pub cliffords : List Trial
cliffords =
    lists (over 0 one) [] 0 0 0 ∷
    lists (over 1 (diagonal one+i one+i one+i one+i)) [] 1 0 0 ∷
    lists (over 0 (diagonal m m m m)) [] 4 0 0 ∷
    lists (over 1 h_first_lem) (H1 ∷ []) 0 0 0 ∷
    lists (over 1 h_second_lem) (H2 ∷ []) 0 0 0 ∷
    lists (over 0 (diagonal l l l m)) (Cz ∷ []) 0 0 0 ∷
    lists (over 0 swap) (H1 ∷ H2 ∷ Cz ∷ H1 ∷ H2 ∷ Cz ∷ H1 ∷ H2 ∷ Cz ∷ []) 0 0 0 ∷
    []

-- CS, and `CHC`
abbrev pub cs : Trial
cs = lists (over 0 (diagonal l l l unit)) (Cs ∷ []) 0 1 0

abbrev pub product_chc : Trial
product_chc = lists (over 1 chc) (Cs ∷ H1 ∷ S1 ∷ S1 ∷ S1 ∷ Cs ∷ S1 ∷ []) 0 2 1
