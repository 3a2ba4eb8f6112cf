-- The cases of document 02, P9: lists with their signs, stretches, and indices that cross; a table of cases, and the test that each passes.
use Rattle.std.specs.Prelude.{Bool, true, false, ◌&&◌, List, [], ◌∷◌, map, ℕ, eqb, negsuc, ◌*ℤ◌}
use Rattle.matrix.specs.List.{same_list}
use Rattle.matrix.specs.Matrix.{Matrix, δ, listed}
use Rattle.letter.specs.declared.Gate.{Gate}
use Rattle.letter.specs.declared.Gate.TheVariants.{H1, H2, S1, Cz, Cs}
use Rattle.letter.specs.Gate.{letter}
use Rattle.gate.specs.Product.{product_of}
use Rattle.crossing.specs.Crossing.{stretches_of, crossing_number}
use Rattle.gate_list.specs.List.{list_of, sign_of_list}

pub data Trial : Type 0 where
  -- the operator of this exponent and matrix has this list and this sign
  lists : ℕ → Matrix → List Gate → ℕ → Trial
  -- this list has these stretches
  splits : List Gate → List (List Gate) → Trial
  -- this list without C sends so many of the indices 1 to 3 to 4 to 6
  crosses : List Gate → ℕ → Trial

abbrev same : List Gate → List Gate → Bool
same v w = same_list (map letter v) (map letter w)

abbrev same_each : List (List Gate) → List (List Gate) → Bool
same_each [] [] = true
same_each [] (w ∷ ws) = false
same_each (v ∷ vs) [] = false
same_each (v ∷ vs) (w ∷ ws) = same v w && same_each vs ws

abbrev pub passes : Trial → Bool
passes (lists k M w s) = same (list_of k (listed M)) w && eqb (sign_of_list k (listed M)) s
passes (splits w ss) = same_each (stretches_of w) ss
passes (crosses w n) = eqb (crossing_number (product_of w).matrix) n

abbrev pub all_pass : List Trial → Bool
all_pass [] = true
all_pass (t ∷ ts) = passes t && all_pass ts

-- the identity; its negative, also twice it with k 2; `Z`, whose list is itself; the empty list is one empty stretch; `CHC` has two that are empty and
-- one of H; `ZCCS`; words that take none, one, two and all three of the indices across, and `ZZ`, which takes none
unfoldable pub trials : List Trial
trials =
    lists 0 δ [] 0 ∷
    lists 0 (λ r c. negsuc 0 *ℤ δ r c) [] 1 ∷
    lists 2 (λ r c. negsuc 1 *ℤ δ r c) [] 1 ∷
    lists 0 (product_of (Cz ∷ [])).matrix (Cz ∷ []) 0 ∷
    splits [] ([] ∷ []) ∷
    splits (Cs ∷ H1 ∷ Cs ∷ []) ([] ∷ (H1 ∷ []) ∷ [] ∷ []) ∷
    splits (Cz ∷ Cs ∷ Cs ∷ S1 ∷ []) ((Cz ∷ []) ∷ [] ∷ (S1 ∷ []) ∷ []) ∷
    crosses [] 0 ∷
    crosses (H1 ∷ S1 ∷ H2 ∷ []) 0 ∷
    crosses (Cz ∷ []) 1 ∷
    crosses (Cz ∷ H1 ∷ H2 ∷ Cz ∷ []) 2 ∷
    crosses (Cz ∷ H1 ∷ H2 ∷ Cz ∷ H1 ∷ H2 ∷ Cz ∷ []) 3 ∷
    crosses (Cz ∷ Cz ∷ []) 0 ∷
    []
