-- The cases of document 02, P13: programs with their layers, and refused ones; a table of cases, and the test that each passes.
use Rattle.std.specs.Prelude.{Bool, true, false, ◌&&◌, ℕ, suc, ◌*◌, eqb, replicate, Result, Ok, Err}
use mathlib.Core.List.{List, [], ◌∷◌, flatten}
use Rattle.matrix.specs.Range.{tabulate}
use Rattle.matrix.specs.List.{same_list}
use Rattle.layer.specs.Promise.{layer_bytes, layer_answer}
use Rattle.starred.specs.Trials.{counts}

pub data Trial : Type 0 where
  -- the blocks of this program have these layers, and there are so many
  layered : List ℕ → List ℕ → ℕ → Trial
  -- this program, with a buffer of so many bytes, earns this refusal
  refused : List ℕ → ℕ → ℕ → Trial

-- whether an answer is this refusal
abbrev is_refused : Result ℕ ℕ → ℕ → Bool
is_refused (Ok m) n = false
is_refused (Err m) n = eqb m n

abbrev pub passes : Trial → Bool
passes (layered b ls n) = counts (layer_answer b 64) n && same_list (layer_bytes b) ls
passes (refused b m n) = is_refused (layer_answer b m) n

abbrev pub all_pass : List Trial → Bool
all_pass [] = true
all_pass (t ∷ ts) = passes t && all_pass ts

-- 0, 1, .. , so many of them
abbrev up_to : ℕ → List ℕ
up_to n = tabulate (λ i. i) 0 n

-- so many blocks on qubits 0 and 1
abbrev same : ℕ → List ℕ
same n = flatten (replicate n (0 ∷ 1 ∷ []))

-- so many blocks, each on a qubit and the next one; blocks on qubits 0 and 1, 2 and 3, and so on
abbrev chain : ℕ → List ℕ
chain n = flatten (tabulate (λ i. i ∷ suc i ∷ []) 0 n)

abbrev apart : ℕ → List ℕ
apart n = flatten (tabulate (λ i. 2 * i ∷ suc (2 * i) ∷ []) 0 n)

-- no blocks; one; two on the same qubits in either order; as many as may be on one pair of qubits; a chain over all qubits, and one against its order;
-- blocks that share nothing; some of either; an odd number of bytes, 65 blocks, also of bytes that would earn 25; qubit 32 and 255, first and second, in
-- the first block and the last; a block 5 5; no buffer, and buffers that are one byte too short
unfoldable pub trials : List Trial
trials =
    layered [] [] 0 ∷
    layered (0 ∷ 1 ∷ []) (0 ∷ []) 1 ∷
    layered (7 ∷ 3 ∷ 3 ∷ 7 ∷ []) (0 ∷ 1 ∷ []) 2 ∷
    layered (same 64) (up_to 64) 64 ∷
    layered (chain 31) (up_to 31) 31 ∷
    layered (3 ∷ 4 ∷ 2 ∷ 3 ∷ 1 ∷ 2 ∷ 0 ∷ 1 ∷ []) (0 ∷ 1 ∷ 2 ∷ 3 ∷ []) 4 ∷
    layered (apart 16) (replicate 16 0) 1 ∷
    layered (0 ∷ 1 ∷ 2 ∷ 3 ∷ 1 ∷ 2 ∷ 0 ∷ 1 ∷ 4 ∷ 5 ∷ []) (0 ∷ 0 ∷ 1 ∷ 2 ∷ 0 ∷ []) 3 ∷
    refused (0 ∷ 1 ∷ 2 ∷ []) 64 24 ∷
    refused (same 65) 65 24 ∷
    refused (replicate 130 5) 65 24 ∷
    refused (5 ∷ 5 ∷ 32 ∷ []) 0 24 ∷
    refused (32 ∷ 0 ∷ []) 64 25 ∷
    refused (0 ∷ 1 ∷ 2 ∷ 255 ∷ []) 64 25 ∷
    refused (0 ∷ 1 ∷ 5 ∷ 5 ∷ []) 64 25 ∷
    refused (0 ∷ 32 ∷ []) 0 25 ∷
    refused (0 ∷ 1 ∷ []) 0 6 ∷
    refused (same 64) 63 6 ∷
    []
