-- Blocks (document 02, P13): "Whole programs are lists of up to 64 blocks, each on two of 32 qubits and given as two bytes, the qubits' numbers from
-- 0." In P14 "a block is five bytes", and its qubits are the first two of these.
use Rattle.std.specs.Prelude.{Bool, not, cond, ◌&&◌, ◌||◌, List, ℕ, ◌+◌, ◌*◌, ◌/◌, ◌%◌, eqb, ltb, length, get_or}
use Rattle.matrix.specs.Range.{every}

-- "up to 64 blocks"
abbrev pub most_blocks : ℕ
most_blocks = 64

-- "two of 32 qubits"
abbrev pub qubits : ℕ
qubits = 32

-- the numbers of a block's two qubits
pub record Block : Type 0 where
  pub first : ℕ
  pub second : ℕ

-- the blocks by their places in the list, from 0; how many there are is said beside it
abbrev pub Program : Type 0
Program = ℕ → Block

-- whether a block is on qubit q
abbrev pub is_on : Block → ℕ → Bool
is_on p q = eqb p.first q || eqb p.second q

-- "share a qubit"
unfoldable pub shares : Block → Block → Bool
shares p r = is_on p r.first || is_on p r.second

-- ---- blocks of w bytes

-- how many there are
abbrev pub block_count : ℕ → List ℕ → ℕ
block_count w b = length b / w

-- the block at each place: "given as two bytes, the qubits' numbers"
abbrev pub block_at : ℕ → List ℕ → Program
block_at w b n = record { first = get_or b (w * n) 0; second = get_or b (w * n + 1) 0 }

-- whether a block is "on two of 32 qubits": not "25, a qubit above 31 or a block that names one qubit twice"
abbrev pub is_on_two : Block → Bool
is_on_two p = ltb p.first qubits && (ltb p.second qubits && not (eqb p.first p.second))

abbrev pub are_on_two : ℕ → List ℕ → Bool
are_on_two w b = every (block_count w b) (λ n. is_on_two (block_at w b n))

-- "24, an odd number of bytes or more than 64 blocks", in P14 "a length that isn't a multiple of five"; "25, …; in that order". 0 is none
unfoldable pub program_refusal : ℕ → List ℕ → ℕ
program_refusal w b =
    cond (not (eqb (length b % w) 0) || ltb most_blocks (block_count w b)) 24
    (cond (not (are_on_two w b)) 25 0)
