-- The masks of six rows, as an array holds them.
use Rattle.std.specs.Prelude.{Bool, List, ℕ, ◌+◌, ◌*◌, ◌<◌, eqb, get_or}
use Rattle.std.specs.Int.Count.{ones}
use Rattle.matrix.specs.Range.{every, some}

abbrev pub mask_at : List ℕ → ℕ → ℕ
mask_at masks r = get_or masks r 0

-- six rows, counted from 0
abbrev pub AreRows : List ℕ → Type 0
AreRows pairs = (n : ℕ) → n < 6 → get_or pairs n 0 < 6

-- whether the rows of each pair have one mask
abbrev pub pairs_fit : List ℕ → List ℕ → Bool
pairs_fit masks pairs = every 3 (λ p. eqb (mask_at masks (get_or pairs (p * 2) 0)) (mask_at masks (get_or pairs (p * 2 + 1) 0)))

-- whether some row has no odd entry, where f r is its mask
unfoldable pub has_even_row : (ℕ → ℕ) → Bool
has_even_row f = some 6 (λ r. eqb (ones (f r)) 0)
