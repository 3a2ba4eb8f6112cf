-- Stretches of a gate list and their letters Z (document 02, P9): "In each stretch without C, the gate list now has as many Z as there are
-- indices among 1 to 3 that the stretch sends to 4 to 6. No stretch over H, h, S, s, Z with that image up to sign has fewer."
use Rattle.std.specs.Prelude.{cond, List, [], ◌∷◌, ◌++◌, ◌≡◌, ℕ, ◌+◌, ◌<◌, ◌≤◌, ltb, length, get_or}
use Rattle.matrix.specs.Matrix.{Matrix}
use Rattle.matrix.specs.Operator.{SameUpToSign}
use Rattle.clifford.specs.Columns.{column_row}
use Rattle.letter.specs.declared.Gate.{Gate}
use Rattle.letter.specs.declared.Gate.TheVariants.{Cs}
use Rattle.letter.specs.Gate.{is_cz, is_cs, number}
use Rattle.gate.specs.Product.{product_of, cs_gates}

-- ---- stretches

-- a letter more in front of the first stretch
abbrev pub in_front : Gate → List (List Gate) → List (List Gate)
in_front g [] = (g ∷ []) ∷ []
in_front g (s ∷ ss) = (g ∷ s) ∷ ss

-- the stretches of a list: what stands before its first letter C, between two, and after the last
unfoldable pub stretches_of : List Gate → List (List Gate)
stretches_of [] = [] ∷ []
stretches_of (g ∷ w) = cond (is_cs g) ([] ∷ stretches_of w) (in_front g (stretches_of w))

-- the list with these stretches
abbrev pub joined : List (List Gate) → List Gate
joined [] = []
joined (s ∷ []) = s
joined (s ∷ t ∷ ss) = s ++ Cs ∷ joined (t ∷ ss)

-- ---- letters Z

-- an index is sent to the row in which its column has the entry: 1 where that is one of 4 to 6, 0 where one of 1 to 3. Here both are counted from 0
abbrev pub crosses : Matrix → ℕ → ℕ
crosses M c = cond (ltb (column_row M c) 3) 0 1

-- how many indices "among 1 to 3" it sends "to 4 to 6"
abbrev pub crossing_number : Matrix → ℕ
crossing_number M = crosses M 0 + crosses M 1 + crosses M 2

-- what is promised of a stretch
pub record FewestZ (s : List Gate) : Type 0 where
  -- "over H, h, S, s, Z"
  pub no_cs : cs_gates s ≡ 0
  -- "as many Z as there are indices among 1 to 3 that the stretch sends to 4 to 6"
  pub exact : number is_cz s ≡ crossing_number (product_of s).matrix
  -- "No stretch over H, h, S, s, Z with that image up to sign has fewer"
  pub fewest : (v : List Gate) → cs_gates v ≡ 0 → SameUpToSign (product_of v) (product_of s) → number is_cz s ≤ number is_cz v

-- "In each stretch without C"
abbrev pub EachStretch : List Gate → Type 0
EachStretch w = (i : ℕ) → i < length (stretches_of w) → FewestZ (get_or (stretches_of w) i [])
