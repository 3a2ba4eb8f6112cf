-- What the call from a gate list to an operator file promises.
use Rattle.std.specs.Prelude.{◌≡◌, List, ◌∷◌, ◌++◌, map, ℕ, ◌<◌, length, take, None, Result, Err}
use Rattle.matrix.specs.Operator.{LeastExponent}
use Rattle.file.specs.File.{largest_exponent, file_exponent, file_operator}
use Rattle.letter.specs.declared.Gate.{Gate}
use Rattle.letter.specs.Gate.{letter, gate_of}
use Rattle.gate.specs.Product.{product_of, MultipliesTo}
use Rattle.gate.specs.Reading.{gates, least_of, product_file, reading, operator_answer, operator_buffer}

-- the list bs is read as the gates w
pub record ReadInto (bs : List ℕ) (w : List Gate) : Type 0 where
  pub letters : bs ≡ map letter w
  -- demand 2: "a gate list read in gives exactly its product over the least power of root two": the file that is written has the product's
  -- operator, and its exponent is the product's least one
  pub multiplies : MultipliesTo w (file_operator (product_file w))
  pub least : LeastExponent (product_of w) (file_exponent (product_file w))
  -- the count answered is that exponent
  pub count : file_exponent (product_file w) ≡ (least_of w).exponent

-- "whose product has a least exponent above" 60
pub record Deep (w : List Gate) : Type 0 where
  pub exponent : ℕ
  pub least : LeastExponent (product_of w) exponent
  pub above : largest_exponent < exponent

-- the list's bytes begin with the letters of w, so that none of these earns 8, and no beginning of fewer letters earns 9
pub record Beginning (bs : List ℕ) (w : List Gate) (rest : List ℕ) : Type 0 where
  pub letters : bs ≡ map letter w ++ rest
  pub first : (n : ℕ) → n < length w → Deep (take n w) → ⊥

-- the leftmost place earns 9: "a beginning of the list whose product has a least exponent above" 60
pub record EarnsNine (bs : List ℕ) : Type 0 where
  pub w : List Gate
  pub rest : List ℕ
  pub beginning : Beginning bs w rest
  pub deep : Deep w

-- the leftmost place earns 8: "a byte that is no letter of the table"
pub record EarnsEight (bs : List ℕ) : Type 0 where
  pub w : List Gate
  pub byte : ℕ
  pub rest : List ℕ
  pub beginning : Beginning bs w (byte ∷ rest)
  pub shallow : Deep w → ⊥
  pub unknown : gate_of byte ≡ None

pub record ProductPromise (bs old new : List ℕ) (a : Result ℕ ℕ) : Type 0 where
  pub answer : a ≡ operator_answer (length old) (reading bs)
  pub buffer : new ≡ operator_buffer old (reading bs)
  -- of a list that is read: what is written is its product
  pub read : (w : List Gate) → reading bs ≡ gates w → ReadInto bs w
  -- "8 or 9 at the leftmost place that earns one"
  pub eight : a ≡ Err 8 → EarnsEight bs
  pub nine : a ≡ Err 9 → EarnsNine bs
