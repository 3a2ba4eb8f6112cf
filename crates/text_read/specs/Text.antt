-- What the programs read: decimal numbers as arguments, and text that ends in a line feed.
use Rattle.std.specs.Prelude.{Bool, cond, ◌&&◌, List, [], ◌∷◌, ℕ, ◌+◌, ◌*◌, ◌-◌, eqb, leb, ltb, length, get_or, take, Option, Some, None}

-- ---- numbers read

-- every larger number is read as this one; it is above the limits of states to order, 60 and 1000, and above the number of any sheet in a bundle, so
-- the answer is the same
abbrev pub largest_number : ℕ
largest_number = 1000000

abbrev pub capped : ℕ → ℕ
capped n = cond (ltb largest_number n) largest_number n

abbrev pub is_digit : ℕ → Bool
is_digit b = leb 48 b && leb b 57

-- the digits behind those of n
unfoldable pub number_from : ℕ → List ℕ → Option ℕ
number_from n [] = Some (capped n)
number_from n (b ∷ bs) = cond (is_digit b) (number_from (10 * n + (b - 48)) bs) None

-- one digit or more, and nothing else
unfoldable pub number_of : List ℕ → Option ℕ
number_of [] = None
number_of (b ∷ bs) = number_from 0 (b ∷ bs)

-- ---- text read

-- whether the last byte is a line feed
abbrev pub ends_in_line_feed : List ℕ → Bool
ends_in_line_feed bs = eqb (get_or bs (length bs - 1) 0) 10

-- what people type ends in a line feed: the bytes without one at their very end
unfoldable pub without_line_feed : List ℕ → List ℕ
without_line_feed bs = cond (ends_in_line_feed bs) (take (length bs - 1) bs) bs
