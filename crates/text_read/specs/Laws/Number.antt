-- A number above the largest may be taken for the largest at any digit.
use Rattle.std.specs.Prelude.{◌≡◌, List, [], ◌∷◌, ℕ, ◌+◌, ◌*◌, ◌-◌, ◌≤◌, cond, Some, None}
use Rattle.std.proofs.Common.{sym, ap, ◌∙◌, arith, lt-ltb, le-ltb}
use Rattle.std.proofs.Math.Decide.{dec_lt}
use Rattle.text_read.specs.Text.{largest_number, capped, is_digit, number_from}

pub capped_above : (n : ℕ) → largest_number ≤ n → capped n ≡ largest_number
capped_above n h = elim (dec_lt largest_number n) [ yes l ↦ rw (lt-ltb largest_number n l) | no l ↦ rw (le-ltb largest_number n (omega arith)) (omega arith) ]

pub capped_below : (n : ℕ) → n ≤ largest_number → capped n ≡ n
capped_below n h = rw (le-ltb largest_number n h)

pub capped_small : (n : ℕ) → capped n ≤ largest_number
capped_small n = elim (dec_lt largest_number n) [ yes l ↦ rw (lt-ltb largest_number n l) (omega arith) | no l ↦ rw (le-ltb largest_number n (omega arith)) (omega arith) ]

capped_next : (n d : ℕ) → capped (10 * capped n + d) ≡ capped (10 * n + d)
capped_next n d = elim (dec_lt largest_number n) [
  | yes l ↦ rw (lt-ltb largest_number n l) (capped_above (10 * largest_number + d) (omega arith) ∙ sym (capped_above (10 * n + d) (omega arith)))
  | no l ↦ rw (le-ltb largest_number n (omega arith))
]

pub number_capped : (n : ℕ) (bs : List ℕ) → number_from (capped n) bs ≡ number_from n bs
unfolding number_from
number_capped n [] = ap Some (capped_below (capped n) (capped_small n))
number_capped n (b ∷ bs) =
    ap (λ x. cond (is_digit b) x None)
    (sym (number_capped (10 * capped n + (b - 48)) bs) ∙ ap (λ x. number_from x bs) (capped_next n (b - 48)) ∙ number_capped (10 * n + (b - 48)) bs)
