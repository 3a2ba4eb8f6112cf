-- States to order (document 01): "from t … and a spoilage p in thousandths (0 to 1000): t plus t × p / 1000", rounded as document 02 says,
-- P1, for t from 0 to 60 (P10).
use Rattle.std.specs.Prelude.{◌≡◌, cond, ◌||◌, ℕ, ◌+◌, ◌*◌, ◌/◌, ◌%◌, ◌≤◌, ltb, Result, Ok, Err}
use Rattle.file.specs.File.{largest_exponent}

abbrev pub largest_spoilage : ℕ
largest_spoilage = 1000

-- so many thousandths as whole states: "to the nearest whole state, and an exact half goes to the even one", which is the next one if the
-- number of whole states is odd
unfoldable pub nearest : ℕ → ℕ
nearest n = cond (ltb 500 (n % 1000)) (n / 1000 + 1) (cond (ltb (n % 1000) 500) (n / 1000) (n / 1000 + n / 1000 % 2))

-- what the same words say of n thousandths and any number m of whole states
pub record Nearest (n m : ℕ) : Type 0 where
  -- they differ by at most a half
  pub not_above : 1000 * m ≤ n + 500
  pub not_below : n ≤ 1000 * m + 500
  -- where they differ by exactly a half, m is even
  pub even_above : 1000 * m ≡ n + 500 → m % 2 ≡ 0
  pub even_below : n ≡ 1000 * m + 500 → m % 2 ≡ 0

-- "t 10 with p 50 orders 10, t 10 with p 150 orders 12"
abbrev pub figure : ℕ → ℕ → ℕ
figure t p = t + nearest (t * p)

-- 14: t above 60 or "p above 1000"; "the figure stands in place of the count"
unfoldable pub order_answer : ℕ → ℕ → Result ℕ ℕ
order_answer t p = cond (ltb largest_exponent t || ltb largest_spoilage p) (Err 14) (Ok (figure t p))
