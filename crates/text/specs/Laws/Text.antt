-- Numbers and lines: how long they are, and how they are put together.
use Rattle.std.specs.Prelude.{◌≡◌, refl, List, [], ◌∷◌, ◌++◌, ℕ, suc, ◌+◌, ◌*◌, ◌/◌, ◌%◌, ◌≤◌, ◌<◌}
use Rattle.std.specs.Fmt.{decimal as printed}
use Rattle.std.proofs.Math.Path.{sym, ap}
use Rattle.std.proofs.Common.{◌∙◌, append_assoc, append-nil, zero-add, add-one, length-take-le, lt-ltb, le-ltb}
use Rattle.std.proofs.Math.Decide.{dec_lt}
use Rattle.std.proofs.lemmas.Fmt.{decimal_by_steps}
use native.Mathlib.Omega.{arith}
use Rattle.std.proofs.Math.ListN.{length, get_or, take, drop, length-append}
use Rattle.std.proofs.Math.Seq.{split_at, take-suc}
use Rattle.file.specs.File.{written, Appended}
use Rattle.file.specs.Laws.Written.{appended_length, appended_take}
use Rattle.text.specs.Text.{digit, decimal, spaced, line, count_line, loose_line, refused_word, refused_line, gates_line, list_lines}

pub decimal_one : (n : ℕ) → n < 10 → decimal n ≡ digit n ∷ []
unfolding decimal
decimal_one n h = rw (lt-ltb n 10 h)

pub decimal_two : (n : ℕ) → 10 ≤ n → n < 100 → decimal n ≡ digit (n / 10) ∷ digit (n % 10) ∷ []
unfolding decimal
decimal_two n l h = rw (le-ltb n 10 l, lt-ltb n 100 h)

pub decimal_three : (n : ℕ) → 100 ≤ n → decimal n ≡ digit (n / 100) ∷ digit (n / 10 % 10) ∷ digit (n % 10) ∷ []
unfolding decimal
decimal_three n l = rw (le-ltb n 10 (omega arith), le-ltb n 100 l)

pub decimal_length : (n : ℕ) → length (decimal n) ≤ 3
decimal_length n = elim (dec_lt n 10) [
  | yes h ↦ rw (decimal_one n h) (omega arith)
  | no l ↦ elim (dec_lt n 100) [ yes h ↦ rw (decimal_two n (omega arith) h) (omega arith) | no k ↦ rw (decimal_three n (omega arith)) (omega arith) ]
]

-- a number's digits are those that std prints of it

more_printed : (n : ℕ) (ds : List ℕ) → 10 ≤ n → (n / 10 < 1000 → decimal (n / 10) ≡ ds) → n < 1000 → decimal n ≡ ds ++ (digit (n % 10) ∷ [])
more_printed n ds l p h = elim (dec_lt n 100) [
  | yes k ↦ decimal_two n l k ∙ ap (λ e. e ++ (digit (n % 10) ∷ [])) (sym (decimal_one (n / 10) (omega arith)) ∙ p (omega arith))
  | no k ↦
      let q : n / 100 ≡ n / 10 / 10 = omega arith in
      decimal_three n (omega arith) ∙ ap (λ x. digit x ∷ digit (n / 10 % 10) ∷ digit (n % 10) ∷ []) q
      ∙ ap (λ e. e ++ (digit (n % 10) ∷ [])) (sym (decimal_two (n / 10) (omega arith) (omega arith)) ∙ p (omega arith))
]

pub decimal_printed : (n : ℕ) → n < 1000 → decimal n ≡ printed n
decimal_printed n h = decimal_by_steps (λ n ds. n < 1000 → decimal n ≡ ds) (λ n k _. decimal_one n k) more_printed n (omega arith) h

spaced_append : (xs ys : List ℕ) → spaced (xs ++ ys) ≡ spaced xs ++ spaced ys
unfolding spaced
spaced_append [] ys = refl
spaced_append (x ∷ xs) ys = ap (λ l. 32 ∷ decimal x ++ l) (spaced_append xs ys) ∙ ap (λ l. 32 ∷ l) (sym (append_assoc (decimal x) (spaced xs) (spaced ys)))

module _ (ns : List ℕ) (i : ℕ) (h : i < length ns) where
  -- a number more
  pub spaced_next : spaced (take i ns) ++ (32 ∷ decimal (get_or ns i 0)) ≡ spaced (take (i + 1) ns)
  unfolding spaced
  spaced_next = sym (ap spaced (ap (λ k. take k ns) (add-one i) ∙ take-suc ns i 0 h) ∙ spaced_append (take i ns) (get_or ns i 0 ∷ []) ∙ ap (λ l. spaced (take i ns) ++ (32 ∷ l)) (append-nil (decimal (get_or ns i 0))))

  -- and it has room where all have
  pub spaced_room : length (spaced (take i ns)) + (1 + length (decimal (get_or ns i 0))) ≤ length (spaced ns)
  unfolding spaced
  spaced_room =
      let x = get_or ns i 0 in
      let rest = drop (suc i) ns in
      let e = ap length (ap spaced (split_at ns i 0 h) ∙ spaced_append (take i ns) (x ∷ rest)) in
      let a = length-append (spaced (take i ns)) (32 ∷ decimal x ++ spaced rest) in
      let b = length-append (decimal x) (spaced rest) in
      omega arith

-- how long

pub spaced_length : (ns : List ℕ) → length (spaced ns) ≤ 4 * length ns
unfolding spaced
spaced_length [] = omega arith
spaced_length (n ∷ ns) = let a = length-append (decimal n) (spaced ns) in let b = decimal_length n in let r = spaced_length ns in omega arith

pub line_parts : (word ns : List ℕ) → length (line word ns) ≡ length word + length (spaced ns) + 1
line_parts word ns = simp length-append

pub line_length : (word ns : List ℕ) → length (line word ns) ≤ length word + 4 * length ns + 1
line_length word ns = let e = line_parts word ns in let l = spaced_length ns in omega arith

pub refused_length : (n : ℕ) → length (refused_line n) ≤ 12
refused_length n = line_length refused_word (n ∷ [])

-- the three lines of a list are as long as they are together
pub list_length : (t l : ℕ) (w : List ℕ) → length (list_lines t w l) ≡ length (count_line t) + length (gates_line w) + length (loose_line l)
list_length t l w =
    let m = length-append (count_line t) (gates_line w) in
    let n = length-append (count_line t ++ gates_line w) (loose_line l) in
    omega arith

-- what is written lies within the buffer
pub within : {bs old new : List ℕ} {r : ℕ} → Appended bs 0 old new r → length bs ≤ length old → (r ≤ length new) × (r ≡ length (take r new))
within {bs} {old} {new} {r} a h =
    let l = appended_length a (omega arith) in
    let e = a.next in
    let k : r ≤ length new = omega arith in
    (k, sym (length-take-le r new k))

-- and what is taken of the buffer up to the place after it is what is written
pub taken : {bs old new : List ℕ} {r : ℕ} → Appended bs 0 old new r → length bs ≤ length old → take r new ≡ bs
taken a h = appended_take a (omega arith)

-- what is written at the front of a buffer is appended at its start
pub front : (old bs : List ℕ) → Appended bs 0 old (written old bs) (length bs)
unfolding written
front old bs = record { next = sym (zero-add (length bs)); buffer = ap (λ k. bs ++ drop k old) (sym (zero-add (length bs))) }
