-- What the tests and the results of specs/Array.antt mean.
use Rattle.std.specs.Prelude.{◌≡◌, refl, ◌≢◌, Bool, true, false, ◌||◌, List, [], ◌∷◌, ℕ, zero, suc, ◌+◌, ◌*◌, ◌-◌, ◌/◌, ◌%◌, ◌^◌, ◌<◌, ◌≤◌, eqb, ltb, ℤ, pos, negsuc, nat_abs, ◌+ℤ◌, ◌-ℤ◌, ◌*ℤ◌, length, get_or, set}
use Rattle.std.proofs.Common.{sym, ◌∙◌, subst, inl, inr, get_or-set_same, get_or-set_other, eq-eqb, ne_eqb, eqb-true, le-leb, leb-true, le-ltb}
use Rattle.std.proofs.Math.Path.{ap}
use native.Mathlib.Omega.{arith}
use Rattle.std.proofs.Math.Decide.{dec_lt, ℕ_discrete}
use Rattle.std.specs.Int.Count.{ones}
use Rattle.std.proofs.Math.IntN.{*ℤ_comm, *ℤ-zero}
use Rattle.std.specs.Int.Signed.{le_z}
use Rattle.std.proofs.lemmas.Bool.{eqb-false}
use Rattle.matrix.specs.Range.{sum, bits, total}
use Rattle.matrix.specs.Integer.{parity, half, equals}
use Rattle.matrix.specs.Matrix.{Matrix, Same, δ, replaced, combined, row_product, entry, listed}
use Rattle.matrix.specs.Determinant.{det}
use Rattle.matrix.specs.Operator.{Operator, operator, SameOperator, Orthogonal, LeastExponent, AllEven, Reduced}
use Rattle.matrix.specs.declared.Scaled.{Scaled}
use Rattle.matrix.specs.Array.{Bounded, everywhere, orthogonal_at, is_orthogonal, is_within, row_mask, row_weight, odd_at, before_odd, halved, half_sums, choose, least, least_form, operator_of}
use Rattle.matrix.specs.Laws.Integer.{*ℤ-unit-r, equals_eq, equals_yes, square_size, nat_abs_add_le, nat_abs_minus_le}
use Rattle.matrix.specs.Laws.Parity.{half_even, half_sum, half_minus, even_parity, parity_even, parity_lt, parity_cases, nat_abs_half}
use Rattle.matrix.specs.Laws.Range.{every_sound, every_complete, first_in, first_most, first_passed, length_tabulate, get_d_tabulate, tabulate_is, bits_lt, bit_at, ones_bits}
use Rattle.matrix.specs.Laws.Test.{same_test_lem}
use Rattle.matrix.specs.Laws.Ring.{var, num, ◌:+◌, ◌:-◌, ◌:*◌, ◌:=◌, ◌of◌, times_by}
use Rattle.matrix.specs.Laws.Sum.{sum_cong, δ_same, δ_other, δ_sym}
use Rattle.matrix.specs.Laws.Determinant.{replaced_same, replaced_other, det_cong, det_minus_plus}
use Rattle.matrix.specs.Laws.Operator.{same_operator_refl, same_operator_sym, same_operator_trans, same_operator_of, same_orthogonal, reduced_least, reduced_unique, halved_same, entry_square, entry_bound, power_bound, same_square}

-- ---- the array's view as a matrix

-- the element at n, by its row and column
pub entry_flat : (m : List ℤ) (n : ℕ) → entry m (n / 6) (n % 6) ≡ get_or m n (pos 0)
entry_flat m n = let e : n / 6 * 6 + n % 6 ≡ n = omega arith in ap (λ x. get_or m x (pos 0)) e

pub entry_listed : (M : Matrix) → Same 6 (entry (listed M)) M
unfolding listed
entry_listed M r c hr hc =
    let e : (0 + (r * 6 + c)) / 6 ≡ r = omega arith in
    let f : (0 + (r * 6 + c)) % 6 ≡ c = omega arith in
    get_d_tabulate (λ n. M (n / 6) (n % 6)) 0 36 (r * 6 + c) (pos 0) (omega arith) ∙ rw (e, f)

pub length_listed : (M : Matrix) → length (listed M) ≡ 36
unfolding listed
length_listed M = length_tabulate (λ n. M (n / 6) (n % 6)) 0 36

-- an array is what its entries are
pub listed_is : (m : List ℤ) (M : Matrix) → length m ≡ 36 → Same 6 (entry m) M → m ≡ listed M
unfolding listed
listed_is m M l h =
    tabulate_is (λ n. M (n / 6) (n % 6)) 36 (pos 0) m l (λ n u. sym (entry_flat m n) ∙ h (n / 6) (n % 6) (omega arith) (omega arith))

pub listed_cong : (A B : Matrix) → Same 6 A B → listed A ≡ listed B
listed_cong A B h = listed_is (listed A) B (length_listed A) (λ r c hr hc. entry_listed A r c hr hc ∙ h r c hr hc)

-- one element set
module _ (m : List ℤ) (i c : ℕ) (x : ℤ) (hc : c < 6) where
  pub entry_set_same : i < 6 → length m ≡ 36 → entry (set m (i * 6 + c) x) i c ≡ x
  entry_set_same hi l = get_or-set_same m (i * 6 + c) x (pos 0) (omega arith)

  pub entry_set_other : (r s : ℕ) → s < 6 → (r ≡ i → s ≡ c → ⊥) → entry (set m (i * 6 + c) x) r s ≡ entry m r s
  entry_set_other r s hs w = get_or-set_other m (i * 6 + c) (r * 6 + s) x (pos 0) (λ e. w (omega arith) (omega arith))

-- ---- tests at every entry

module _ (f : ℕ → ℕ → Bool) where
  pub everywhere_sound : everywhere f ≡ true → (r c : ℕ) → r < 6 → c < 6 → f r c ≡ true
  everywhere_sound e r c hr hc =
      let p : (r * 6 + c) / 6 ≡ r = omega arith in
      let q : (r * 6 + c) % 6 ≡ c = omega arith in
      rw (p, q) at (every_sound 36 (λ n. f (n / 6) (n % 6)) e (r * 6 + c) (omega arith))

  pub everywhere_complete : ((r c : ℕ) → r < 6 → c < 6 → f r c ≡ true) → everywhere f ≡ true
  everywhere_complete h = every_complete 36 (λ n. f (n / 6) (n % 6)) (λ n u. h (n / 6) (n % 6) (omega arith) (omega arith))

-- ---- orthogonal

row_product_sym : (M : Matrix) (i j : ℕ) → row_product 6 M i j ≡ row_product 6 M j i
row_product_sym M i j = sum_cong (λ c hc. *ℤ_comm (M i c) (M j c))

or_false : (a b : Bool) → a ≡ false → (a || b) ≡ true → b ≡ true
or_false true b e h = cc
or_false false b e h = h

or_true : (a b : Bool) → b ≡ true → (a || b) ≡ true
or_true true b h = refl
or_true false b h = h

pub orthogonal_sound : (k : ℕ) (M : Matrix) → is_orthogonal k M ≡ true → Orthogonal (operator k M)
unfolding is_orthogonal
orthogonal_sound k M e = record {
  rows = λ i j hi hj. elim (dec_lt j i) [
    | yes l ↦ row_product_sym M i j ∙ at j i hj hi (omega arith) ∙ ap (λ x. pos (2 ^ k) *ℤ x) (δ_sym j i)
    | no l ↦ at i j hi hj (omega arith)
  ];
}
  where
    at : (i j : ℕ) → i < 6 → j < 6 → i ≤ j → row_product 6 M i j ≡ pos (2 ^ k) *ℤ δ i j
    at i j hi hj l =
        equals_eq _ _
        (or_false (ltb j i) (equals (row_product 6 M i j) (pos (2 ^ k) *ℤ δ i j)) (le-ltb j i l)
        (everywhere_sound (orthogonal_at (pos (2 ^ k)) M) e i j hi hj))

pub orthogonal_complete : (k : ℕ) (M : Matrix) → Orthogonal (operator k M) → is_orthogonal k M ≡ true
unfolding is_orthogonal
orthogonal_complete k M o =
    everywhere_complete (orthogonal_at (pos (2 ^ k)) M)
    (λ i j hi hj. or_true (ltb j i) (equals (row_product 6 M i j) (pos (2 ^ k) *ℤ δ i j)) (equals_yes (o.rows i j hi hj)))

-- the square norm of six numbers, as a sum of natural numbers
pub norm_total : (v : ℕ → ℤ) (n : ℕ) → sum 6 (λ c. v c *ℤ v c) ≡ pos n → total (λ c. nat_abs (v c) * nat_abs (v c)) 0 6 ≡ n
unfolding sum total
norm_total v n e = rearranged (q 0) (q 1) (q 2) (q 3) (q 4) (q 5) ∙ ap nat_abs (here ∙ e)
  where
    q : ℕ → ℕ
    q c = nat_abs (v c) * nat_abs (v c)

    rearranged : (a b c d e f : ℕ) → a + (b + (c + (d + (e + (f + 0))))) ≡ 0 + a + b + c + d + e + f
    rearranged a b c d e f = omega arith

    here : pos (0 + q 0 + q 1 + q 2 + q 3 + q 4 + q 5) ≡ sum 6 (λ c. v c *ℤ v c)
    here = rw (square_size (v 0), square_size (v 1), square_size (v 2), square_size (v 3), square_size (v 4), square_size (v 5))

-- the rows of an orthogonal operator
pub row_norm : (k : ℕ) (M : Matrix) → Orthogonal (operator k M) → (i : ℕ) → i < 6 → sum 6 (λ c. M i c *ℤ M i c) ≡ pos (2 ^ k)
row_norm k M o i h = o.rows i i h h ∙ ap (λ x. pos (2 ^ k) *ℤ x) (δ_same i) ∙ *ℤ-unit-r (pos (2 ^ k))

pub row_other : (k : ℕ) (M : Matrix) → Orthogonal (operator k M) → (i j : ℕ) → i < 6 → j < 6 → i ≢ j → row_product 6 M i j ≡ pos 0
row_other k M o i j hi hj w = o.rows i j hi hj ∙ ap (λ x. pos (2 ^ k) *ℤ x) (δ_other i j w) ∙ *ℤ-zero (pos (2 ^ k))

-- ---- squares within 2 to the power k

pub within_sound : (k : ℕ) (M : Matrix) → is_within k M ≡ true → (r c : ℕ) → r < 6 → c < 6 → nat_abs (M r c) * nat_abs (M r c) ≤ 2 ^ k
unfolding is_within
within_sound k M e r c hr hc =
    leb-true _ _ (rw square_size at (everywhere_sound (λ r c. le_z (M r c *ℤ M r c) (pos (2 ^ k))) e r c hr hc))

pub within_complete : (k : ℕ) (M : Matrix) → ((r c : ℕ) → r < 6 → c < 6 → nat_abs (M r c) * nat_abs (M r c) ≤ 2 ^ k) → is_within k M ≡ true
unfolding is_within
within_complete k M h = everywhere_complete (λ r c. le_z (M r c *ℤ M r c) (pos (2 ^ k))) (λ r c hr hc. rw square_size (le-leb _ _ (h r c hr hc)))

pub within_bounded : (k b : ℕ) (M : Matrix) → is_within k M ≡ true → k ≤ b + b → Bounded (2 ^ b) M
within_bounded k b M e h = record { size = λ r c hr hc. power_bound (nat_abs (M r c)) k b (within_sound k M e r c hr hc) h }

-- an orthogonal operator passes
pub within_orthogonal : (k : ℕ) (M : Matrix) → Orthogonal (operator k M) → is_within k M ≡ true
within_orthogonal k M o = within_complete k M (entry_square o)

-- operators that stand for the same matrix pass together
module _ {A B : Operator} (h : SameOperator A B) where
  pub same_within : is_within A.exponent A.matrix ≡ is_within B.exponent B.matrix
  same_within = same_test_lem _ _ (pass h) (pass (same_operator_sym h))
    where
      pass : {A B : Operator} → SameOperator A B → is_within A.exponent A.matrix ≡ true → is_within B.exponent B.matrix ≡ true
      pass {A} {B} h e = within_complete B.exponent B.matrix (λ r c hr hc. same_square h r c hr hc (within_sound A.exponent A.matrix e r c hr hc))

  pub same_is_orthogonal : is_orthogonal A.exponent A.matrix ≡ is_orthogonal B.exponent B.matrix
  same_is_orthogonal = same_test_lem _ _ (pass h) (pass (same_operator_sym h))
    where
      pass : {A B : Operator} → SameOperator A B → is_orthogonal A.exponent A.matrix ≡ true → is_orthogonal B.exponent B.matrix ≡ true
      pass {A} {B} h e = orthogonal_complete B.exponent B.matrix (same_orthogonal h (orthogonal_sound A.exponent A.matrix e))

pub orthogonal_bounded : (k b : ℕ) (M : Matrix) → Orthogonal (operator k M) → k ≤ b + b → Bounded (2 ^ b) M
orthogonal_bounded k b M o h = record { size = λ r c hr hc. entry_bound o b h r c hr hc }

-- ---- the odd entries of a row

module _ (M : Matrix) (r : ℕ) where
  pub mask_lt : row_mask M r < 64
  unfolding row_mask
  mask_lt = bits_lt (λ c. parity (M r c)) (λ c. parity_lt (M r c)) 0 6

  -- bit c is the parity of the entry in column c
  pub mask_bit : (c : ℕ) → c < 6 → row_mask M r / 2 ^ c % 2 ≡ parity (M r c)
  unfolding row_mask
  mask_bit c h = let e : 0 + c ≡ c = omega arith in bit_at (λ c. parity (M r c)) (λ c. parity_lt (M r c)) 0 6 c h ∙ ap (λ x. parity (M r x)) e

  pub mask_ones : ones (row_mask M r) ≡ row_weight M r
  unfolding row_mask row_weight
  mask_ones = ones_bits (λ c. parity (M r c)) (λ c. parity_lt (M r c)) 0 6

-- rows of equal bits have entries of equal parity
pub equal_masks : (M : Matrix) (i j : ℕ) → row_mask M i ≡ row_mask M j → (c : ℕ) → c < 6 → parity (M i c) ≡ parity (M j c)
equal_masks M i j e c h = sym (mask_bit M i c h) ∙ ap (λ x. x / 2 ^ c % 2) e ∙ mask_bit M j c h

-- and entries of equal parity make equal bits
pub equal_parities : (M N : Matrix) (i j : ℕ) → ((c : ℕ) → c < 6 → parity (M i c) ≡ parity (N j c)) → row_mask M i ≡ row_mask N j
unfolding row_mask bits
equal_parities M N i j h = rw (h 0 (omega arith), h 1 (omega arith), h 2 (omega arith), h 3 (omega arith), h 4 (omega arith), h 5 (omega arith))

-- ---- even matrices and their halves

-- n entries stand before the first odd one
pub record BeforeOdd (M : Matrix) (n : ℕ) : Type 0 where
  pub most : n ≤ 36
  -- all before it are even
  pub even : (i : ℕ) → i < n → parity (M (i / 6) (i % 6)) ≡ 0
  -- where there is one, it is odd
  pub odd : n < 36 → parity (M (n / 6) (n % 6)) ≡ 1

pub before_odd_lem : (M : Matrix) → BeforeOdd M (before_odd M)
unfolding before_odd
before_odd_lem M = record {
  most = first_most (odd_at M) 0 36;
  even = λ i h. not_odd i (first_passed (odd_at M) 0 36 i (omega arith) h);
  odd = λ h. eqb-true _ _ (first_in (odd_at M) 0 36 h).holds;
}
  where
    not_odd : (i : ℕ) → odd_at M i ≡ false → parity (M (i / 6) (i % 6)) ≡ 0
    not_odd i e = elim (parity_cases (M (i / 6) (i % 6))) [ inl z ↦ z | inr z ↦ absurd (eqb-false _ _ e z) ]

-- and of no other number is that true
pub before_odd_only : (M : Matrix) (n : ℕ) → BeforeOdd M n → n ≡ before_odd M
before_odd_only M n a =
    let b = before_odd_lem M in
    let u = not_less n (before_odd M) a b in
    let v = not_less (before_odd M) n b a in
    omega arith
  where
    not_less : (n p : ℕ) → BeforeOdd M n → BeforeOdd M p → n < p → ⊥
    not_less n p a b l =
        let o = a.odd (let h = b.most in omega arith) in
        let e = b.even n l in
        omega arith

-- 36 exactly if all entries are even
pub even_sound : (M : Matrix) → before_odd M ≡ 36 → AllEven M
even_sound M e i j hi hj =
    let p : (i * 6 + j) / 6 ≡ i = omega arith in
    let q : (i * 6 + j) % 6 ≡ j = omega arith in
    parity_even (M i j) (rw (p, q) at ((before_odd_lem M).even (i * 6 + j) (omega arith)))

pub even_complete : (M : Matrix) → AllEven M → before_odd M ≡ 36
even_complete M h = elim (dec_lt (before_odd M) 36) [
  | yes l ↦
      let n = before_odd M in
      let o = (before_odd_lem M).odd l in
      let z = even_parity (M (n / 6) (n % 6)) (h (n / 6) (n % 6) (omega arith) (omega arith)) in
      absurd (omega arith)
  | no l ↦ let u = (before_odd_lem M).most in omega arith
]

pub bounded_halved : (b : ℕ) (M : Matrix) → Bounded b M → Bounded b (halved M)
bounded_halved b M s = record { size = λ r c hr hc. let h = s.size r c hr hc in let e = nat_abs_half (M r c) in omega arith }

pub bounded_same : (b : ℕ) (M N : Matrix) → Same 6 M N → Bounded b N → Bounded b M
bounded_same b M N e s = record { size = λ r c hr hc. subst (λ z. nat_abs z ≤ b) (sym (e r c hr hc)) (s.size r c hr hc) }

pub bounded_listed : (b : ℕ) (M : Matrix) → Bounded b M → Bounded b (entry (listed M))
bounded_listed b M s = bounded_same b (entry (listed M)) M (entry_listed M) s

-- ---- the least form

-- m lowered by two powers of √2
abbrev pub lowered : List ℤ → List ℤ
lowered m = listed (halved (entry m))

pub lowered_doubles : (m : List ℤ) → before_odd (entry m) ≡ 36 → (i j : ℕ) → i < 6 → j < 6 → entry m i j ≡ entry (lowered m) i j +ℤ entry (lowered m) i j
lowered_doubles m e i j hi hj =
    rw (entry_listed (halved (entry m)) i j hi hj) (sym (half_even (entry m i j) (even_parity (entry m i j) (even_sound (entry m) e i j hi hj))))

-- what a loop that lowers keeps
pub least_turn : (k : ℕ) (m : List ℤ) → 2 ≤ k → before_odd (entry m) ≡ 36 → least_form k m ≡ least_form (k - 2) (lowered m)
unfolding least_form
least_turn zero m h e = absurd (omega arith)
least_turn (suc zero) m h e = absurd (omega arith)
least_turn (suc (suc k)) m h e = let s : suc (suc k) - 2 ≡ k = omega arith in rw (eq-eqb _ _ e) (ap (λ x. least_form x (lowered m)) (sym s))

pub least_odd : (k : ℕ) (m : List ℤ) → (before_odd (entry m) ≢ 36) → least_form k m ≡ least k m
unfolding least_form
least_odd zero m e = refl
least_odd (suc zero) m e = refl
least_odd (suc (suc k)) m e = rw (ne_eqb _ _ e)

pub least_small : (k : ℕ) (m : List ℤ) → k < 2 → least_form k m ≡ least k m
unfolding least_form
least_small zero m h = refl
least_small (suc zero) m h = refl
least_small (suc (suc k)) m h = absurd (omega arith)

-- an array that holds the entries stands for the same matrix
pub listed_same : (A : Operator) → SameOperator A (operator A.exponent (entry (listed A.matrix)))
listed_same A = same_operator_of A (operator A.exponent (entry (listed A.matrix))) refl (λ i j hi hj. sym (entry_listed A.matrix i j hi hj))

-- the least form of every pair stands for the same matrix and cannot be halved; of an array it is one, and it is bounded as that was
pub record LeastForm (k : ℕ) (m : List ℤ) (l : Scaled) : Type 0 where
  pub same : SameOperator (operator k (entry m)) (operator_of l)
  pub reduced : Reduced (operator_of l)
  pub long : length m ≡ 36 → length l.matrix ≡ 36
  pub below : l.exponent ≤ k
  pub bounded : (b : ℕ) → Bounded b (entry m) → Bounded b (entry l.matrix)

itself : (k : ℕ) (m : List ℤ) → (AllEven (entry m) → k ≤ 1) → LeastForm k m (least k m)
itself k m h = record {
  same = same_operator_refl (operator k (entry m));
  reduced = record { small = h };
  long = λ e. e;
  below = omega arith;
  bounded = λ b s. s;
}

pub least_form_lem : (k : ℕ) (m : List ℤ) → LeastForm k m (least_form k m)
unfolding least_form
least_form_lem zero m = itself 0 m (λ e. omega arith)
least_form_lem (suc zero) m = itself 1 m (λ e. omega arith)
least_form_lem (suc (suc k)) m = go (eqb (before_odd (entry m)) 36) refl (least_form_lem k (lowered m))
  where
    here : Scaled
    here = least (suc (suc k)) m

    go : (t : Bool) → eqb (before_odd (entry m)) 36 ≡ t → LeastForm k (lowered m) (least_form k (lowered m)) → LeastForm (suc (suc k)) m (choose t (least_form k (lowered m)) here)
    go true e r = record {
      same = same_operator_trans (halved_same k (entry m) (entry (lowered m)) (lowered_doubles m (eqb-true _ _ e))) r.same;
      reduced = r.reduced;
      long = λ l. r.long (length_listed (halved (entry m)));
      below = let h = r.below in omega arith;
      bounded = λ b s. r.bounded b (bounded_listed b (halved (entry m)) (bounded_halved b (entry m) s));
    }
    go false e r = itself (suc (suc k)) m (λ a. absurd (eqb-false _ _ e (even_complete (entry m) a)))

-- of an orthogonal pair it is orthogonal, and its exponent is the least
pub least_orthogonal : (k : ℕ) (m : List ℤ) → Orthogonal (operator k (entry m)) → Orthogonal (operator_of (least_form k m))
least_orthogonal k m o = same_orthogonal (least_form_lem k m).same o

pub least_exponent : (k : ℕ) (m : List ℤ) → Orthogonal (operator k (entry m)) → LeastExponent (operator k (entry m)) (least_form k m).exponent
least_exponent k m o = reduced_least (least_form_lem k m).same (least_orthogonal k m o) (least_form_lem k m).reduced

-- pairs that stand for the same matrix have one least form
pub same_least_form : (k l : ℕ) (m n : List ℤ) → length m ≡ 36 → length n ≡ 36 → Orthogonal (operator k (entry m)) → Orthogonal (operator l (entry n))
    → SameOperator (operator k (entry m)) (operator l (entry n)) → least_form k m ≡ least_form l n
same_least_form k l m n hm hn o p h =
    let f = least_form_lem k m in
    let g = least_form_lem l n in
    let (e, s) = reduced_unique (least_orthogonal k m o) (least_orthogonal l n p) f.reduced g.reduced (same_operator_trans (same_operator_sym f.same) (same_operator_trans h g.same)) in
    let q : (least_form k m).matrix ≡ (least_form l n).matrix =
    listed_is (least_form k m).matrix (entry (least_form l n).matrix) (f.long hm) s ∙ sym (listed_is (least_form l n).matrix (entry (least_form l n).matrix) (g.long hn) (λ i j hi hj. refl)) in
    λ t. record { exponent = e t; matrix = q t }

-- ---- half of the sum and half of the difference of two rows

module _ (i j : ℕ) (M : Matrix) (w : i ≢ j) where
  pub half_sums_i : (c : ℕ) → half_sums i j M i c ≡ half (M i c +ℤ M j c)
  half_sums_i c = rw (replaced_same i (λ c. half (M i c +ℤ M j c)) (replaced j (λ c. half (M j c -ℤ M i c)) M))

  pub half_sums_j : (c : ℕ) → half_sums i j M j c ≡ half (M j c -ℤ M i c)
  half_sums_j c =
      rw (
        replaced_other i (λ c. half (M i c +ℤ M j c)) (replaced j (λ c. half (M j c -ℤ M i c)) M) j (λ e. w (sym e)),
        replaced_same j (λ c. half (M j c -ℤ M i c)) M,
      )

  pub half_sums_other : (r c : ℕ) → r ≢ i → r ≢ j → half_sums i j M r c ≡ M r c
  half_sums_other r c p q =
      rw (
        replaced_other i (λ c. half (M i c +ℤ M j c)) (replaced j (λ c. half (M j c -ℤ M i c)) M) r p,
        replaced_other j (λ c. half (M j c -ℤ M i c)) M r q,
      )

-- whatever holds of the two halves and of the other rows holds of all rows
pub half_sums_case : (i j : ℕ) (M : Matrix) → i ≢ j → (c : ℕ) (P : ℕ → ℤ → Type 0) → P i (half (M i c +ℤ M j c)) → P j (half (M j c -ℤ M i c))
    → ((r : ℕ) → r ≢ i → r ≢ j → P r (M r c)) → (r : ℕ) → P r (half_sums i j M r c)
half_sums_case i j M w c P a b h r = elim (ℕ_discrete r i) [
  | yes e ↦ rw e (subst (P i) (sym (half_sums_i i j M w c)) a)
  | no p ↦ elim (ℕ_discrete r j) [
    | yes e ↦ rw e (subst (P j) (sym (half_sums_j i j M w c)) b)
    | no q ↦ subst (P r) (sym (half_sums_other i j M w r c p q)) (h r p q)
  ]
]

pub bounded_half_sums : (b i j : ℕ) (M : Matrix) → i < 6 → j < 6 → i ≢ j → Bounded b M → Bounded b (half_sums i j M)
bounded_half_sums b i j M hi hj w s = record {
  size = λ r c hr hc. half_sums_case i j M w c (λ r z. r < 6 → nat_abs z ≤ b)
      (λ _. let x = s.size i c hi hc in let y = s.size j c hj hc in let t = nat_abs_add_le (M i c) (M j c) in let e = nat_abs_half (M i c +ℤ M j c) in omega arith)
      (λ _. let x = s.size i c hi hc in let y = s.size j c hj hc in let t = nat_abs_minus_le (M j c) (M i c) in let e = nat_abs_half (M j c -ℤ M i c) in omega arith)
      (λ r p q h. s.size r c h hc) r hr;
}

pub half_sums_cong : (i j : ℕ) (A B : Matrix) → i < 6 → j < 6 → i ≢ j → Same 6 A B → Same 6 (half_sums i j A) (half_sums i j B)
half_sums_cong i j A B hi hj w h r c hr hc =
    half_sums_case i j A w c (λ r z. r < 6 → z ≡ half_sums i j B r c)
    (λ _. rw (h i c hi hc, h j c hj hc) (sym (half_sums_i i j B w c)))
    (λ _. rw (h i c hi hc, h j c hj hc) (sym (half_sums_j i j B w c)))
    (λ r p q hr. h r c hr hc ∙ sym (half_sums_other i j B w r c p q)) r hr

-- "These halves lose nothing, also for negative entries": of rows of equal parity, their difference and their sum are the rows again
module _ (i j : ℕ) (M : Matrix) (w : i ≢ j) (p : (c : ℕ) → c < 6 → parity (M i c) ≡ parity (M j c)) where
  half_sums_minus : (c : ℕ) → c < 6 → pos 1 *ℤ half_sums i j M i c +ℤ negsuc 0 *ℤ half_sums i j M j c ≡ M i c
  half_sums_minus c h =
      rw (half_sums_i i j M w c, half_sums_j i j M w c)
      (times_by (M i c ∷ M j c ∷ half (M i c +ℤ M j c) ∷ half (M j c -ℤ M i c) ∷ []) 1 (num (pos 1) :* var 2 :+ num (negsuc 0) :* var 3) (var 0)
      ((num (pos 1) of (var 2 :+ var 2 := var 0 :+ var 1)) ∷ (num (negsuc 0) of (var 3 :+ var 3 := var 1 :- var 0)) ∷ [])
      (half_sum (M i c) (M j c) (p c h), (half_minus (M j c) (M i c) (sym (p c h)), tt)) refl)

  half_sums_plus : (c : ℕ) → c < 6 → pos 1 *ℤ half_sums i j M i c +ℤ pos 1 *ℤ half_sums i j M j c ≡ M j c
  half_sums_plus c h =
      rw (half_sums_i i j M w c, half_sums_j i j M w c)
      (times_by (M i c ∷ M j c ∷ half (M i c +ℤ M j c) ∷ half (M j c -ℤ M i c) ∷ []) 1 (num (pos 1) :* var 2 :+ num (pos 1) :* var 3) (var 1)
      ((num (pos 1) of (var 2 :+ var 2 := var 0 :+ var 1)) ∷ (num (pos 1) of (var 3 :+ var 3 := var 1 :- var 0)) ∷ [])
      (half_sum (M i c) (M j c) (p c h), (half_minus (M j c) (M i c) (sym (p c h)), tt)) refl)

  pub half_sums_exact : Same 6 (combined i j (pos 1) (negsuc 0) (pos 1) (pos 1) (half_sums i j M)) M
  half_sums_exact r c hr hc = elim (ℕ_discrete r i) [
    | yes e ↦ rw (e, replaced_same i (λ s. pos 1 *ℤ half_sums i j M i s +ℤ negsuc 0 *ℤ half_sums i j M j s) (replaced j (λ s. pos 1 *ℤ half_sums i j M i s +ℤ pos 1 *ℤ half_sums i j M j s) (half_sums i j M))) (half_sums_minus c hc)
    | no f ↦ rw (replaced_other i (λ s. pos 1 *ℤ half_sums i j M i s +ℤ negsuc 0 *ℤ half_sums i j M j s) (replaced j (λ s. pos 1 *ℤ half_sums i j M i s +ℤ pos 1 *ℤ half_sums i j M j s) (half_sums i j M)) r f)
        (elim (ℕ_discrete r j) [
          | yes e ↦ rw (e, replaced_same j (λ s. pos 1 *ℤ half_sums i j M i s +ℤ pos 1 *ℤ half_sums i j M j s) (half_sums i j M)) (half_sums_plus c hc)
          | no g ↦ rw (replaced_other j (λ s. pos 1 *ℤ half_sums i j M i s +ℤ pos 1 *ℤ half_sums i j M j s) (half_sums i j M) r g) (half_sums_other i j M w r c f g)
        ])
  ]

  -- and the determinant is halved, so that its sign stays
  pub half_sums_det : i < 6 → j < 6 → det 6 M ≡ pos 2 *ℤ det 6 (half_sums i j M)
  half_sums_det hi hj = sym (det_cong 6 _ _ half_sums_exact) ∙ det_minus_plus 6 i j hi hj w (half_sums i j M)
