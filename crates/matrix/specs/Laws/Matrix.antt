-- Products of matrices, and the theorem that rows which are orthogonal make columns which are. For every size n and every square norm q.
use Rattle.std.specs.Prelude.{◌≡◌, refl, ℕ, ◌<◌, ℤ, pos, neg_ℤ, ◌+ℤ◌, ◌-ℤ◌, ◌*ℤ◌}
use Rattle.std.proofs.Common.{sym, ◌∙◌, ap, ap₂}
use Rattle.std.proofs.Math.Path.{fun_ext}
use Rattle.std.proofs.Math.IntN.{+ℤ_idr, +ℤ_invr, *ℤ-zero, *ℤ_comm}
use Rattle.matrix.specs.Range.{sum}
use Rattle.matrix.specs.Matrix.{Matrix, Same, δ, product, transpose, scaled, OrthogonalRows}
use Rattle.matrix.specs.Laws.Integer.{*ℤ-distr-r, *ℤ-distr-l, *ℤ-assoc, *ℤ-left-comm, prodℤ, *ℤ-unit-l, *ℤ-unit-r, negℤ-*ℤ_l, negℤ-*ℤ_r, sub_zero→eq}
use Rattle.matrix.specs.Laws.Sum.{sum_cong, sum_add, sum_neg, mul_sum, sum_mul, sum_sum, δ_same, δ_sym, sum_δ, sum_δ_r, square_nonnegative, sum_nonnegative, sum_nonnegative_zero, sum_squares_zero}

pub same_refl : (n : ℕ) (A : Matrix) → Same n A A
same_refl n A i j hi hj = refl

-- ---- products

pub product_cong : {n : ℕ} {A A' B B' : Matrix} → Same n A A' → Same n B B' → Same n (product n A B) (product n A' B')
product_cong p q i k hi hk = sum_cong (λ j hj. ap₂ (λ x y. x *ℤ y) (p i j hi hj) (q j k hj hk))

-- at every entry, with no bound
pub product_assoc : (n : ℕ) (A B C : Matrix) → product n (product n A B) C ≡ product n A (product n B C)
product_assoc n A B C = fun_ext λ i. fun_ext λ l. simp (sum_mul, mul_sum, *ℤ-assoc) (sum_sum n n (λ k j. A i j *ℤ (B j k *ℤ C k l)))

pub product_id_l : (n : ℕ) (A : Matrix) → Same n (product n δ A) A
product_id_l n A i k hi hk = simp (δ_sym i) (sum_δ n i (λ j. A j k) hi)

pub product_id_r : (n : ℕ) (A : Matrix) → Same n (product n A δ) A
product_id_r n A i k hi hk = sum_δ_r n k (λ j. A i j) hk

pub transpose_product : (n : ℕ) (A B : Matrix) → transpose (product n A B) ≡ product n (transpose B) (transpose A)
transpose_product n A B = fun_ext λ i. fun_ext λ k. ap (sum n) (fun_ext λ j. *ℤ_comm (A k j) (B j i))

pub product_scaled_r : (n : ℕ) (c : ℤ) (A B : Matrix) → product n A (scaled c B) ≡ scaled c (product n A B)
product_scaled_r n c A B = fun_ext λ i. fun_ext λ k. simp (mul_sum, *ℤ-left-comm)

pub product_scaled_l : (n : ℕ) (c : ℤ) (A B : Matrix) → product n (scaled c A) B ≡ scaled c (product n A B)
product_scaled_l n c A B = fun_ext λ i. fun_ext λ k. simp (mul_sum, *ℤ-assoc)

-- a matrix that is c times the identity, as a left factor
product_scalar_l : (n : ℕ) (c : ℤ) (D A : Matrix) → Same n D (scaled c δ) → Same n (product n D A) (scaled c A)
product_scalar_l n c D A h i k hi hk =
    product_cong h (same_refl n A) i k hi hk ∙ ap (λ X. X i k) (product_scaled_l n c δ A) ∙ ap (λ x. c *ℤ x) (product_id_l n A i k hi hk)

-- ---- orthogonal rows

pub orthogonal_δ : (n : ℕ) → OrthogonalRows n (pos 1) δ
orthogonal_δ n i j hi hj =
    sum_cong (λ k hk. ap (λ x. x *ℤ δ j k) (δ_sym i k)) ∙ sum_δ n i (λ k. δ j k) hi ∙ δ_sym j i ∙ sym (*ℤ-unit-l (δ i j))

pub orthogonal_product : (n : ℕ) (c d : ℤ) (A B : Matrix) → OrthogonalRows n c A → OrthogonalRows n d B → OrthogonalRows n (c *ℤ d) (product n A B)
orthogonal_product n c d A B p q i j hi hj =
    ap (λ X. product n (product n A B) X i j) (transpose_product n A B)
    ∙ ap (λ X. X i j) (product_assoc n A B (product n (transpose B) (transpose A)))
    ∙ ap (λ X. product n A X i j) (sym (product_assoc n B (transpose B) (transpose A)))
    ∙ product_cong (same_refl n A) (product_scalar_l n d (product n B (transpose B)) (transpose A) q) i j hi hj
    ∙ ap (λ X. X i j) (product_scaled_r n d A (transpose A))
    ∙ ap (λ x. d *ℤ x) (p i j hi hj)
    ∙ last (δ i j)
  where
    last : (x : ℤ) → d *ℤ (c *ℤ x) ≡ c *ℤ d *ℤ x
    last x = simp prodℤ

-- ---- orthogonal columns
-- With G the matrix of the columns' products, G G is q G. So row j of q times the identity less G has the square norm q (q − G j j).
-- These norms add up to q (n q − trace G), which is 0, since the trace is the sum of all squares, n q.

-- the square norm of q e_j − g, where that of g is q g_j
norm_of_gap : (n : ℕ) (q : ℤ) (j : ℕ) (g : ℕ → ℤ) → j < n → sum n (λ l. g l *ℤ g l) ≡ q *ℤ g j
    → sum n (λ l. (q *ℤ δ j l -ℤ g l) *ℤ (q *ℤ δ j l -ℤ g l)) ≡ q *ℤ (q -ℤ g j)
norm_of_gap n q j g hj e =
    sum_cong (λ l hl. split (q *ℤ δ j l) (g l) (w l))
    ∙ sum_add n (λ l. q *ℤ δ j l *ℤ w l) (λ l. neg_ℤ (g l *ℤ w l))
    ∙ ap₂ (λ x y. x +ℤ y) (pick w) (sum_neg n (λ l. g l *ℤ w l) ∙ ap neg_ℤ none)
    ∙ +ℤ_idr (q *ℤ w j)
    ∙ ap (λ x. q *ℤ (x -ℤ g j)) (ap (λ x. q *ℤ x) (δ_same j) ∙ *ℤ-unit-r q)
  where
    w : ℕ → ℤ
    w l = q *ℤ δ j l -ℤ g l

    split : (x y z : ℤ) → (x -ℤ y) *ℤ z ≡ x *ℤ z +ℤ neg_ℤ (y *ℤ z)
    split x y z = *ℤ-distr-r x (neg_ℤ y) z ∙ ap (λ t. x *ℤ z +ℤ t) (negℤ-*ℤ_l y z)

    split' : (x y z : ℤ) → z *ℤ (x -ℤ y) ≡ x *ℤ z +ℤ neg_ℤ (z *ℤ y)
    split' x y z = *ℤ-distr-l z x (neg_ℤ y) ∙ ap₂ (λ s t. s +ℤ t) (*ℤ_comm z x) (negℤ-*ℤ_r z y)

    pick : (y : ℕ → ℤ) → sum n (λ l. q *ℤ δ j l *ℤ y l) ≡ q *ℤ y j
    pick y =
        sum_cong (λ l hl. *ℤ-assoc q (δ j l) (y l) ∙ *ℤ-left-comm q (δ j l) (y l) ∙ ap (λ x. x *ℤ (q *ℤ y l)) (δ_sym j l))
        ∙ sum_δ n j (λ l. q *ℤ y l) hj

    none : sum n (λ l. g l *ℤ w l) ≡ pos 0
    none =
        sum_cong (λ l hl. split' (q *ℤ δ j l) (g l) (g l))
        ∙ sum_add n (λ l. q *ℤ δ j l *ℤ g l) (λ l. neg_ℤ (g l *ℤ g l))
        ∙ ap₂ (λ x y. x +ℤ y) (pick g) (sum_neg n (λ l. g l *ℤ g l) ∙ ap neg_ℤ e)
        ∙ +ℤ_invr (q *ℤ g j)

-- the products of the columns, and q times the identity less these
abbrev gram : ℕ → Matrix → Matrix
gram n M = product n (transpose M) M

abbrev gap : ℕ → ℤ → Matrix → Matrix
gap n q M = λ j l. q *ℤ δ j l -ℤ gram n M j l

module _ (n : ℕ) (q : ℤ) (M : Matrix) (o : OrthogonalRows n q M) where
  gram_gram : Same n (product n (gram n M) (gram n M)) (scaled q (gram n M))
  gram_gram j l hj hl =
      ap (λ X. X j l) (product_assoc n (transpose M) M (gram n M))
      ∙ ap (λ X. product n (transpose M) X j l) (sym (product_assoc n M (transpose M) M))
      ∙ product_cong (same_refl n (transpose M)) (product_scalar_l n q (product n M (transpose M)) M o) j l hj hl
      ∙ ap (λ X. X j l) (product_scaled_r n q (transpose M) M)

  -- the sum of all squares, by columns and by rows
  trace : sum n (λ j. gram n M j j) ≡ sum n (λ i. q)
  trace = sum_sum n n (λ j i. M i j *ℤ M i j) ∙ sum_cong (λ i hi. o i i hi hi ∙ ap (λ x. q *ℤ x) (δ_same i) ∙ *ℤ-unit-r q)

  no_gap : sum n (λ j. sum n (λ l. gap n q M j l *ℤ gap n q M j l)) ≡ pos 0
  no_gap =
      sum_cong
      (λ j hj. norm_of_gap n q j (λ l. gram n M j l) hj
      (sum_cong (λ l hl. ap (λ x. gram n M j l *ℤ x) (sum_cong (λ i hi. *ℤ_comm (M i j) (M i l)))) ∙ gram_gram j j hj hj))
      ∙ sym (mul_sum n q (λ j. q -ℤ gram n M j j))
      ∙ ap (λ x. q *ℤ x)
      (sum_add n (λ j. q) (λ j. neg_ℤ (gram n M j j))
      ∙ ap (λ x. sum n (λ j. q) +ℤ x) (sum_neg n (λ j. gram n M j j) ∙ ap neg_ℤ trace)
      ∙ +ℤ_invr (sum n (λ j. q)))
      ∙ *ℤ-zero q

  pub orthogonal_columns : OrthogonalRows n q (transpose M)
  orthogonal_columns j l hj hl =
      sym
      (sub_zero→eq (q *ℤ δ j l) (gram n M j l)
      (sum_squares_zero n (λ l. gap n q M j l)
      (sum_nonnegative_zero n (λ j. sum n (λ l. gap n q M j l *ℤ gap n q M j l))
      (λ j hj. sum_nonnegative n (λ l. gap n q M j l *ℤ gap n q M j l) (λ l hl. square_nonnegative (gap n q M j l)))
      no_gap j hj)
      l hl))
