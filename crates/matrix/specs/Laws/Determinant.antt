-- The laws of the determinant, for every size n: it is linear in each row, two equal rows make it 0, exchanging two rows negates it, and a
-- row operation on two rows multiplies it by the operation's own determinant.
use Rattle.std.specs.Prelude.{◌≡◌, refl, ◌≢◌, Bool, true, false, not, cond, ℕ, zero, suc, ◌+◌, ◌-◌, ◌<◌, ◌≤◌, T, ltb, eqb, [], ◌∷◌}
use Rattle.std.proofs.Common.{sym, ◌∙◌, ap, arith, ltb→lt, nltb→le, eqb→eq}
use Rattle.std.proofs.Math.Decide.{ℕ_discrete, dec_lt}
use Rattle.std.proofs.Math.Dec.{eqb_refl, eqb-suc-suc}
use lib.IntN.{ℤ, pos, negsuc, neg_ℤ, ◌+ℤ◌, ◌-ℤ◌, ◌*ℤ◌, pow, +ℤ_idr, *ℤ_comm, *ℤ-zero, zero-*ℤ, neg_ℤ-neg_ℤ}
use Rattle.matrix.specs.Range.{sum}
use Rattle.matrix.specs.Matrix.{Matrix, Same, δ, product, scaled, replaced, combined}
use Rattle.matrix.specs.Determinant.{skip, minor, det}
use Rattle.matrix.specs.Laws.Integer.{*ℤ-unit-l, minus_one-*ℤ, negℤ-*ℤ_l, self_neg, ringℤ}
use Rattle.matrix.specs.Laws.Ring.{var, num, ◌:+◌, ◌:-◌, ◌:*◌, :neg, ring}
use Rattle.matrix.specs.Laws.Sum.{sum_cong, sum_neg, sum_linear, mul_sum, sum_only, sum_exchange, δ_same, δ_other}
use Rattle.matrix.specs.Laws.Matrix.{product_id_l}

-- ---- the indices that are left when one is taken out

-- as omega reads it
pub skip_is : (i r : ℕ) → skip i r ≡ r + (1 - (i - r))
unfolding skip
skip_is i r = go (ltb r i) (λ t. ltb→lt r i t) (λ t. nltb→le r i t)
  where
    go : (c : Bool) → (T c → r < i) → (T (not c) → i ≤ r) → cond c r (suc r) ≡ r + (1 - (i - r))
    go true f g = let h = f tt in omega arith
    go false f g = let h = g tt in omega arith

skip_inj : (i r s : ℕ) → skip i r ≡ skip i s → r ≡ s
skip_inj i r s e = omega (arith, skip_is i r, skip_is i s)

-- where row k goes when row i is taken out
unskip : (n i k : ℕ) → i < suc n → k < suc n → i ≢ k → (j : ℕ) × (j < n) × (skip i j ≡ k)
unskip n i k u v w = elim (dec_lt k i) [ yes l ↦ (k, omega arith, omega (arith, skip_is i k)) | no m ↦ (k - 1, omega arith, omega (arith, skip_is i (k - 1))) ]

-- ---- congruence

pub det_cong : (n : ℕ) (A B : Matrix) → Same n A B → det n A ≡ det n B
unfolding det
det_cong zero A B h = refl
det_cong (suc n) A B h =
    sum_cong λ i l. rw (h i 0 l (omega arith), det_cong n (minor A i) (minor B i) (λ r c u v. h (skip i r) (suc c) (omega (arith, skip_is i r)) (omega arith)))

-- ---- linear in each row

-- the same but for row k
abbrev pub SameBut : ℕ → ℕ → Matrix → Matrix → Type 0
SameBut n k A B = (r c : ℕ) → r < n → c < n → r ≢ k → A r c ≡ B r c

same_but_minor : (n i k j : ℕ) (A B : Matrix) → skip i j ≡ k → SameBut (suc n) k A B → SameBut n j (minor A i) (minor B i)
same_but_minor n i k j A B e h r c u v w = h (skip i r) (suc c) (omega (arith, skip_is i r)) (omega arith) (λ z. w (skip_inj i r j (z ∙ sym e)))

same_minor : (n k : ℕ) (A B : Matrix) → SameBut (suc n) k A B → Same n (minor A k) (minor B k)
same_minor n k A B h r c u v = h (skip k r) (suc c) (omega (arith, skip_is k r)) (omega arith) (omega (arith, skip_is k r))

pub det_linear : (n k : ℕ) (s t : ℤ) (A B C : Matrix) → k < n → ((c : ℕ) → c < n → A k c ≡ s *ℤ B k c +ℤ t *ℤ C k c)
    → SameBut n k A B → SameBut n k A C → det n A ≡ s *ℤ det n B +ℤ t *ℤ det n C
unfolding det
det_linear zero k s t A B C l h p q = absurd (omega arith)
det_linear (suc n) k s t A B C l h p q =
    sum_cong (λ i m. elim (ℕ_discrete i k) [
      | yes e ↦ rw (e, h 0 (omega arith), ← det_cong n _ _ (same_minor n k A B p), ← det_cong n _ _ (same_minor n k A C q)) (simp ringℤ)
      | no w ↦ let (j, u, e) = unskip n i k m l w in
          rw (← p i 0 m (omega arith) w, ← q i 0 m (omega arith) w, det_linear n j s t (minor A i) (minor B i) (minor C i) u (λ c v. rw e (h (suc c) (omega arith))) (same_but_minor n i k j A B e p) (same_but_minor n i k j A C e q)) (simp ringℤ)
    ])
    ∙ sum_linear (suc n) s t _ _

-- a multiple of one row
pub det_row_times : (n k : ℕ) (s : ℤ) (A B : Matrix) → k < n → ((c : ℕ) → c < n → A k c ≡ s *ℤ B k c) → SameBut n k A B → det n A ≡ s *ℤ det n B
det_row_times n k s A B l h p = det_linear n k s (pos 0) A B B l (λ c v. simp (zero-*ℤ, +ℤ_idr) (h c v)) p p ∙ simp (zero-*ℤ, +ℤ_idr)

-- a multiple of every row
pub det_scaled : (n : ℕ) (s : ℤ) (M : Matrix) → det n (scaled s M) ≡ pow s n *ℤ det n M
unfolding det pow lib.IntN.one
det_scaled zero s M = refl
det_scaled (suc n) s M =
    sum_cong (λ i l. ap (λ x. pow (negsuc 0) i *ℤ (s *ℤ M i 0 *ℤ x)) (det_scaled n s (minor M i)) ∙ move (pow (negsuc 0) i) (M i 0) (pow s n) (det n (minor M i)))
    ∙ sym (mul_sum (suc n) (pow s n *ℤ s) _)
  where
    move : (g x p d : ℤ) → g *ℤ (s *ℤ x *ℤ (p *ℤ d)) ≡ p *ℤ s *ℤ (g *ℤ (x *ℤ d))
    move g x p d = ring (g ∷ x ∷ p ∷ d ∷ s ∷ []) (var 0 :* (var 4 :* var 1 :* (var 2 :* var 3))) (var 2 :* var 4 :* (var 0 :* (var 1 :* var 3))) refl

-- ---- two rows exchanged

-- A is B with rows i and j exchanged
pub record Exchanged (n i j : ℕ) (A B : Matrix) : Type 0 where
  pub first : (c : ℕ) → c < n → A i c ≡ B j c
  pub second : (c : ℕ) → c < n → A j c ≡ B i c
  pub rest : (r c : ℕ) → r < n → c < n → r ≢ i → r ≢ j → A r c ≡ B r c

exchanged_sym : (n i j : ℕ) (A B : Matrix) → Exchanged n i j A B → Exchanged n i j B A
exchanged_sym n i j A B h = record { first = λ c v. sym (h.second c v); second = λ c v. sym (h.first c v); rest = λ r c u v w x. sym (h.rest r c u v w x) }

sign_suc : (k : ℕ) → pow (negsuc 0) (suc k) ≡ neg_ℤ (pow (negsuc 0) k)
unfolding pow
sign_suc k = *ℤ_comm (pow (negsuc 0) k) (negsuc 0) ∙ minus_one-*ℤ (pow (negsuc 0) k)

-- of two neighbours the minors are exchanged
exchanged_minors : (n k : ℕ) (A B : Matrix) → Exchanged (suc n) k (suc k) A B → Same n (minor A k) (minor B (suc k))
exchanged_minors n k A B h r c u v = elim (ℕ_discrete r k) [
  | yes e ↦ let a : skip k r ≡ suc k = omega (arith, skip_is k r) in
      let b : skip (suc k) r ≡ k = omega (arith, skip_is (suc k) r) in
      rw (a, b) (h.second (suc c) (omega arith))
  | no w ↦ let a : skip k r ≡ skip (suc k) r = omega (arith, skip_is k r, skip_is (suc k) r) in
      rw a (h.rest (skip (suc k) r) (suc c) (omega (arith, skip_is (suc k) r)) (omega arith) (omega (arith, skip_is (suc k) r)) (omega (arith, skip_is (suc k) r)))
]

-- and in the minor of another row the two are neighbours still
exchanged_in_minor : (n i k j : ℕ) (A B : Matrix) → i ≢ k → i ≢ suc k → skip i j ≡ k → Exchanged (suc n) k (suc k) A B → Exchanged n j (suc j) (minor A i) (minor B i)
exchanged_in_minor n i k j A B a b e h =
    let e' : skip i (suc j) ≡ suc k = omega (arith, skip_is i j, skip_is i (suc j)) in record {
      first = λ c v. rw (e, e') (h.first (suc c) (omega arith));
      second = λ c v. rw (e, e') (h.second (suc c) (omega arith));
      rest = λ r c u v w x. h.rest (skip i r) (suc c) (omega (arith, skip_is i r)) (omega arith) (λ z. w (skip_inj i r j (z ∙ sym e))) (λ z. x (skip_inj i r (suc j) (z ∙ sym e')));
    }

det_neighbours : (n k : ℕ) (A B : Matrix) → suc k < n → Exchanged n k (suc k) A B → det n A ≡ neg_ℤ (det n B)
unfolding det
det_neighbours zero k A B l h = absurd (omega arith)
det_neighbours (suc n) k A B l h =
    sum_exchange (suc n) k _ (λ i. neg_ℤ (pow (negsuc 0) i *ℤ (B i 0 *ℤ det n (minor B i)))) l
    (rw (h.first 0 (omega arith), sign_suc k, det_cong n _ _ (exchanged_minors n k A B h)) (simp (negℤ-*ℤ_l, neg_ℤ-neg_ℤ)))
    (rw (h.second 0 (omega arith), sign_suc k, ← det_cong n _ _ (exchanged_minors n k B A (exchanged_sym _ _ _ A B h))) (simp negℤ-*ℤ_l))
    (λ i m a b. let (j, u, e) = unskip n i k m (omega arith) a in
    rw (h.rest i 0 m (omega arith) a b, det_neighbours n j (minor A i) (minor B i) (omega (arith, skip_is i j)) (exchanged_in_minor n i k j A B a b e h)) (simp ringℤ))
    ∙ sum_neg (suc n) _

pub replaced_same : (k : ℕ) (v : ℕ → ℤ) (M : Matrix) → replaced k v M k ≡ v
unfolding replaced
replaced_same k v M = go (eqb k k) (eqb_refl k)
  where
    go : (b : Bool) → T b → cond b v (M k) ≡ v
    go true t = refl
    go false t = absurd t

pub replaced_other : (k : ℕ) (v : ℕ → ℤ) (M : Matrix) (r : ℕ) → r ≢ k → replaced k v M r ≡ M r
unfolding replaced
replaced_other k v M r w = go (eqb r k) (eqb→eq r k)
  where
    go : (b : Bool) → (T b → r ≡ k) → cond b v (M r) ≡ M r
    go true t = absurd (w (t tt))
    go false t = refl

-- M with its rows i and j exchanged
abbrev exchange : ℕ → ℕ → Matrix → Matrix
exchange i j M = replaced i (M j) (replaced j (M i) M)

exchanged : (n i j : ℕ) (M : Matrix) → i ≢ j → Exchanged n i j (exchange i j M) M
exchanged n i j M w = record {
  first = λ c v. rw replaced_same;
  second = λ c v. rw (replaced_other i (M j) (replaced j (M i) M) j (λ z. w (sym z)), replaced_same);
  rest = λ r c u v x y. rw (replaced_other i (M j) (replaced j (M i) M) r x, replaced_other j (M i) M r y);
}

-- exchanging j and j + 1 on both sides turns an exchange of i and j + 1 into one of i and j
carry : (n i j : ℕ) (A B A' B' : Matrix) → i < j → suc j < n → Exchanged n j (suc j) A' A → Exchanged n j (suc j) B' B → Exchanged n i (suc j) A B → Exchanged n i j A' B'
carry n i j A B A' B' l m a b h = record {
  first = λ c v. a.rest i c (omega arith) v (omega arith) (omega arith) ∙ h.first c v ∙ sym (b.first c v);
  second = λ c v. a.first c v ∙ h.second c v ∙ sym (b.rest i c (omega arith) v (omega arith) (omega arith));
  rest = λ r c u v w x. elim (ℕ_discrete r (suc j)) [
    | yes e ↦ rw e (a.second c v ∙ h.rest j c (omega arith) v (omega arith) (omega arith) ∙ sym (b.second c v))
    | no y ↦ a.rest r c u v x y ∙ h.rest r c u v w y ∙ sym (b.rest r c u v x y)
  ];
}

-- two rows i < j exchanged, by bringing the lower one up
det_exchange_below : (n i j : ℕ) (A B : Matrix) → i < j → j < n → Exchanged n i j A B → det n A ≡ neg_ℤ (det n B)
det_exchange_below n i zero A B l m h = absurd (omega arith)
det_exchange_below n i (suc j) A B l m h = elim (ℕ_discrete i j) [
  | yes e ↦ det_neighbours n j A B m (rw e at h)
  | no w ↦ let a = exchanged n j (suc j) A (omega arith) in
      let b = exchanged n j (suc j) B (omega arith) in
      rw (det_neighbours n j A _ m (exchanged_sym n j (suc j) _ A a), det_exchange_below n i j _ _ (omega arith) (omega arith) (carry n i j A B _ _ (omega arith) m a b h), det_neighbours n j _ B m b) (simp neg_ℤ-neg_ℤ)
]

pub det_exchange : (n i j : ℕ) (A B : Matrix) → i < n → j < n → i ≢ j → Exchanged n i j A B → det n A ≡ neg_ℤ (det n B)
det_exchange n i j A B l m w h = elim (dec_lt i j) [
  | yes u ↦ det_exchange_below n i j A B u m h
  | no u ↦ det_exchange_below n j i A B (omega arith) l (record { first = h.second; second = h.first; rest = λ r c u v x y. h.rest r c u v y x })
]

pub det_equal_rows : (n i j : ℕ) (A : Matrix) → i < n → j < n → i ≢ j → ((c : ℕ) → c < n → A i c ≡ A j c) → det n A ≡ pos 0
det_equal_rows n i j A l m w h =
    self_neg (det n A) (det_exchange n i j A A l m w (record { first = h; second = λ c v. sym (h c v); rest = λ r c u v x y. refl }))

-- ---- row operations

module _ (n i j : ℕ) (l : i < n) (m : j < n) (w : i ≢ j) where
  -- rows i and j of M replaced by x and y
  abbrev two : (ℕ → ℤ) → (ℕ → ℤ) → Matrix → Matrix
  two x y M = replaced i x (replaced j y M)

  two_at_j : (x y : ℕ → ℤ) (M : Matrix) → two x y M j ≡ y
  two_at_j x y M = replaced_other i x (replaced j y M) j (λ z. w (sym z)) ∙ replaced_same j y M

  det_first : (s t : ℤ) (x x' y : ℕ → ℤ) (M : Matrix) → det n (two (λ c. s *ℤ x c +ℤ t *ℤ x' c) y M) ≡ s *ℤ det n (two x y M) +ℤ t *ℤ det n (two x' y M)
  det_first s t x x' y M =
      det_linear n i s t _ _ _ l (λ c u. rw (replaced_same i (λ c. s *ℤ x c +ℤ t *ℤ x' c) (replaced j y M), replaced_same i x (replaced j y M), replaced_same i x' (replaced j y M)))
      (λ r c u u' z. rw (replaced_other i _ (replaced j y M) r z, replaced_other i x (replaced j y M) r z))
      (λ r c u u' z. rw (replaced_other i _ (replaced j y M) r z, replaced_other i x' (replaced j y M) r z))

  det_second : (s t : ℤ) (x y y' : ℕ → ℤ) (M : Matrix) → det n (two x (λ c. s *ℤ y c +ℤ t *ℤ y' c) M) ≡ s *ℤ det n (two x y M) +ℤ t *ℤ det n (two x y' M)
  det_second s t x y y' M =
      det_linear n j s t _ _ _ m (λ c u. rw (two_at_j x (λ c. s *ℤ y c +ℤ t *ℤ y' c) M, two_at_j x y M, two_at_j x y' M))
      (λ r c u u' z. away r c z y) (λ r c u u' z. away r c z y')
    where
      away : (r c : ℕ) → r ≢ j → (z : ℕ → ℤ) → two x (λ c. s *ℤ y c +ℤ t *ℤ y' c) M r c ≡ two x z M r c
      away r c q z = elim (ℕ_discrete r i) [
        | yes e ↦ rw (e, replaced_same i x (replaced j (λ c. s *ℤ y c +ℤ t *ℤ y' c) M), replaced_same i x (replaced j z M))
        | no d ↦ rw (replaced_other i x (replaced j (λ c. s *ℤ y c +ℤ t *ℤ y' c) M) r d, replaced_other i x (replaced j z M) r d, replaced_other j (λ c. s *ℤ y c +ℤ t *ℤ y' c) M r q, replaced_other j z M r q)
      ]

  det_same : (x : ℕ → ℤ) (M : Matrix) → det n (two x x M) ≡ pos 0
  det_same x M = det_equal_rows n i j (two x x M) l m w (λ c u. rw (replaced_same i x (replaced j x M), two_at_j x x M))

  -- the rows as they were
  det_kept : (M : Matrix) → det n (two (M i) (M j) M) ≡ det n M
  det_kept M = det_cong n _ M λ r c u u'. elim (ℕ_discrete r i) [
    | yes e ↦ rw (e, replaced_same i (M i) (replaced j (M j) M))
    | no d ↦ elim (ℕ_discrete r j) [
      | yes e ↦ rw (e, two_at_j (M i) (M j) M)
      | no d' ↦ rw (replaced_other i (M i) (replaced j (M j) M) r d, replaced_other j (M j) M r d')
    ]
  ]

  -- rows i and j replaced by a ri + b rj and c ri + d rj
  pub det_combined : (a b c d : ℤ) (M : Matrix) → det n (combined i j a b c d M) ≡ (a *ℤ d -ℤ b *ℤ c) *ℤ det n M
  det_combined a b c d M =
      rw (
        det_first a b (M i) (M j) (λ s. c *ℤ M i s +ℤ d *ℤ M j s) M,
        det_second c d (M i) (M i) (M j) M,
        det_second c d (M j) (M i) (M j) M,
        det_same (M i) M,
        det_same (M j) M,
        det_kept M,
        det_exchange n i j (exchange i j M) M l m w (exchanged n i j M w),
      )
      (last (det n M))
    where
      last : (x : ℤ) → a *ℤ (c *ℤ pos 0 +ℤ d *ℤ x) +ℤ b *ℤ (c *ℤ neg_ℤ x +ℤ d *ℤ pos 0) ≡ (a *ℤ d -ℤ b *ℤ c) *ℤ x
      last x =
          ring (a ∷ b ∷ c ∷ d ∷ x ∷ []) (var 0 :* (var 2 :* num (pos 0) :+ var 3 :* var 4) :+ var 1 :* (var 2 :* :neg (var 4) :+ var 3 :* num (pos 0)))
          ((var 0 :* var 3 :- var 1 :* var 2) :* var 4) refl

  -- a multiple of row j added to row i keeps it
  pub det_add_row : (s : ℤ) (M : Matrix) → det n (combined i j (pos 1) s (pos 0) (pos 1) M) ≡ det n M
  det_add_row s M = det_combined (pos 1) s (pos 0) (pos 1) M ∙ ring (s ∷ det n M ∷ []) ((num (pos 1) :- var 0 :* num (pos 0)) :* var 1) (var 1) refl

  -- the difference and the sum of two rows in their place double it
  pub det_minus_plus : (M : Matrix) → det n (combined i j (pos 1) (negsuc 0) (pos 1) (pos 1) M) ≡ pos 2 *ℤ det n M
  det_minus_plus M = det_combined (pos 1) (negsuc 0) (pos 1) (pos 1) M

  -- what the rows are
  pub combined_i : (a b c d : ℤ) (M : Matrix) → combined i j a b c d M i ≡ λ s. a *ℤ M i s +ℤ b *ℤ M j s
  combined_i a b c d M = replaced_same i (λ s. a *ℤ M i s +ℤ b *ℤ M j s) (replaced j (λ s. c *ℤ M i s +ℤ d *ℤ M j s) M)

  pub combined_j : (a b c d : ℤ) (M : Matrix) → combined i j a b c d M j ≡ λ s. c *ℤ M i s +ℤ d *ℤ M j s
  combined_j a b c d M = two_at_j (λ s. a *ℤ M i s +ℤ b *ℤ M j s) (λ s. c *ℤ M i s +ℤ d *ℤ M j s) M

  pub combined_other : (a b c d : ℤ) (M : Matrix) (r : ℕ) → r ≢ i → r ≢ j → combined i j a b c d M r ≡ M r
  combined_other a b c d M r p q =
      replaced_other i (λ s. a *ℤ M i s +ℤ b *ℤ M j s) (replaced j (λ s. c *ℤ M i s +ℤ d *ℤ M j s) M) r p ∙ replaced_other j (λ s. c *ℤ M i s +ℤ d *ℤ M j s) M r q

  pub combined_cong : (a b c d : ℤ) (A B : Matrix) → Same n A B → Same n (combined i j a b c d A) (combined i j a b c d B)
  combined_cong a b c d A B h r s hr hs = elim (ℕ_discrete r i) [
    | yes e ↦ rw (e, combined_i a b c d A, combined_i a b c d B, h i s l hs, h j s m hs)
    | no p ↦ elim (ℕ_discrete r j) [
      | yes e ↦ rw (e, combined_j a b c d A, combined_j a b c d B, h i s l hs, h j s m hs)
      | no q ↦ rw (combined_other a b c d A r p q, combined_other a b c d B r p q) (h r s hr hs)
    ]
  ]

  -- a row operation on a product is one on its left factor
  pub combined_product : (a b c d : ℤ) (A M : Matrix) → Same n (product n (combined i j a b c d A) M) (combined i j a b c d (product n A M))
  combined_product a b c d A M r s hr hs = elim (ℕ_discrete r i) [
    | yes e ↦ rw (e, combined_i a b c d A, combined_i a b c d (product n A M)) (both a b)
    | no p ↦ elim (ℕ_discrete r j) [
      | yes e ↦ rw (e, combined_j a b c d A, combined_j a b c d (product n A M)) (both c d)
      | no q ↦ rw (combined_other a b c d A r p q, combined_other a b c d (product n A M) r p q)
    ]
  ]
    where
      both : (x y : ℤ) → sum n (λ t. (x *ℤ A i t +ℤ y *ℤ A j t) *ℤ M t s) ≡ x *ℤ product n A M i s +ℤ y *ℤ product n A M j s
      both x y =
          sum_cong (λ t u. ring (x ∷ A i t ∷ y ∷ A j t ∷ M t s ∷ []) ((var 0 :* var 1 :+ var 2 :* var 3) :* var 4) (var 0 :* (var 1 :* var 4) :+ var 2 :* (var 3 :* var 4)) refl)
          ∙ sum_linear n x y (λ t. A i t *ℤ M t s) (λ t. A j t *ℤ M t s)

-- ---- one entry in the first column

-- where column 0 has no entry but the one in row r
pub det_single : (n r : ℕ) (M : Matrix) → r < suc n → ((i : ℕ) → i < suc n → i ≢ r → M i 0 ≡ pos 0) → det (suc n) M ≡ pow (negsuc 0) r *ℤ (M r 0 *ℤ det n (minor M r))
unfolding det
det_single n r M l h =
    sum_only (suc n) r (λ i. pow (negsuc 0) i *ℤ (M i 0 *ℤ det n (minor M i))) l
    (λ i u w. rw (h i u w) (simp (zero-*ℤ, *ℤ-zero)))

δ_suc : (r c : ℕ) → δ (suc r) (suc c) ≡ δ r c
unfolding δ
δ_suc r c = rw eqb-suc-suc

pub det_identity : (n : ℕ) → det n δ ≡ pos 1
unfolding det
det_identity zero = refl
det_identity (suc n) =
    det_single n 0 δ (omega arith) (λ i u w. δ_other i 0 w)
    ∙ rw (δ_same 0, det_cong n (minor δ 0) δ (λ r c u v. let e : skip 0 r ≡ suc r = omega (arith, skip_is 0 r) in rw e (δ_suc r c)), det_identity n)
    (unfold pow lib.IntN.one in refl)

-- ---- the product law, of a row operation and any matrix

module _ (n i j : ℕ) (l : i < n) (m : j < n) (w : i ≢ j) where
  pub det_operation : (a b c d : ℤ) → det n (combined i j a b c d δ) ≡ a *ℤ d -ℤ b *ℤ c
  det_operation a b c d = det_combined n i j l m w a b c d δ ∙ rw (det_identity n) (*ℤ_comm (a *ℤ d -ℤ b *ℤ c) (pos 1) ∙ *ℤ-unit-l (a *ℤ d -ℤ b *ℤ c))

  pub det_product : (a b c d : ℤ) (M : Matrix) → det n (product n (combined i j a b c d δ) M) ≡ det n (combined i j a b c d δ) *ℤ det n M
  det_product a b c d M =
      det_cong n _ _ (combined_product n i j l m w a b c d δ M) ∙ det_combined n i j l m w a b c d (product n δ M)
      ∙ ap (λ x. (a *ℤ d -ℤ b *ℤ c) *ℤ x) (det_cong n _ _ (product_id_l n M)) ∙ ap (λ x. x *ℤ det n M) (sym (det_operation a b c d))
