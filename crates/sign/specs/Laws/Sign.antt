-- The determinant of a signed permutation is 1 or −1, by the parity of its inversions and minus signs.
use Rattle.std.specs.Prelude.{◌≡◌, refl, ◌≢◌, Bool, true, false, not, cond, ◌&&◌, List, [], ◌∷◌, map, ℕ, zero, suc, ◌+◌, ◌-◌, ◌%◌, ◌<◌, ◌≤◌, T, eqb, ltb, get_or, length, ◌<ℤ◌}
use Rattle.std.proofs.Common.{sym, ap, ap₂, ◌∙◌, subst, add-zero, add-suc, arith, eqb→eq, ltb→lt, nltb→le}
use Rattle.std.proofs.Math.Decide.{ℕ_discrete}
use lib.IntN.{ℤ, pos, negsuc, pow, ◌*ℤ◌, *ℤ-zero, pos-ne-negsuc}
use Rattle.matrix.specs.Range.{every_from, every, tabulate}
use Rattle.matrix.specs.Matrix.{Same, δ, scaled}
use Rattle.matrix.specs.Determinant.{skip, minor, det}
use Rattle.matrix.specs.Operator.{operator, Proper}
use Rattle.matrix.specs.Laws.Test.{both, left, right, imp, imp_sound, T_true, true_T}
use Rattle.matrix.specs.Laws.Range.{every_sound, tabulate_is}
use Rattle.matrix.specs.Laws.Integer.{*ℤ-unit-l, *ℤ-unit-r, *ℤ-assoc, prodℤ}
use Rattle.matrix.specs.Laws.Sum.{δ_same, δ_other}
use Rattle.matrix.specs.Laws.Determinant.{det_cong, det_scaled, det_single, skip_is}
use Rattle.clifford.specs.Laws.Columns.{entry_of, row_lt, Permutation, rows_different, columns_signed}
use Rattle.clifford.specs.Laws.Signed.{signed_permutation, signed_matrix_lem}
use Rattle.clifford.specs.Columns.{columns_matrix, row_of, is_minus, sign_of, signed, inversions, minuses, is_even, differs, different}

-- a row's number among those that are left when row r is taken out
abbrev without : ℕ → ℕ → ℕ
without r s = cond (ltb s r) s (s - 1)

without_is : (r s : ℕ) → s ≢ r → (t : ℕ) → (skip r t ≡ s → t ≡ without r s) × (t ≡ without r s → skip r t ≡ s)
without_is r s w t = go (ltb s r) (λ z. ltb→lt s r z) (λ z. nltb→le s r z)
  where
    go : (b : Bool) → (T b → s < r) → (T (not b) → r ≤ s) → (skip r t ≡ s → t ≡ cond b s (s - 1)) × (t ≡ cond b s (s - 1) → skip r t ≡ s)
    go true f g = let h = f tt in ((λ e. omega (arith, skip_is r t)), (λ e. omega (arith, skip_is r t)))
    go false f g = let h = g tt in ((λ e. omega (arith, skip_is r t)), (λ e. omega (arith, skip_is r t)))

δ_skip : (r t s : ℕ) → s ≢ r → δ (skip r t) s ≡ δ t (without r s)
δ_skip r t s w = elim (ℕ_discrete t (without r s)) [
  | yes e ↦ ap (λ x. δ x s) ((without_is r s w t).1 e) ∙ δ_same s ∙ sym (δ_same (without r s)) ∙ ap (λ x. δ x (without r s)) (sym e)
  | no f ↦ δ_other (skip r t) s (λ e. f ((without_is r s w t).0 e)) ∙ sym (δ_other t (without r s) f)
]

without_lt : (n r s : ℕ) → s < suc n → r < suc n → s ≢ r → without r s < n
without_lt n r s a b w = go (ltb s r) (λ z. ltb→lt s r z) (λ z. nltb→le s r z)
  where
    go : (t : Bool) → (T t → s < r) → (T (not t) → r ≤ s) → cond t s (s - 1) < n
    go true f g = let h = f tt in omega arith
    go false f g = let h = g tt in omega arith

without_inj : (r s t : ℕ) → s ≢ r → t ≢ r → without r s ≡ without r t → s ≡ t
without_inj r s t v w e = sym ((without_is r s v (without r s)).1 refl) ∙ (without_is r t w (without r s)).1 e

-- the columns' rows one after the other, each among the rows that the columns before it left: their sum
abbrev places : ℕ → (ℕ → ℕ) → ℕ
places zero ρ = 0
places (suc n) ρ = ρ 0 + places n (λ c. without (ρ 0) (ρ (suc c)))

-- the product of the signs
abbrev signs : ℕ → (ℕ → ℤ) → ℤ
signs zero σ = pos 1
signs (suc n) σ = σ 0 *ℤ signs n (λ c. σ (suc c))

pow_add : (x : ℤ) (m n : ℕ) → pow x (m + n) ≡ pow x m *ℤ pow x n
unfolding pow lib.IntN.one
pow_add x m zero = ap (pow x) (add-zero m) ∙ sym (*ℤ-unit-r (pow x m))
pow_add x m (suc n) = ap (pow x) (add-suc m n) ∙ ap (λ y. y *ℤ x) (pow_add x m n) ∙ *ℤ-assoc (pow x m) (pow x n) x

-- ρ c is the row, and σ c the entry, of column c
det_signed : (n : ℕ) (ρ : ℕ → ℕ) (σ : ℕ → ℤ) → ((c : ℕ) → c < n → ρ c < n) → ((c d : ℕ) → c < d → d < n → ρ d ≢ ρ c)
    → det n (λ r c. σ c *ℤ δ r (ρ c)) ≡ signs n σ *ℤ pow (negsuc 0) (places n ρ)
unfolding det pow lib.IntN.one
det_signed zero ρ σ b d = refl
det_signed (suc n) ρ σ b d =
    det_single n (ρ 0) (λ r c. σ c *ℤ δ r (ρ c)) (b 0 (omega arith)) (λ i u w. ap (λ x. σ 0 *ℤ x) (δ_other i (ρ 0) w) ∙ *ℤ-zero (σ 0))
    ∙ ap₂ (λ x y. pow (negsuc 0) (ρ 0) *ℤ (x *ℤ y)) (ap (λ x. σ 0 *ℤ x) (δ_same (ρ 0)) ∙ *ℤ-unit-r (σ 0)) (det_cong n _ _ rest ∙ det_signed n (λ c. without (ρ 0) (ρ (suc c))) (λ c. σ (suc c)) (λ c h. without_lt n (ρ 0) (ρ (suc c)) (b (suc c) (omega arith)) (b 0 (omega arith)) (d 0 (suc c) (omega arith) (omega arith)))
    (λ c e h l z. d (suc c) (suc e) (omega arith) (omega arith) (without_inj (ρ 0) (ρ (suc e)) (ρ (suc c)) (d 0 (suc e) (omega arith) (omega arith)) (d 0 (suc c) (omega arith) (omega arith)) z)))
    ∙ (move (pow (negsuc 0) (ρ 0)) (σ 0) (signs n (λ c. σ (suc c))) (pow (negsuc 0) (places n (λ c. without (ρ 0) (ρ (suc c))))))
    ∙ ap (λ x. σ 0 *ℤ signs n (λ c. σ (suc c)) *ℤ x) (sym (pow_add (negsuc 0) (ρ 0) (places n (λ c. without (ρ 0) (ρ (suc c))))))
  where
    rest : Same n (minor (λ r c. σ c *ℤ δ r (ρ c)) (ρ 0)) (λ r c. σ (suc c) *ℤ δ r (without (ρ 0) (ρ (suc c))))
    rest r c hr hc = ap (λ x. σ (suc c) *ℤ x) (δ_skip (ρ 0) r (ρ (suc c)) (d 0 (suc c) (omega arith) (omega arith)))

    move : (p s t q : ℤ) → p *ℤ (s *ℤ (t *ℤ q)) ≡ s *ℤ t *ℤ (p *ℤ q)
    move p s t q = simp prodℤ

-- ---- the sum of the places has the parity of the inversions: a fact of the 720 orders of six rows

abbrev list6 : ℕ → ℕ → ℕ → ℕ → ℕ → ℕ → List ℕ
list6 a b c d e f = a ∷ b ∷ c ∷ d ∷ e ∷ f ∷ []

same_parity : ℕ → ℕ → ℕ → ℕ → ℕ → ℕ → Bool
same_parity a b c d e f = eqb (places 6 (λ i. get_or (list6 a b c d e f) i 0) % 2) (inversions (list6 a b c d e f) % 2)

abbrev ne : ℕ → ℕ → Bool
ne a b = not (eqb a b)

order5 : ℕ → ℕ → ℕ → ℕ → ℕ → Bool
order5 a b c d e = every 6 (λ f. imp (ne a f && (ne b f && (ne c f && (ne d f && ne e f)))) (same_parity a b c d e f))

order4 : ℕ → ℕ → ℕ → ℕ → Bool
order4 a b c d = every 6 (λ e. imp (ne a e && (ne b e && (ne c e && ne d e))) (order5 a b c d e))

order3 : ℕ → ℕ → ℕ → Bool
order3 a b c = every 6 (λ d. imp (ne a d && (ne b d && ne c d)) (order4 a b c d))

order2 : ℕ → ℕ → Bool
order2 a b = every 6 (λ c. imp (ne a c && ne b c) (order3 a b c))

order1 : ℕ → Bool
order1 a = every 6 (λ b. imp (ne a b) (order2 a b))

orders : every 6 order1 ≡ true
unfolding every_from order1 order2 order3 order4 order5 same_parity
orders = refl

-- six rows below 6, no two equal
same_parity_of : (a b c d e f : ℕ) → a < 6 → b < 6 → c < 6 → d < 6 → e < 6 → f < 6 → T (different (list6 a b c d e f))
    → places 6 (λ i. get_or (list6 a b c d e f) i 0) % 2 ≡ inversions (list6 a b c d e f) % 2
unfolding order1 order2 order3 order4 order5 same_parity
same_parity_of a b c d e f ha hb hc hd he hf t =
    let a1 = left (differs a (b ∷ c ∷ d ∷ e ∷ f ∷ [])) _ t in
    let t1 = right (differs a (b ∷ c ∷ d ∷ e ∷ f ∷ [])) _ t in
    let b1 = left (differs b (c ∷ d ∷ e ∷ f ∷ [])) _ t1 in
    let t2 = right (differs b (c ∷ d ∷ e ∷ f ∷ [])) _ t1 in
    let c1 = left (differs c (d ∷ e ∷ f ∷ [])) _ t2 in
    let t3 = right (differs c (d ∷ e ∷ f ∷ [])) _ t2 in
    let d1 = left (differs d (e ∷ f ∷ [])) _ t3 in
    let t4 = right (differs d (e ∷ f ∷ [])) _ t3 in
    let e1 = left (differs e (f ∷ [])) _ t4 in
    let a2 = right (ne a b) _ a1 in
    let a3 = right (ne a c) _ a2 in
    let a4 = right (ne a d) _ a3 in
    let b2 = right (ne b c) _ b1 in
    let b3 = right (ne b d) _ b2 in
    let c2 = right (ne c d) _ c1 in
    let af : T (ne a f) = left (ne a f) _ (right (ne a e) _ a4) in
    let bf : T (ne b f) = left (ne b f) _ (right (ne b e) _ b3) in
    let cf : T (ne c f) = left (ne c f) _ (right (ne c e) _ c2) in
    let df : T (ne d f) = left (ne d f) _ (right (ne d e) _ d1) in
    let ef : T (ne e f) = left (ne e f) _ e1 in
    let s1 : T (order1 a) = true_T (every_sound 6 order1 orders a ha) in
    let s2 : T (order2 a b) = imp_sound (ne a b) _ (at (λ b. imp (ne a b) (order2 a b)) s1 b hb) (left (ne a b) _ a1) in
    let s3 : T (order3 a b c) = imp_sound (ne a c && ne b c) _ (at (λ c. imp (ne a c && ne b c) (order3 a b c)) s2 c hc) (both (ne a c) (ne b c) (left (ne a c) _ a2) (left (ne b c) _ b1)) in
    let s4 : T (order4 a b c d) =
    imp_sound (ne a d && (ne b d && ne c d)) _ (at (λ d. imp (ne a d && (ne b d && ne c d)) (order4 a b c d)) s3 d hd)
    (both (ne a d) _ (left (ne a d) _ a3) (both (ne b d) (ne c d) (left (ne b d) _ b2) (left (ne c d) _ c1))) in
    let s5 : T (order5 a b c d e) =
    imp_sound (ne a e && (ne b e && (ne c e && ne d e))) _ (at (λ e. imp (ne a e && (ne b e && (ne c e && ne d e))) (order5 a b c d e)) s4 e he)
    (both (ne a e) _ (left (ne a e) _ a4) (both (ne b e) _ (left (ne b e) _ b3) (both (ne c e) (ne d e) (left (ne c e) _ c2) (left (ne d e) _ d1)))) in
    eqb→eq _ _
    (imp_sound (ne a f && (ne b f && (ne c f && (ne d f && ne e f)))) _ (at (λ f. imp (ne a f && (ne b f && (ne c f && (ne d f && ne e f)))) (same_parity a b c d e f)) s5 f hf)
    (both (ne a f) _ af (both (ne b f) _ bf (both (ne c f) _ cf (both (ne d f) (ne e f) df ef)))))
  where
    at : (P : ℕ → Bool) → T (every 6 P) → (i : ℕ) → i < 6 → T (P i)
    at P t i h = true_T (every_sound 6 P (T_true _ t) i h)

-- ---- the sign

pow_sign : (n : ℕ) → pow (negsuc 0) n ≡ cond (eqb (n % 2) 0) (pos 1) (negsuc 0)
unfolding pow lib.IntN.one
pow_sign zero = refl
pow_sign (suc zero) = refl
pow_sign (suc (suc n)) =
    let e : suc (suc n) % 2 ≡ n % 2 = omega arith in
    rw (e, pow_sign n) (go (eqb (n % 2) 0))
  where
    go : (t : Bool) → cond t (pos 1) (negsuc 0) *ℤ negsuc 0 *ℤ negsuc 0 ≡ cond t (pos 1) (negsuc 0)
    go true = refl
    go false = refl

signs_minuses : (bs : List ℕ) → signs (length bs) (λ c. entry_of (get_or bs c 0)) ≡ pow (negsuc 0) (minuses bs)
unfolding pow lib.IntN.one
signs_minuses [] = refl
signs_minuses (b ∷ bs) = ap₂ (λ x y. x *ℤ y) (go (is_minus b)) (signs_minuses bs) ∙ sym (pow_add (negsuc 0) (cond (is_minus b) 1 0) (minuses bs))
  where
    go : (t : Bool) → cond t (negsuc 0) (pos 1) ≡ pow (negsuc 0) (cond t 1 0)
    go true = refl
    go false = refl

six_bytes : (bs : List ℕ) → Permutation bs → list6 (get_or bs 0 0) (get_or bs 1 0) (get_or bs 2 0) (get_or bs 3 0) (get_or bs 4 0) (get_or bs 5 0) ≡ bs
unfolding tabulate
six_bytes bs p = sym (tabulate_is (λ c. get_or bs c 0) 6 0 bs p.long (λ i h. refl))

places_inversions : (bs : List ℕ) → Permutation bs → places 6 (λ c. row_of (get_or bs c 0)) % 2 ≡ inversions (map row_of bs) % 2
places_inversions bs p =
    subst (λ l. Permutation l → places 6 (λ c. row_of (get_or l c 0)) % 2 ≡ inversions (map row_of l) % 2) (six_bytes bs p)
    (go (get_or bs 0 0) (get_or bs 1 0) (get_or bs 2 0) (get_or bs 3 0) (get_or bs 4 0) (get_or bs 5 0)) p
  where
    go : (a b c d e f : ℕ) → Permutation (list6 a b c d e f) → places 6 (λ i. row_of (get_or (list6 a b c d e f) i 0)) % 2 ≡ inversions (map row_of (list6 a b c d e f)) % 2
    go a b c d e f p =
        same_parity_of (row_of a) (row_of b) (row_of c) (row_of d) (row_of e) (row_of f)
        (row_lt a (p.bytes 0 (omega arith))) (row_lt b (p.bytes 1 (omega arith))) (row_lt c (p.bytes 2 (omega arith)))
        (row_lt d (p.bytes 3 (omega arith))) (row_lt e (p.bytes 4 (omega arith))) (row_lt f (p.bytes 5 (omega arith)))
        (true_T (rows_different (list6 a b c d e f) p))

-- the determinant of a signed permutation
pub columns_det : (bs : List ℕ) → Permutation bs → det 6 (columns_matrix bs) ≡ cond (is_even bs) (pos 1) (negsuc 0)
unfolding is_even
columns_det bs p =
    det_cong 6 _ _ (columns_signed bs p)
    ∙ det_signed 6 (λ c. row_of (get_or bs c 0)) (λ c. entry_of (get_or bs c 0)) (λ c h. row_lt (get_or bs c 0) (p.bytes c h)) (λ c d l h. p.rows c d l h)
    ∙ ap (λ x. x *ℤ pow (negsuc 0) (places 6 (λ c. row_of (get_or bs c 0)))) (ap (λ n. signs n (λ c. entry_of (get_or bs c 0))) (sym p.long) ∙ signs_minuses bs)
    ∙ sym (pow_add (negsuc 0) (minuses bs) (places 6 (λ c. row_of (get_or bs c 0))))
    ∙ pow_sign (minuses bs + places 6 (λ c. row_of (get_or bs c 0)))
    ∙ ap (λ n. cond (eqb n 0) (pos 1) (negsuc 0)) (parities (places 6 (λ c. row_of (get_or bs c 0))) (inversions (map row_of bs)) (minuses bs) (places_inversions bs p))
  where
    parities : (x y m : ℕ) → x % 2 ≡ y % 2 → (m + x) % 2 ≡ (y + m) % 2
    parities x y m e = omega arith

-- a permutation is proper exactly if it is even
pub even_proper : (bs : List ℕ) → Permutation bs → is_even bs ≡ true → Proper (operator 0 (columns_matrix bs))
even_proper bs p e = record { positive = subst (λ z. pos 0 <ℤ z) (sym (columns_det bs p ∙ ap (λ t. cond t (pos 1) (negsuc 0)) e)) (record { lt = tt }) }

pub proper_even : (bs : List ℕ) → Permutation bs → Proper (operator 0 (columns_matrix bs)) → is_even bs ≡ true
proper_even bs p q = go (is_even bs) (subst (λ z. pos 0 <ℤ z) (columns_det bs p) q.positive)
  where
    go : (t : Bool) → pos 0 <ℤ cond t (pos 1) (negsuc 0) → t ≡ true
    go true h = refl
    go false h = absurd h.lt

-- six factors −1 leave the determinant as it is
pub signed_even : (s : ℕ) (bs : List ℕ) → Permutation bs → is_even (signed s bs) ≡ is_even bs
unfolding pow lib.IntN.one
signed_even s bs p =
    go (is_even (signed s bs)) (is_even bs)
    (sym (columns_det (signed s bs) (signed_permutation s bs p))
    ∙ det_cong 6 (columns_matrix (signed s bs)) (scaled (sign_of s) (columns_matrix bs)) (signed_matrix_lem s bs p)
    ∙ det_scaled 6 (sign_of s) (columns_matrix bs)
    ∙ ap (λ x. x *ℤ det 6 (columns_matrix bs)) (six (eqb s 0))
    ∙ *ℤ-unit-l (det 6 (columns_matrix bs))
    ∙ columns_det bs p)
  where
    six : (t : Bool) → pow (cond t (pos 1) (negsuc 0)) 6 ≡ pos 1
    six true = refl
    six false = refl

    go : (s t : Bool) → cond s (pos 1) (negsuc 0) ≡ cond t (pos 1) (negsuc 0) → s ≡ t
    go true true e = refl
    go true false e = absurd (pos-ne-negsuc 1 0 e)
    go false true e = absurd (pos-ne-negsuc 1 0 (sym e))
    go false false e = refl
