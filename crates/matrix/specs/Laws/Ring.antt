-- A solver for equations of ℤ that hold in every commutative ring. `ring ρ l r refl` proves `eval ρ l ≡ eval ρ r` where the two
-- expressions have one normal form: a sorted list of monomials with coefficients other than 0, a monomial being a sorted list of
-- variable numbers. `ring_by` proves an equation from others, each times a factor, and `times_by` does so up to a factor that cancels.
use Rattle.std.specs.Prelude.{◌≡◌, refl, List, [], ◌∷◌, T, ℤ, pos, negsuc, neg_ℤ, ◌+ℤ◌, ◌-ℤ◌, ◌*ℤ◌}
use Rattle.std.proofs.Common.{sym, ◌∙◌, ap, ap₂, arith, eqb→eq}
use Prim.Native.Nat.{ℕ, zero, suc, compare, Ordering}
use Rattle.std.proofs.Math.Dec.{compare_is_eq}
use Rattle.std.proofs.Math.IntN.{+ℤ_idl, +ℤ_idr, +ℤ_assoc, zero-*ℤ, *ℤ-zero, *ℤ_comm}
use Rattle.matrix.specs.Laws.Integer.{+ℤ-left-comm, sumℤ, prodℤ, negℤ-*ℤ_l, *ℤ-distr-r, *ℤ-distr-l, *ℤ-assoc, *ℤ-left-comm, *ℤ-unit-l, *ℤ-unit-r, *ℤ-distr-sub-l, negℤ-*ℤ_r, *ℤ-cancel-l, pos_nz, sub_zero→eq, eq→sub_zero}

infixl 60 ◌:+◌ ◌:-◌
infixl 70 ◌:*◌
-- `var i` is variable i, `num c` the number c
pub data Exp : Type 0 where
  var : ℕ → Exp
  num : ℤ → Exp
  ◌:+◌ : Exp → Exp → Exp
  ◌:-◌ : Exp → Exp → Exp
  ◌:*◌ : Exp → Exp → Exp
  :neg : Exp → Exp

-- the value of a variable: 0 past the environment's end
abbrev pub look : List ℤ → ℕ → ℤ
look [] n = pos 0
look (x ∷ ρ) zero = x
look (x ∷ ρ) (suc n) = look ρ n

abbrev pub eval : List ℤ → Exp → ℤ
eval ρ (var i) = look ρ i
eval ρ (num c) = c
eval ρ (a :+ b) = eval ρ a +ℤ eval ρ b
eval ρ (a :- b) = eval ρ a -ℤ eval ρ b
eval ρ (a :* b) = eval ρ a *ℤ eval ρ b
eval ρ (:neg a) = neg_ℤ (eval ρ a)

-- ---- normal forms

pub data Poly : Type 0 where
  nil : Poly
  term : ℤ → List ℕ → Poly → Poly

-- a choice whose branches wait, since antt computes a call's arguments before the call
abbrev sel : {A : Type 0} → Ordering → (Unit {0} → A) → (Unit {0} → A) → (Unit {0} → A) → A
sel Ordering.lt x y z = x tt
sel Ordering.eq x y z = y tt
sel Ordering.gt x y z = z tt

-- the order of the monomials: the end of a list counts as greatest, so that multiplying keeps the order
abbrev cmp : List ℕ → List ℕ → Ordering
cmp [] [] = Ordering.eq
cmp [] (j ∷ n) = Ordering.gt
cmp (i ∷ m) [] = Ordering.lt
cmp (i ∷ m) (j ∷ n) = sel (compare i j) (λ _. Ordering.lt) (λ _. cmp m n) (λ _. Ordering.gt)

-- the product of two monomials, by merging: `f` is the product with `m`
abbrev minto : ℕ → List ℕ → (List ℕ → List ℕ) → List ℕ → List ℕ
minto i m f [] = i ∷ m
minto i m f (j ∷ n) = sel (compare i j) (λ _. i ∷ f (j ∷ n)) (λ _. i ∷ f (j ∷ n)) (λ _. j ∷ minto i m f n)

abbrev mmul : List ℕ → List ℕ → List ℕ
mmul [] n = n
mmul (i ∷ m) n = minto i m (mmul m) n

-- a term in front of a polynomial, unless its coefficient is 0
abbrev tm : ℤ → List ℕ → Poly → Poly
tm (pos zero) m p = p
tm (pos (suc c)) m p = term (pos (suc c)) m p
tm (negsuc c) m p = term (negsuc c) m p

-- the sum, by merging: `f` is the sum with `p`
abbrev merge : ℤ → List ℕ → Poly → (Poly → Poly) → Poly → Poly
merge c m p f nil = term c m p
merge c m p f (term d n q) = sel (cmp m n) (λ _. term c m (f (term d n q))) (λ _. tm (c +ℤ d) m (f q)) (λ _. term d n (merge c m p f q))

abbrev add : Poly → Poly → Poly
add nil q = q
add (term c m p) q = merge c m p (add p) q

abbrev scale : ℤ → List ℕ → Poly → Poly
scale c m nil = nil
scale c m (term d n q) = term (c *ℤ d) (mmul m n) (scale c m q)

-- polynomials that are still to be added up: a binary counter, so that a sum of n of them costs log n passes over each and not n
pub data Slots : Type 0 where
  end : Slots
  none : Slots → Slots
  some : Poly → Slots → Slots

abbrev push : Poly → Slots → Slots
push p end = some p end
push p (none s) = some p s
push p (some q s) = none (push (add p q) s)

abbrev flush : Slots → Poly
flush end = nil
flush (none s) = flush s
flush (some p s) = add p (flush s)

-- s and c * p * q together, and s and c * e together
abbrev mulinto : ℤ → Poly → Poly → Slots → Slots
mulinto c nil q s = s
mulinto c (term d m p) q s = mulinto c p q (push (scale (c *ℤ d) m q) s)

abbrev col : ℤ → Exp → Slots → Slots
col c (var i) s = push (term c (i ∷ []) nil) s
col c (num d) s = push (tm (c *ℤ d) [] nil) s
col c (x :+ y) s = col c y (col c x s)
col c (x :- y) s = col (neg_ℤ c) y (col c x s)
col c (x :* y) s = mulinto c (flush (col (pos 1) x end)) (flush (col (pos 1) y end)) s
col c (:neg x) s = col (neg_ℤ c) x s

abbrev pub norm : Exp → Poly
norm e = flush (col (pos 1) e end)

-- ---- they have the expressions' values

sel_ind : {A : Type 0} (P : A → Type 0) (o : Ordering) (x y z : Unit {0} → A) → P (x tt) → (T (compare_is_eq o) → P (y tt)) → P (z tt) → P (sel o x y z)
sel_ind P Ordering.lt x y z a b c = a
sel_ind P Ordering.eq x y z a b c = b tt
sel_ind P Ordering.gt x y z a b c = c

cmp_eq : (m n : List ℕ) → T (compare_is_eq (cmp m n)) → m ≡ n
cmp_eq [] [] t = refl
cmp_eq [] (j ∷ n) t = absurd t
cmp_eq (i ∷ m) [] t = absurd t
cmp_eq (i ∷ m) (j ∷ n) t = sel_ind (λ o. T (compare_is_eq o) → i ∷ m ≡ j ∷ n) (compare i j) _ _ _ (λ t. absurd t) (λ e t. ap₂ (λ x l. x ∷ l) (eqb→eq i j e) (cmp_eq m n t)) (λ t. absurd t) t

module _ (ρ : List ℤ) where
  abbrev mon : List ℕ → ℤ
  mon [] = pos 1
  mon (i ∷ m) = look ρ i *ℤ mon m

  abbrev ev : Poly → ℤ
  ev nil = pos 0
  ev (term c m p) = c *ℤ mon m +ℤ ev p

  minto_ok : (i : ℕ) (m : List ℕ) (f : List ℕ → List ℕ) → ((n : List ℕ) → mon (f n) ≡ mon m *ℤ mon n) → (n : List ℕ) → mon (minto i m f n) ≡ look ρ i *ℤ mon m *ℤ mon n
  minto_ok i m f h [] = sym (*ℤ_comm (look ρ i *ℤ mon m) (pos 1) ∙ *ℤ-unit-l (look ρ i *ℤ mon m))
  minto_ok i m f h (j ∷ n) = sel_ind (λ l. mon l ≡ look ρ i *ℤ mon m *ℤ (look ρ j *ℤ mon n)) (compare i j) _ _ _ here (λ e. here) (ap (λ x. look ρ j *ℤ x) (minto_ok i m f h n) ∙ *ℤ-left-comm (look ρ j) (look ρ i *ℤ mon m) (mon n))
    where
      here : look ρ i *ℤ mon (f (j ∷ n)) ≡ look ρ i *ℤ mon m *ℤ (look ρ j *ℤ mon n)
      here = ap (λ x. look ρ i *ℤ x) (h (j ∷ n)) ∙ sym (*ℤ-assoc (look ρ i) (mon m) (look ρ j *ℤ mon n))

  mmul_ok : (m n : List ℕ) → mon (mmul m n) ≡ mon m *ℤ mon n
  mmul_ok [] n = sym (*ℤ-unit-l (mon n))
  mmul_ok (i ∷ m) n = minto_ok i m (mmul m) (mmul_ok m) n

  tm_ok : (c : ℤ) (m : List ℕ) (p : Poly) → ev (tm c m p) ≡ c *ℤ mon m +ℤ ev p
  tm_ok (pos zero) m p = sym (ap (λ x. x +ℤ ev p) (zero-*ℤ (mon m)) ∙ +ℤ_idl (ev p))
  tm_ok (pos (suc c)) m p = refl
  tm_ok (negsuc c) m p = refl

  both : (c d x p q : ℤ) → (c +ℤ d) *ℤ x +ℤ (p +ℤ q) ≡ c *ℤ x +ℤ p +ℤ (d *ℤ x +ℤ q)
  both c d x p q = rw (*ℤ-distr-r c d x) (simp sumℤ)

  merge_ok : (c : ℤ) (m : List ℕ) (p : Poly) (f : Poly → Poly) → ((q : Poly) → ev (f q) ≡ ev p +ℤ ev q) → (q : Poly) → ev (merge c m p f q) ≡ c *ℤ mon m +ℤ ev p +ℤ ev q
  merge_ok c m p f h nil = sym (+ℤ_idr (c *ℤ mon m +ℤ ev p))
  merge_ok c m p f h (term d n q) = sel_ind (λ r. ev r ≡ c *ℤ mon m +ℤ ev p +ℤ (d *ℤ mon n +ℤ ev q)) (cmp m n) _ _ _
      (ap (λ x. c *ℤ mon m +ℤ x) (h (term d n q)) ∙ sym (+ℤ_assoc (c *ℤ mon m) (ev p) (d *ℤ mon n +ℤ ev q)))
      (λ e. tm_ok (c +ℤ d) m (f q) ∙ ap (λ x. (c +ℤ d) *ℤ mon m +ℤ x) (h q) ∙ both c d (mon m) (ev p) (ev q) ∙ ap (λ l. c *ℤ mon m +ℤ ev p +ℤ (d *ℤ mon l +ℤ ev q)) (cmp_eq m n e))
      (ap (λ x. d *ℤ mon n +ℤ x) (merge_ok c m p f h q) ∙ +ℤ-left-comm (d *ℤ mon n) (c *ℤ mon m +ℤ ev p) (ev q))

  add_ok : (p q : Poly) → ev (add p q) ≡ ev p +ℤ ev q
  add_ok nil q = sym (+ℤ_idl (ev q))
  add_ok (term c m p) q = merge_ok c m p (add p) (add_ok p) q

  scale_ok : (c : ℤ) (m : List ℕ) (q : Poly) → ev (scale c m q) ≡ c *ℤ mon m *ℤ ev q
  scale_ok c m nil = sym (*ℤ-zero (c *ℤ mon m))
  scale_ok c m (term d n q) =
      ap₂ (λ x y. c *ℤ d *ℤ x +ℤ y) (mmul_ok m n) (scale_ok c m q) ∙ ap (λ x. x +ℤ c *ℤ mon m *ℤ ev q) (swap c d (mon m) (mon n)) ∙ sym (*ℤ-distr-l (c *ℤ mon m) (d *ℤ mon n) (ev q))
    where
      swap : (a b x y : ℤ) → a *ℤ b *ℤ (x *ℤ y) ≡ a *ℤ x *ℤ (b *ℤ y)
      swap a b x y = simp prodℤ

  abbrev evs : Slots → ℤ
  evs end = pos 0
  evs (none s) = evs s
  evs (some p s) = ev p +ℤ evs s

  push_ok : (p : Poly) (s : Slots) → evs (push p s) ≡ ev p +ℤ evs s
  push_ok p end = refl
  push_ok p (none s) = refl
  push_ok p (some q s) = push_ok (add p q) s ∙ ap (λ x. x +ℤ evs s) (add_ok p q) ∙ +ℤ_assoc (ev p) (ev q) (evs s)

  flush_ok : (s : Slots) → ev (flush s) ≡ evs s
  flush_ok end = refl
  flush_ok (none s) = flush_ok s
  flush_ok (some p s) = add_ok p (flush s) ∙ ap (λ x. ev p +ℤ x) (flush_ok s)

  mulinto_ok : (c : ℤ) (p q : Poly) (s : Slots) → evs (mulinto c p q s) ≡ c *ℤ (ev p *ℤ ev q) +ℤ evs s
  mulinto_ok c nil q s = rw (zero-*ℤ, *ℤ-zero, +ℤ_idl)
  mulinto_ok c (term d m p) q s =
      mulinto_ok c p q (push (scale (c *ℤ d) m q) s)
      ∙ ap (λ x. c *ℤ (ev p *ℤ ev q) +ℤ x) (push_ok (scale (c *ℤ d) m q) s ∙ ap (λ x. x +ℤ evs s) (scale_ok (c *ℤ d) m q))
      ∙ law c d (mon m) (ev p) (ev q) (evs s)
    where
      law : (c d x p q s : ℤ) → c *ℤ (p *ℤ q) +ℤ (c *ℤ d *ℤ x *ℤ q +ℤ s) ≡ c *ℤ ((d *ℤ x +ℤ p) *ℤ q) +ℤ s
      law c d x p q s = rw (*ℤ-distr-r (d *ℤ x) p q, *ℤ-distr-l c (d *ℤ x *ℤ q) (p *ℤ q), *ℤ-assoc c d x, *ℤ-assoc c (d *ℤ x) q) (simp sumℤ)

  value : (e : Exp) → evs (col (pos 1) e end) ≡ pos 1 *ℤ eval ρ e +ℤ pos 0 → ev (flush (col (pos 1) e end)) ≡ eval ρ e
  value e h = flush_ok (col (pos 1) e end) ∙ h ∙ +ℤ_idr (pos 1 *ℤ eval ρ e) ∙ *ℤ-unit-l (eval ρ e)

  col_ok : (c : ℤ) (e : Exp) (s : Slots) → evs (col c e s) ≡ c *ℤ eval ρ e +ℤ evs s
  col_ok c (var i) s = push_ok (term c (i ∷ []) nil) s ∙ ap (λ x. x +ℤ evs s) (+ℤ_idr (c *ℤ (look ρ i *ℤ pos 1)) ∙ ap (λ x. c *ℤ x) (*ℤ-unit-r (look ρ i)))
  col_ok c (num d) s = push_ok (tm (c *ℤ d) [] nil) s ∙ ap (λ x. x +ℤ evs s) (tm_ok (c *ℤ d) [] nil ∙ +ℤ_idr (c *ℤ d *ℤ pos 1) ∙ *ℤ-unit-r (c *ℤ d))
  col_ok c (x :+ y) s =
      col_ok c y (col c x s) ∙ ap (λ z. c *ℤ eval ρ y +ℤ z) (col_ok c x s) ∙ law c (eval ρ x) (eval ρ y) (evs s)
    where
      law : (c x y s : ℤ) → c *ℤ y +ℤ (c *ℤ x +ℤ s) ≡ c *ℤ (x +ℤ y) +ℤ s
      law c x y s = rw (*ℤ-distr-l c x y) (simp sumℤ)
  col_ok c (x :- y) s =
      col_ok (neg_ℤ c) y (col c x s) ∙ ap (λ z. neg_ℤ c *ℤ eval ρ y +ℤ z) (col_ok c x s) ∙ law c (eval ρ x) (eval ρ y) (evs s)
    where
      law : (c x y s : ℤ) → neg_ℤ c *ℤ y +ℤ (c *ℤ x +ℤ s) ≡ c *ℤ (x -ℤ y) +ℤ s
      law c x y s = rw (*ℤ-distr-sub-l c x y, negℤ-*ℤ_l c y) (simp sumℤ)
  col_ok c (x :* y) s =
      mulinto_ok c (flush (col (pos 1) x end)) (flush (col (pos 1) y end)) s
      ∙ ap₂ (λ a b. c *ℤ (a *ℤ b) +ℤ evs s) (value x (col_ok (pos 1) x end)) (value y (col_ok (pos 1) y end))
  col_ok c (:neg x) s = col_ok (neg_ℤ c) x s ∙ ap (λ z. z +ℤ evs s) (negℤ-*ℤ_l c (eval ρ x) ∙ sym (negℤ-*ℤ_r c (eval ρ x)))

  norm_ok : (e : Exp) → ev (norm e) ≡ eval ρ e
  norm_ok e = value e (col_ok (pos 1) e end)

  -- the solver
  pub ring : (l r : Exp) → norm (l :- r) ≡ nil → eval ρ l ≡ eval ρ r
  ring l r h = sub_zero→eq (eval ρ l) (eval ρ r) (sym (norm_ok (l :- r)) ∙ ap ev h)

-- ---- from equations in hand: l - r is their sum, each times a factor

infix 55 ◌:=◌
infix 52 ◌of◌
pub data Eqn : Type 0 where
  ◌:=◌ : Exp → Exp → Eqn

-- each equation with its factor
pub data Part : Type 0 where
  ◌of◌ : Exp → Eqn → Part

abbrev pub Holds : List ℤ → List Part → Type 0
Holds ρ [] = Unit {0}
Holds ρ ((f of (l := r)) ∷ es) = (eval ρ l ≡ eval ρ r) × Holds ρ es

abbrev pub combination : List Part → Exp
combination [] = num (pos 0)
combination ((f of (l := r)) ∷ es) = combination es :+ f :* (l :- r)

combination_ok : (ρ : List ℤ) (es : List Part) → Holds ρ es → eval ρ (combination es) ≡ pos 0
combination_ok ρ [] h = refl
combination_ok ρ ((f of (l := r)) ∷ es) h =
    ap₂ (λ x y. x +ℤ eval ρ f *ℤ y) (combination_ok ρ es h.1) (eq→sub_zero h.0) ∙ ap (λ x. pos 0 +ℤ x) (*ℤ-zero (eval ρ f))

pub ring_by : (ρ : List ℤ) (l r : Exp) (es : List Part) → Holds ρ es → norm (l :- r :- combination es) ≡ nil → eval ρ l ≡ eval ρ r
ring_by ρ l r es h e = sub_zero→eq (eval ρ l) (eval ρ r) (ring ρ (l :- r) (combination es) e ∙ combination_ok ρ es h)

-- the same, times a number that is not 0: `times_by ρ 1 l r es h refl` shows l ≡ r from 2 * (l - r)
pub times_by : (ρ : List ℤ) (n : ℕ) (l r : Exp) (es : List Part) → Holds ρ es → norm (num (pos (suc n)) :* (l :- r) :- combination es) ≡ nil → eval ρ l ≡ eval ρ r
times_by ρ n l r es h e =
    sub_zero→eq (eval ρ l) (eval ρ r)
    (*ℤ-cancel-l (eval ρ l -ℤ eval ρ r) (pos 0) (pos (suc n)) (pos_nz (suc n) (omega arith))
    (ring ρ (num (pos (suc n)) :* (l :- r)) (combination es) e ∙ combination_ok ρ es h ∙ sym (*ℤ-zero (pos (suc n)))))
