-- Gaussian integers: a solver for equations that hold in every commutative ring, the ring laws, conjugation, square norms and cancellation.
use Rattle.std.specs.Prelude.{◌≡◌, refl, ◌≢◌, ◌⊎◌, List, [], ◌∷◌, ℕ, zero, suc, ◌+◌, ◌<◌, ℤ, pos, ◌+ℤ◌, ◌*ℤ◌}
use Rattle.std.proofs.Common.{sym, ◌∙◌, ap, ap₂, inl, inr, ⊎_elim, arith, zero-add, suc-add}
use Rattle.matrix.specs.Laws.Integer.{no_zero_divisors, pos_nz}
use Rattle.matrix.specs.Laws.Ring.{Exp, var, num, ◌:+◌, ◌:-◌, ◌:*◌, :neg, eval, nil, norm, ring}
use Rattle.matrix.specs.Laws.Sum.{sum_squares_zero}
use Rattle.gaussian.specs.declared.Gaussian.{Gaussian}
use Rattle.gaussian.specs.Gaussian.{gaussian, real, ◌⊕◌, ◌⊖◌, ◌⊗◌, conj, norm_of, power}

-- ---- the solver: an expression over Gaussian integers is two over whole numbers

abbrev pub lookᴳ : List Gaussian → ℕ → Gaussian
lookᴳ [] n = real (pos 0)
lookᴳ (x ∷ ρ) zero = x
lookᴳ (x ∷ ρ) (suc n) = lookᴳ ρ n

abbrev pub evalᴳ : List Gaussian → Exp → Gaussian
evalᴳ ρ (var i) = lookᴳ ρ i
evalᴳ ρ (num c) = real c
evalᴳ ρ (a :+ b) = evalᴳ ρ a ⊕ evalᴳ ρ b
evalᴳ ρ (a :- b) = evalᴳ ρ a ⊖ evalᴳ ρ b
evalᴳ ρ (a :* b) = evalᴳ ρ a ⊗ evalᴳ ρ b
evalᴳ ρ (:neg a) = real (pos 0) ⊖ evalᴳ ρ a

abbrev flat : List Gaussian → List ℤ
flat [] = []
flat (x ∷ ρ) = x.re ∷ x.im ∷ flat ρ

abbrev twice : ℕ → ℕ
twice zero = zero
twice (suc n) = suc (suc (twice n))

abbrev mutual
  pub re_of : Exp → Exp
  re_of (var i) = var (twice i)
  re_of (num c) = num c
  re_of (a :+ b) = re_of a :+ re_of b
  re_of (a :- b) = re_of a :- re_of b
  re_of (a :* b) = re_of a :* re_of b :- im_of a :* im_of b
  re_of (:neg a) = num (pos 0) :- re_of a

  pub im_of : Exp → Exp
  im_of (var i) = var (suc (twice i))
  im_of (num c) = num (pos 0)
  im_of (a :+ b) = im_of a :+ im_of b
  im_of (a :- b) = im_of a :- im_of b
  im_of (a :* b) = re_of a :* im_of b :+ im_of a :* re_of b
  im_of (:neg a) = num (pos 0) :- im_of a

abbrev value : List Gaussian → Exp → Gaussian
value ρ e = gaussian (eval (flat ρ) (re_of e)) (eval (flat ρ) (im_of e))

look_ok : (ρ : List Gaussian) (n : ℕ) → lookᴳ ρ n ≡ value ρ (var n)
look_ok [] n = refl
look_ok (x ∷ ρ) zero = refl
look_ok (x ∷ ρ) (suc n) = look_ok ρ n

value_ok : (ρ : List Gaussian) (e : Exp) → evalᴳ ρ e ≡ value ρ e
unfolding ◌⊕◌ ◌⊖◌ ◌⊗◌
value_ok ρ (var n) = look_ok ρ n
value_ok ρ (num c) = refl
value_ok ρ (a :+ b) = ap₂ (λ x y. x ⊕ y) (value_ok ρ a) (value_ok ρ b)
value_ok ρ (a :- b) = ap₂ (λ x y. x ⊖ y) (value_ok ρ a) (value_ok ρ b)
value_ok ρ (a :* b) = ap₂ (λ x y. x ⊗ y) (value_ok ρ a) (value_ok ρ b)
value_ok ρ (:neg a) = ap (λ x. real (pos 0) ⊖ x) (value_ok ρ a)

pub ringᴳ : (ρ : List Gaussian) (l r : Exp) → norm (re_of l :- re_of r) ≡ nil → norm (im_of l :- im_of r) ≡ nil → evalᴳ ρ l ≡ evalᴳ ρ r
ringᴳ ρ l r p q =
    value_ok ρ l ∙ ap₂ gaussian (ring (flat ρ) (re_of l) (re_of r) p) (ring (flat ρ) (im_of l) (im_of r) q) ∙ sym (value_ok ρ r)

-- ---- the ring laws

pub ⊕-assoc : (a b c : Gaussian) → a ⊕ b ⊕ c ≡ a ⊕ (b ⊕ c)
⊕-assoc a b c = ringᴳ (a ∷ b ∷ c ∷ []) (var 0 :+ var 1 :+ var 2) (var 0 :+ (var 1 :+ var 2)) refl refl

pub ⊕-comm : (a b : Gaussian) → a ⊕ b ≡ b ⊕ a
⊕-comm a b = ringᴳ (a ∷ b ∷ []) (var 0 :+ var 1) (var 1 :+ var 0) refl refl

pub ⊕-left-comm : (a b c : Gaussian) → a ⊕ (b ⊕ c) ≡ b ⊕ (a ⊕ c)
⊕-left-comm a b c = ringᴳ (a ∷ b ∷ c ∷ []) (var 0 :+ (var 1 :+ var 2)) (var 1 :+ (var 0 :+ var 2)) refl refl

pub ruleset sumᴳ = (⊕-assoc, ⊕-comm, ⊕-left-comm)

pub ⊕-swap : (a b c d : Gaussian) → (a ⊕ b) ⊕ (c ⊕ d) ≡ (a ⊕ c) ⊕ (b ⊕ d)
⊕-swap a b c d = simp sumᴳ

pub ⊕-idl : (a : Gaussian) → real (pos 0) ⊕ a ≡ a
⊕-idl a = ringᴳ (a ∷ []) (num (pos 0) :+ var 0) (var 0) refl refl

pub ⊕-idr : (a : Gaussian) → a ⊕ real (pos 0) ≡ a
⊕-idr a = ringᴳ (a ∷ []) (var 0 :+ num (pos 0)) (var 0) refl refl

pub ⊗-assoc : (a b c : Gaussian) → a ⊗ b ⊗ c ≡ a ⊗ (b ⊗ c)
⊗-assoc a b c = ringᴳ (a ∷ b ∷ c ∷ []) (var 0 :* var 1 :* var 2) (var 0 :* (var 1 :* var 2)) refl refl

pub ⊗-comm : (a b : Gaussian) → a ⊗ b ≡ b ⊗ a
⊗-comm a b = ringᴳ (a ∷ b ∷ []) (var 0 :* var 1) (var 1 :* var 0) refl refl

pub ⊗-left-comm : (a b c : Gaussian) → a ⊗ (b ⊗ c) ≡ b ⊗ (a ⊗ c)
⊗-left-comm a b c = ringᴳ (a ∷ b ∷ c ∷ []) (var 0 :* (var 1 :* var 2)) (var 1 :* (var 0 :* var 2)) refl refl

pub ruleset prodᴳ = (⊗-assoc, ⊗-comm, ⊗-left-comm)

pub ⊗-swap : (a b c d : Gaussian) → a ⊗ b ⊗ (c ⊗ d) ≡ a ⊗ c ⊗ (b ⊗ d)
⊗-swap a b c d = simp prodᴳ

pub ⊗-distr-l : (a b c : Gaussian) → a ⊗ (b ⊕ c) ≡ a ⊗ b ⊕ a ⊗ c
⊗-distr-l a b c = ringᴳ (a ∷ b ∷ c ∷ []) (var 0 :* (var 1 :+ var 2)) (var 0 :* var 1 :+ var 0 :* var 2) refl refl

pub ⊗-distr-r : (a b c : Gaussian) → (a ⊕ b) ⊗ c ≡ a ⊗ c ⊕ b ⊗ c
⊗-distr-r a b c = ringᴳ (a ∷ b ∷ c ∷ []) ((var 0 :+ var 1) :* var 2) (var 0 :* var 2 :+ var 1 :* var 2) refl refl

pub zero-⊗ : (a : Gaussian) → real (pos 0) ⊗ a ≡ real (pos 0)
zero-⊗ a = ringᴳ (a ∷ []) (num (pos 0) :* var 0) (num (pos 0)) refl refl

pub ⊗-zero : (a : Gaussian) → a ⊗ real (pos 0) ≡ real (pos 0)
⊗-zero a = ringᴳ (a ∷ []) (var 0 :* num (pos 0)) (num (pos 0)) refl refl

pub ⊗-unit-l : (a : Gaussian) → real (pos 1) ⊗ a ≡ a
⊗-unit-l a = ringᴳ (a ∷ []) (num (pos 1) :* var 0) (var 0) refl refl

pub ⊗-unit-r : (a : Gaussian) → a ⊗ real (pos 1) ≡ a
⊗-unit-r a = ringᴳ (a ∷ []) (var 0 :* num (pos 1)) (var 0) refl refl

pub ⊖-zero→eq : (a b : Gaussian) → a ⊖ b ≡ real (pos 0) → a ≡ b
⊖-zero→eq a b e = ringᴳ (a ∷ b ∷ []) (var 0) (var 0 :- var 1 :+ var 1) refl refl ∙ ap (λ x. x ⊕ b) e ∙ ⊕-idl b

pub power_sum : (x : Gaussian) (m n : ℕ) → power x (m + n) ≡ power x m ⊗ power x n
unfolding power
power_sum x zero n = ap (power x) (zero-add n) ∙ sym (⊗-unit-l (power x n))
power_sum x (suc m) n = ap (power x) (suc-add m n) ∙ ap (λ y. x ⊗ y) (power_sum x m n) ∙ sym (⊗-assoc x (power x m) (power x n))

-- ---- whole numbers among them, and conjugation

pub real-⊗ : (a b : ℤ) → real a ⊗ real b ≡ real (a *ℤ b)
unfolding ◌⊗◌
real-⊗ a b = ap₂ gaussian (ring (a ∷ b ∷ []) (var 0 :* var 1 :- num (pos 0) :* num (pos 0)) (var 0 :* var 1) refl) (ring (a ∷ b ∷ []) (var 0 :* num (pos 0) :+ num (pos 0) :* var 1) (num (pos 0)) refl)

pub real_times : (a : ℤ) (x : Gaussian) → real a ⊗ x ≡ gaussian (a *ℤ x.re) (a *ℤ x.im)
unfolding ◌⊗◌
real_times a x =
    ap₂ gaussian
    (ring (a ∷ x.re ∷ x.im ∷ []) (var 0 :* var 1 :- num (pos 0) :* var 2) (var 0 :* var 1) refl)
    (ring (a ∷ x.re ∷ x.im ∷ []) (var 0 :* var 2 :+ num (pos 0) :* var 1) (var 0 :* var 2) refl)

pub real-⊕ : (a b : ℤ) → real a ⊕ real b ≡ real (a +ℤ b)
unfolding ◌⊕◌
real-⊕ a b = refl

pub conj-⊗ : (a b : Gaussian) → conj (a ⊗ b) ≡ conj a ⊗ conj b
unfolding conj ◌⊗◌
conj-⊗ a b =
    ap₂ gaussian
    (ring (a.re ∷ a.im ∷ b.re ∷ b.im ∷ []) (var 0 :* var 2 :- var 1 :* var 3) (var 0 :* var 2 :- :neg (var 1) :* :neg (var 3)) refl)
    (ring (a.re ∷ a.im ∷ b.re ∷ b.im ∷ []) (:neg (var 0 :* var 3 :+ var 1 :* var 2)) (var 0 :* :neg (var 3) :+ :neg (var 1) :* var 2) refl)

pub conj-⊕ : (a b : Gaussian) → conj (a ⊕ b) ≡ conj a ⊕ conj b
unfolding conj ◌⊕◌
conj-⊕ a b = ap₂ gaussian refl (ring (a.im ∷ b.im ∷ []) (:neg (var 0 :+ var 1)) (:neg (var 0) :+ :neg (var 1)) refl)

pub conj-⊖ : (a b : Gaussian) → conj (a ⊖ b) ≡ conj a ⊖ conj b
unfolding conj ◌⊖◌
conj-⊖ a b = ap₂ gaussian refl (ring (a.im ∷ b.im ∷ []) (:neg (var 0 :- var 1)) (:neg (var 0) :- :neg (var 1)) refl)

pub conj_conj : (a : Gaussian) → conj (conj a) ≡ a
unfolding conj
conj_conj a = ap₂ gaussian refl (ring (a.im ∷ []) (:neg (:neg (var 0))) (var 0) refl)

pub conj_real : (a : ℤ) → conj (real a) ≡ real a
unfolding conj
conj_real a = refl

pub conj_power : (x : Gaussian) (n : ℕ) → conj (power x n) ≡ power (conj x) n
unfolding power
conj_power x zero = conj_real (pos 1)
conj_power x (suc n) = conj-⊗ x (power x n) ∙ ap (λ y. conj x ⊗ y) (conj_power x n)

-- ---- square norms, and cancellation

pub norm-⊗ : (a b : Gaussian) → norm_of (a ⊗ b) ≡ norm_of a *ℤ norm_of b
unfolding norm_of ◌⊗◌
norm-⊗ a b =
    ring (a.re ∷ a.im ∷ b.re ∷ b.im ∷ [])
    ((var 0 :* var 2 :- var 1 :* var 3) :* (var 0 :* var 2 :- var 1 :* var 3) :+ (var 0 :* var 3 :+ var 1 :* var 2) :* (var 0 :* var 3 :+ var 1 :* var 2))
    ((var 0 :* var 0 :+ var 1 :* var 1) :* (var 2 :* var 2 :+ var 3 :* var 3)) refl

pub times_conj : (a : Gaussian) → a ⊗ conj a ≡ real (norm_of a)
unfolding norm_of ◌⊗◌ conj
times_conj a =
    ap₂ gaussian
    (ring (a.re ∷ a.im ∷ []) (var 0 :* var 0 :- var 1 :* :neg (var 1)) (var 0 :* var 0 :+ var 1 :* var 1) refl)
    (ring (a.re ∷ a.im ∷ []) (var 0 :* :neg (var 1) :+ var 1 :* var 0) (num (pos 0)) refl)

pub norm_zero : (a : Gaussian) → norm_of a ≡ pos 0 → a ≡ real (pos 0)
unfolding norm_of Rattle.matrix.specs.Range.sum
norm_zero a e =
    let z : (i : ℕ) → i < 2 → part a i ≡ pos 0 = sum_squares_zero 2 (part a) (ring (a.re ∷ a.im ∷ []) (num (pos 0) :+ var 0 :* var 0 :+ var 1 :* var 1) (var 0 :* var 0 :+ var 1 :* var 1) refl ∙ e) in
    ap₂ gaussian (z 0 (omega arith)) (z 1 (omega arith))
  where
    part : Gaussian → ℕ → ℤ
    part a zero = a.re
    part a (suc i) = a.im

pub no_zero_divisorsᴳ : (a b : Gaussian) → a ⊗ b ≡ real (pos 0) → (a ≡ real (pos 0)) ⊎ (b ≡ real (pos 0))
unfolding norm_of
no_zero_divisorsᴳ a b e =
    ⊎_elim (λ p. inl (norm_zero a p)) (λ p. inr (norm_zero b p)) (no_zero_divisors (norm_of a) (norm_of b) (sym (norm-⊗ a b) ∙ ap norm_of e))

pub ⊗-cancel-l : (a b c : Gaussian) → c ≢ real (pos 0) → c ⊗ a ≡ c ⊗ b → a ≡ b
⊗-cancel-l a b c nz e =
    ⊎_elim (λ p. absurd (nz p)) (λ p. ⊖-zero→eq a b p)
    (no_zero_divisorsᴳ c (a ⊖ b)
    (ringᴳ (a ∷ b ∷ c ∷ []) (var 2 :* (var 0 :- var 1)) (var 2 :* var 0 :- var 2 :* var 1) refl refl
    ∙ ap (λ x. x ⊖ c ⊗ b) e ∙ ringᴳ (b ∷ c ∷ []) (var 1 :* var 0 :- var 1 :* var 0) (num (pos 0)) refl refl))

pub power_nz : (x : Gaussian) → x ≢ real (pos 0) → (n : ℕ) → power x n ≢ real (pos 0)
unfolding power
power_nz x nz zero e = pos_nz 1 (omega arith) (ap (λ z. z.re) e)
power_nz x nz (suc n) e = ⊎_elim (λ p. nz p) (λ p. power_nz x nz n p) (no_zero_divisorsᴳ x (power x n) e)
