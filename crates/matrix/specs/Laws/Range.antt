-- Ranges of indices: what a loop that goes through one keeps, and what its result says at each index.
use Rattle.std.specs.Prelude.{◌≡◌, Bool, true, false, cond, ◌&&◌, List, ◌∷◌, T, length, get_or, drop, set}
use Rattle.std.proofs.Math.Path.{refl, sym, ap}
use Rattle.std.proofs.Common.{ap₂, ◌∙◌, subst, add-suc, suc-add, length-set, shr-shr, pow_mono, drop-cons, ext_get_or, get_or-set_same, get_or-set_other, ltb-true, lt-ltb}
use Prim.Native.Nat.{ℕ, zero, suc, ◌+◌, ◌*◌, ◌-◌, ◌/◌, ◌%◌, ◌^◌, ◌<◌, ◌≤◌}
use Rattle.std.proofs.Math.Nat.{add-zero}
use native.Mathlib.Omega.{arith}
use Rattle.std.proofs.Math.Decide.{ℕ_discrete, dec_lt}
use Rattle.std.specs.Int.Count.{ones, ones_step}
use Rattle.matrix.specs.Range.{first_from, every_from, every, some, tabulate, bits, total}

-- ---- a test at every index

both_true : (a b : Bool) → (a && b) ≡ true → (a ≡ true) × (b ≡ true)
both_true true true e = (refl, refl)
both_true true false e = (refl, (cc))
both_true false b e = (e, (cc))

rest : (N n : ℕ) → n < N → N - n ≡ suc (N - (n + 1))
rest N n h = omega arith

module _ (f : ℕ → Bool) (N n : ℕ) (h : n < N) where
  -- a turn of a loop that goes on where the test holds
  pub every_next : f n ≡ true → every_from f n (N - n) ≡ every_from f (n + 1) (N - (n + 1))
  unfolding every_from
  every_next e = let s : n + 1 ≡ suc n = omega arith in rw (rest N n h) (rw e (ap (λ x. every_from f x (N - (n + 1))) (sym s)))

  -- and returns where it fails
  pub every_stop : f n ≡ false → every_from f n (N - n) ≡ false
  unfolding every_from
  every_stop e = rw (rest N n h) (rw e)

sound_from : (f : ℕ → Bool) (a k i : ℕ) → every_from f a k ≡ true → a ≤ i → i < a + k → f i ≡ true
unfolding every_from
sound_from f a zero i e l u = absurd (omega arith)
sound_from f a (suc k) i e l u =
    let (p, q) = both_true (f a) (every_from f (suc a) k) e in
    elim (ℕ_discrete a i) [ yes d ↦ subst (λ x. f x ≡ true) d p | no d ↦ sound_from f (suc a) k i q (omega arith) (omega arith) ]

complete_from : (f : ℕ → Bool) (a k : ℕ) → ((i : ℕ) → a ≤ i → i < a + k → f i ≡ true) → every_from f a k ≡ true
unfolding every_from
complete_from f a zero h = refl
complete_from f a (suc k) h = rw (h a (omega arith) (omega arith)) (complete_from f (suc a) k (λ i l u. h i (omega arith) (omega arith)))

pub every_cong : (f g : ℕ → Bool) (a k : ℕ) → ((i : ℕ) → a ≤ i → i < a + k → f i ≡ g i) → every_from f a k ≡ every_from g a k
unfolding every_from
every_cong f g a zero h = refl
every_cong f g a (suc k) h = ap₂ ◌&&◌ (h a (omega arith) (omega arith)) (every_cong f g (suc a) k (λ i l u. h i (omega arith) (omega arith)))

pub every_sound : (n : ℕ) (f : ℕ → Bool) → every n f ≡ true → (i : ℕ) → i < n → f i ≡ true
every_sound n f e i h = sound_from f 0 n i e (omega arith) (omega arith)

pub every_complete : (n : ℕ) (f : ℕ → Bool) → ((i : ℕ) → i < n → f i ≡ true) → every n f ≡ true
every_complete n f h = complete_from f 0 n (λ i l u. h i (omega arith))

-- ---- the first index at which a test holds

module _ (f : ℕ → Bool) (N n : ℕ) (h : n < N) where
  pub first_here : f n ≡ true → first_from f n (N - n) ≡ n
  unfolding first_from
  first_here e = rw (rest N n h) (rw e)

  pub first_next : f n ≡ false → first_from f n (N - n) ≡ first_from f (n + 1) (N - (n + 1))
  unfolding first_from
  first_next e = let s : n + 1 ≡ suc n = omega arith in rw (rest N n h) (rw e (ap (λ x. first_from f x (N - (n + 1))) (sym s)))

pub first_cong : (f g : ℕ → Bool) (a k : ℕ) → ((i : ℕ) → a ≤ i → i < a + k → f i ≡ g i) → first_from f a k ≡ first_from g a k
unfolding first_from
first_cong f g a zero h = refl
first_cong f g a (suc k) h =
    ap₂ (λ t n. cond t a n) (h a (omega arith) (omega arith)) (first_cong f g (suc a) k (λ i l u. h i (omega arith) (omega arith)))

-- where it holds at some index, it holds at the first, and at none before
pub record First (f : ℕ → Bool) (a b i : ℕ) : Type 0 where
  pub holds : f i ≡ true
  pub from : a ≤ i
  pub below : i < b
  pub earlier : (j : ℕ) → a ≤ j → j < i → f j ≡ false

first_step : (f : ℕ → Bool) (a k : ℕ) → (f a ≡ false → First f (suc a) (suc a + k) (first_from f (suc a) k)) → First f a (a + suc k) (first_from f a (suc k))
unfolding first_from
first_step f a k r = go (f a) refl
  where
    go : (t : Bool) → f a ≡ t → First f a (a + suc k) (cond t a (first_from f (suc a) k))
    go true p = record { holds = p; from = omega arith; below = omega arith; earlier = λ j x y. absurd (omega arith) }
    go false p =
        let s = r p in
        record {
          holds = s.holds;
          from = let v = s.from in omega arith;
          below = let v = s.below in omega arith;
          earlier = λ j x y. elim (ℕ_discrete a j) [ yes z ↦ subst (λ w. f w ≡ false) z p | no z ↦ s.earlier j (omega arith) y ];
        }

true_false : true ≡ false → ⊥
true_false z = subst T z tt

pub first_found : (f : ℕ → Bool) (a k i : ℕ) → f i ≡ true → a ≤ i → i < a + k → First f a (a + k) (first_from f a k)
first_found f a zero i e l u = absurd (omega arith)
first_found f a (suc k) i e l u =
    first_step f a k (λ p. let d : (a ≡ i → ⊥) = λ z. true_false (sym e ∙ ap f (sym z) ∙ p) in first_found f (suc a) k i e (omega arith) (omega arith))

-- the search that ends in the range has found one
pub first_in : (f : ℕ → Bool) (a k : ℕ) → first_from f a k < a + k → First f a (a + k) (first_from f a k)
unfolding first_from
first_in f a zero h = absurd (omega arith)
first_in f a (suc k) h = first_step f a k (λ p. first_in f (suc a) k (let u : first_from f (suc a) k < a + suc k = rw p at h in omega arith))

-- it ends in the range or right behind it
pub first_most : (f : ℕ → Bool) (a k : ℕ) → first_from f a k ≤ a + k
unfolding first_from
first_most f a zero = omega arith
first_most f a (suc k) = go (f a) (first_most f (suc a) k)
  where
    go : (t : Bool) → first_from f (suc a) k ≤ suc a + k → cond t a (first_from f (suc a) k) ≤ a + suc k
    go true r = omega arith
    go false r = omega arith

-- and has passed none
pub first_passed : (f : ℕ → Bool) (a k i : ℕ) → a ≤ i → i < first_from f a k → f i ≡ false
first_passed f a k i l u = go (f i) refl
  where
    go : (t : Bool) → f i ≡ t → f i ≡ false
    go true e = let m = first_most f a k in (first_found f a k i e l (omega arith)).earlier i l u
    go false e = e

-- it ends no later than where f holds
pub first_stops : (f : ℕ → Bool) (a k i : ℕ) → a ≤ i → f i ≡ true → first_from f a k ≤ i
first_stops f a k i l e = elim (dec_lt i (first_from f a k)) [ yes u ↦ absurd (true_false (sym e ∙ first_passed f a k i l u)) | no u ↦ omega arith ]

-- and no sooner than that
pub first_goes_on : (f : ℕ → Bool) (a k n : ℕ) → n ≤ a + k → ((i : ℕ) → a ≤ i → i < n → f i ≡ false) → n ≤ first_from f a k
first_goes_on f a k n u h = elim (dec_lt (first_from f a k) n) [
  | yes l ↦ let s = first_in f a k (omega arith) in absurd (true_false (sym s.holds ∙ h (first_from f a k) s.from l))
  | no l ↦ omega arith
]

pub some_sound : (n : ℕ) (f : ℕ → Bool) → some n f ≡ true → (i : ℕ) × (i < n) × (f i ≡ true)
some_sound n f e =
    let h : first_from f 0 n < n = ltb-true _ _ e in
    (first_from f 0 n, h, (first_in f 0 n (omega arith)).holds)

pub some_complete : (n : ℕ) (f : ℕ → Bool) (i : ℕ) → i < n → f i ≡ true → some n f ≡ true
some_complete n f i h e = let s = (first_found f 0 n i e (omega arith) (omega arith)).below in lt-ltb (first_from f 0 n) n (omega arith)

-- ---- a list that a function of the index makes

module _ {A : Type 0} where
  pub length_tabulate : (f : ℕ → A) (a k : ℕ) → length (tabulate f a k) ≡ k
  unfolding tabulate
  length_tabulate f a zero = refl
  length_tabulate f a (suc k) = ap suc (length_tabulate f (suc a) k)

  pub get_d_tabulate : (f : ℕ → A) (a k i : ℕ) (d : A) → i < k → get_or (tabulate f a k) i d ≡ f (a + i)
  unfolding tabulate
  get_d_tabulate f a zero i d h = absurd (omega arith)
  get_d_tabulate f a (suc k) zero d h = sym (ap f (add-zero a))
  get_d_tabulate f a (suc k) (suc i) d h = get_d_tabulate f (suc a) k i d (omega arith) ∙ ap f (suc-add a i ∙ sym (add-suc a i))

  -- a list is what its elements are
  pub tabulate_is : (f : ℕ → A) (n : ℕ) (d : A) (b : List A) → length b ≡ n → ((i : ℕ) → i < n → get_or b i d ≡ f i) → b ≡ tabulate f 0 n
  tabulate_is f n d b l h =
      ext_get_or d b (tabulate f 0 n) (l ∙ sym (length_tabulate f 0 n))
      (λ i u. h i (omega arith) ∙ sym (get_d_tabulate f 0 n i d (omega arith) ∙ ap f (omega arith)))

  -- the rest of a list, one element earlier: a turn of a loop that goes down
  pub drop_down : (l : List A) (d : A) (n : ℕ) → 0 < n → n ≤ length l → drop (n - 1) l ≡ get_or l (n - 1) d ∷ drop n l
  drop_down l d n h u = let e : suc (n - 1) ≡ n = omega arith in drop-cons l (n - 1) d (omega arith) ∙ ap (λ x. get_or l (n - 1) d ∷ drop x l) e

-- the list b is b₀ with its first n elements set to f 0, f 1, ..: the invariant of a loop that fills from the front
pub record Filled {A : Type 0} (d : A) (f : ℕ → A) (b₀ : List A) (n : ℕ) (b : List A) : Type 0 where
  pub long : length b ≡ length b₀
  pub front : (i : ℕ) → i < n → get_or b i d ≡ f i
  pub back : (i : ℕ) → n ≤ i → get_or b i d ≡ get_or b₀ i d

module _ {A : Type 0} (d : A) (f : ℕ → A) (b₀ : List A) where
  pub filled_none : Filled d f b₀ 0 b₀
  filled_none = record { long = refl; front = λ i h. absurd (omega arith); back = λ i h. refl }

  pub filled_more : (n : ℕ) (b : List A) (x : A) → Filled d f b₀ n b → n < length b₀ → x ≡ f n → Filled d f b₀ (n + 1) (set b n x)
  filled_more n b x w h e = record {
    long = length-set b n x ∙ w.long;
    front = λ i u. elim (ℕ_discrete i n) [
      | yes p ↦ rw p (get_or-set_same b n x d (rw w.long h) ∙ e)
      | no p ↦ get_or-set_other b n i x d p ∙ w.front i (omega arith)
    ];
    back = λ i u. get_or-set_other b n i x d (omega arith) ∙ w.back i (omega arith);
  }

  pub filled_all : (n : ℕ) (b : List A) → Filled d f b₀ n b → n ≡ length b₀ → b ≡ tabulate f 0 n
  filled_all n b w h = tabulate_is f n d b (w.long ∙ sym h) w.front

-- ---- sums, and a number by its bits

pub total_cong : {f g : ℕ → ℕ} (a k : ℕ) → ((i : ℕ) → a ≤ i → i < a + k → f i ≡ g i) → total f a k ≡ total g a k
unfolding total
total_cong a zero h = refl
total_cong a (suc k) h = ap₂ ◌+◌ (h a (omega arith) (omega arith)) (total_cong (suc a) k (λ i l u. h i (omega arith) (omega arith)))

-- where a test is counted at least once, it holds at some index
pub total_some : (f : ℕ → Bool) (a k : ℕ) → 1 ≤ total (λ i. cond (f i) 1 0) a k → (i : ℕ) × (a ≤ i) × (i < a + k) × (f i ≡ true)
unfolding total
total_some f a zero h = absurd (omega arith)
total_some f a (suc k) h = go (f a) refl h (total_some f (suc a) k)
  where
    go : (t : Bool) → f a ≡ t → 1 ≤ cond t 1 0 + total (λ i. cond (f i) 1 0) (suc a) k
        → (1 ≤ total (λ i. cond (f i) 1 0) (suc a) k → (i : ℕ) × (suc a ≤ i) × (i < suc a + k) × (f i ≡ true)) → (i : ℕ) × (a ≤ i) × (i < a + suc k) × (f i ≡ true)
    go true e h rest = (a, omega arith, omega arith, e)
    go false e h rest = let (i, l, u, p) = rest (omega arith) in (i, omega arith, omega arith, p)

module _ (f : ℕ → ℕ) (one_bit : (c : ℕ) → f c < 2) where
  pub bits_lt : (c k : ℕ) → bits f c k < 2 ^ k
  unfolding bits
  bits_lt c zero = omega arith
  bits_lt c (suc k) = let h = bits_lt (suc c) k in let p = one_bit c in omega arith

  -- bit j is f (c + j)
  pub bit_at : (c k j : ℕ) → j < k → bits f c k / 2 ^ j % 2 ≡ f (c + j)
  unfolding bits
  bit_at c zero j h = absurd (omega arith)
  bit_at c (suc k) zero h = let p = one_bit c in rw add-zero (omega arith)
  bit_at c (suc k) (suc j) h =
      let p = one_bit c in
      let q : (f c + 2 * bits f (suc c) k) / 2 ^ 1 ≡ bits f (suc c) k = omega arith in
      let e : 1 + j ≡ suc j = omega arith in
      let s : suc c + j ≡ c + suc j = omega arith in
      ap (λ x. (f c + 2 * bits f (suc c) k) / 2 ^ x % 2) (sym e) ∙ ap (λ x. x % 2) (sym (shr-shr (f c + 2 * bits f (suc c) k) 1 j))
      ∙ ap (λ x. x / 2 ^ j % 2) q ∙ bit_at (suc c) k j (omega arith) ∙ ap f s

  -- as many bits are set as the sum says
  pub ones_bits : (c k : ℕ) → ones (bits f c k) ≡ total f c k
  unfolding ones bits total
  ones_bits c zero = refl
  ones_bits c (suc k) =
      let p = one_bit c in
      let r : (f c + 2 * bits f (suc c) k) % 2 ≡ f c = omega arith in
      let q : (f c + 2 * bits f (suc c) k) / 2 ≡ bits f (suc c) k = omega arith in
      ones_step (f c + 2 * bits f (suc c) k) ∙ rw (r, q) (ap (λ x. f c + x) (ones_bits (suc c) k))

  module _ (n c : ℕ) (h : 0 < c) (l : c ≤ n) where
    -- a turn of a loop that goes down, one bit a turn
    pub bits_down : (x p : ℕ) → x ≡ bits f c (n - c) → p ≡ f (c - 1) → p + 2 * x ≡ bits f (c - 1) (n - (c - 1))
    unfolding bits
    bits_down x p a q = let e : n - (c - 1) ≡ suc (n - c) = omega arith in let d : suc (c - 1) ≡ c = omega arith in rw (e, d, a, q)

    -- what is there before the turn has room for one bit more
    pub bits_small : (x : ℕ) → x ≡ bits f c (n - c) → x < 2 ^ (n - 1)
    bits_small x a = let k : 2 ^ (n - c) ≤ 2 ^ (n - 1) = pow_mono {i = n - c} {j = n - 1} (omega arith) in let u = bits_lt c (n - c) in omega arith
