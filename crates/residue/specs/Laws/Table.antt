-- The table's rule: every splitting of the six rows into three pairs stands in it exactly once, in the order in which document 01 prints
-- them, which is the order of their numbers read from left to right.
use Rattle.std.specs.Prelude.{◌≡◌, refl, Bool, true, false, not, ◌&&◌, List, [], ◌∷◌, map, ℕ, suc, ◌-◌, ◌<◌, ◌≤◌, T, eqb, ltb, get_or}
use Rattle.std.proofs.Common.{subst, ap₂, arith, eqb→eq, ltb→lt, lt→ltb}
use Rattle.std.proofs.Math.Dec.{eqb_refl}
use Rattle.std.proofs.Math.ListN.{get_or-map}
use Rattle.matrix.specs.List.{before}
use Rattle.matrix.specs.Range.{every_from, every, first_from}
use Rattle.matrix.specs.Laws.Range.{every_sound, first_in}
use Rattle.residue.specs.Generator.{table, place, pair_rows}
use Rattle.matrix.specs.Laws.Test.{both, left, right, imp, imp_sound, T_true, true_T}

-- the six rows of generator g, counted from 1
abbrev pub rows_of : ℕ → List ℕ
rows_of g = place g 0 ∷ place g 1 ∷ place g 2 ∷ place g 3 ∷ place g 4 ∷ place g 5 ∷ []

-- three pairs of the rows 1 to 6: each pair in order, the pairs in the order of their first rows, no row twice
abbrev pub splits : ℕ → ℕ → ℕ → ℕ → ℕ → ℕ → Bool
splits a b c d e f =
    ltb 0 a && (ltb a b && (ltb b 7 && (ltb a c && (ltb c d && (ltb d 7 && (ltb c e && (ltb e f && (ltb f 7
    && (not (eqb b c) && (not (eqb b d) && (not (eqb b e) && (not (eqb b f) && (not (eqb d e) && not (eqb d f))))))))))))))

-- generator number a + 1 for each a below n
pub numbered : (P : ℕ → Bool) (n : ℕ) → every n (λ a. P (suc a)) ≡ true → (g : ℕ) → 1 ≤ g → g ≤ n → T (P g)
numbered P n e g l u = let s : suc (g - 1) ≡ g = omega arith in subst (λ x. T (P x)) s (true_T (every_sound n (λ a. P (suc a)) e (g - 1) (omega arith)))

pub each_splits : (g : ℕ) → 1 ≤ g → g ≤ 15 → T (splits (place g 0) (place g 1) (place g 2) (place g 3) (place g 4) (place g 5))
unfolding place table every_from
each_splits = numbered (λ g. splits (place g 0) (place g 1) (place g 2) (place g 3) (place g 4) (place g 5)) 15 refl

pub in_order : (g h : ℕ) → 1 ≤ g → g < h → h ≤ 15 → T (before (rows_of g) (rows_of h))
unfolding place table every_from
in_order g h l m u =
    imp_sound (ltb g h) (before (rows_of g) (rows_of h))
    (numbered (λ h. imp (ltb g h) (before (rows_of g) (rows_of h))) 15
    (T_true _ (numbered (λ g. every 15 (λ b. imp (ltb g (suc b)) (before (rows_of g) (rows_of (suc b))))) 15 refl g l (omega arith)))
    h (omega arith) u)
    (lt→ltb g h m)

abbrev same : List ℕ → List ℕ → Bool
same [] [] = true
same [] (y ∷ ys) = false
same (x ∷ xs) [] = false
same (x ∷ xs) (y ∷ ys) = eqb x y && same xs ys

same_sound : (xs ys : List ℕ) → T (same xs ys) → xs ≡ ys
same_sound [] [] t = refl
same_sound [] (y ∷ ys) t = absurd t
same_sound (x ∷ xs) [] t = absurd t
same_sound (x ∷ xs) (y ∷ ys) t = ap₂ (λ z zs. z ∷ zs) (eqb→eq x y (left (eqb x y) _ t)) (same_sound xs ys (right (eqb x y) _ t))

same_refl : (xs : List ℕ) → T (same xs xs)
same_refl [] = tt
same_refl (x ∷ xs) = both (eqb x x) (same xs xs) (eqb_refl x) (same_refl xs)

-- every six numbers that split stand in the table; the tests on the way leave most tuples out
stands : ℕ → ℕ → ℕ → ℕ → ℕ → ℕ → Bool
stands a b c d e f = imp (splits a b c d e f) (ltb (first_from (λ g. same (rows_of g) (a ∷ b ∷ c ∷ d ∷ e ∷ f ∷ [])) 1 15) 16)

stands₄ : ℕ → ℕ → ℕ → ℕ → Bool
stands₄ a b c d = every 7 (λ e. imp (ltb c e) (every 7 (stands a b c d e)))

stands₂ : ℕ → ℕ → Bool
stands₂ a b = every 7 (λ c. imp (ltb a c) (every 7 (λ d. imp (ltb c d) (stands₄ a b c d))))

all_stand : every 7 (λ a. every 7 (λ b. imp (ltb a b) (stands₂ a b))) ≡ true
unfolding stands stands₄ stands₂ place table every_from first_from
all_stand = refl

pub complete : (a b c d e f : ℕ) → T (splits a b c d e f) → (g : ℕ) × (1 ≤ g) × (g ≤ 15) × (rows_of g ≡ a ∷ b ∷ c ∷ d ∷ e ∷ f ∷ [])
unfolding stands stands₄ stands₂
complete a b c d e f t =
    let r1 = right (ltb 0 a) _ t in
    let r2 = right (ltb a b) _ r1 in
    let r3 = right (ltb b 7) _ r2 in
    let r4 = right (ltb a c) _ r3 in
    let r5 = right (ltb c d) _ r4 in
    let r6 = right (ltb d 7) _ r5 in
    let r7 = right (ltb c e) _ r6 in
    let r8 = right (ltb e f) _ r7 in
    let ab : T (ltb a b) = left (ltb a b) _ r1 in
    let b7 : b < 7 = ltb→lt b 7 (left (ltb b 7) _ r2) in
    let ac : T (ltb a c) = left (ltb a c) _ r3 in
    let cd : T (ltb c d) = left (ltb c d) _ r4 in
    let d7 : d < 7 = ltb→lt d 7 (left (ltb d 7) _ r5) in
    let ce : T (ltb c e) = left (ltb c e) _ r6 in
    let ef : T (ltb e f) = left (ltb e f) _ r7 in
    let f7 : f < 7 = ltb→lt f 7 (left (ltb f 7) _ r8) in
    let s2 : T (stands₂ a b) = imp_sound (ltb a b) (stands₂ a b) (at 7 (λ x. imp (ltb a x) (stands₂ a x)) (at 7 (λ y. every 7 (λ x. imp (ltb y x) (stands₂ y x))) (true_T all_stand) a (omega (arith, ltb→lt))) b b7) ab in
    let s3 : T (every 7 (λ x. imp (ltb c x) (stands₄ a b c x))) = imp_sound (ltb a c) _ (at 7 (λ y. imp (ltb a y) (every 7 (λ x. imp (ltb y x) (stands₄ a b y x)))) s2 c (omega (arith, ltb→lt))) ac in
    let s4 : T (stands₄ a b c d) = imp_sound (ltb c d) (stands₄ a b c d) (at 7 (λ x. imp (ltb c x) (stands₄ a b c x)) s3 d d7) cd in
    let s5 : T (every 7 (stands a b c d e)) = imp_sound (ltb c e) _ (at 7 (λ x. imp (ltb c x) (every 7 (stands a b c d x))) s4 e (omega (arith, ltb→lt))) ce in
    let s6 = imp_sound (splits a b c d e f) _ (at 7 (stands a b c d e) s5 f f7) t in
    let found = first_in (λ g. same (rows_of g) (a ∷ b ∷ c ∷ d ∷ e ∷ f ∷ [])) 1 15 (ltb→lt _ 16 s6) in
    (_, found.from, (let u = found.below in omega arith), same_sound _ _ (true_T found.holds))
  where
    at : (n : ℕ) (P : ℕ → Bool) → T (every n P) → (i : ℕ) → i < n → T (P i)
    at n P t i h = true_T (every_sound n P (T_true _ t) i h)

pub unique : (g h : ℕ) → 1 ≤ g → g ≤ 15 → 1 ≤ h → h ≤ 15 → rows_of g ≡ rows_of h → g ≡ h
unfolding place table every_from
unique g h l u m v e =
    eqb→eq g h
    (imp_sound (same (rows_of g) (rows_of h)) (eqb g h)
    (numbered (λ h. imp (same (rows_of g) (rows_of h)) (eqb g h)) 15
    (T_true _ (numbered (λ g. every 15 (λ b. imp (same (rows_of g) (rows_of (suc b))) (eqb g (suc b)))) 15 refl g l u)) h m v)
    (subst (λ x. T (same (rows_of g) x)) e (same_refl (rows_of g))))

-- the rows of a generator, counted from 0, as the code has them
pub from_zero : (g : ℕ) → get_or (map (map (λ x. x - 1)) table) (g - 1) [] ≡ pair_rows g
from_zero g = get_or-map (map (λ x. x - 1)) table (g - 1) []

pub row_at_lem : (g n : ℕ) → get_or (pair_rows g) n 0 ≡ place g n - 1
unfolding place
row_at_lem g n = get_or-map (λ x. x - 1) (get_or table (g - 1) []) n 0
