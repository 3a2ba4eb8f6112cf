-- Tests that compute, and what they say.
use Rattle.std.specs.Prelude.{◌≡◌, refl, Bool, true, false, ◌&&◌, ◌||◌, List, [], ◌∷◌, ℕ, T, eqb}
use Rattle.std.proofs.Common.{sym, ap₂, subst, eqb-true, eq-eqb}
use Rattle.matrix.specs.List.{same_list}

pub both : (a b : Bool) → T a → T b → T (a && b)
both true b s t = t
both false b s t = absurd s

pub left : (a b : Bool) → T (a && b) → T a
left true b t = tt
left false b t = t

pub right : (a b : Bool) → T (a && b) → T b
right true b t = t
right false b t = absurd t

pub or_elim : (a b : Bool) (C : Type 0) → T (a || b) → (T a → C) → (T b → C) → C
or_elim true b C t f g = f t
or_elim false b C t f g = g t

pub T_true : (b : Bool) → T b → b ≡ true
T_true true t = refl
T_true false t = absurd t

pub true_T : {b : Bool} → b ≡ true → T b
true_T e = subst T (sym e) tt

pub and_left : (a b : Bool) → (a && b) ≡ true → a ≡ true
and_left true b e = refl
and_left false b e = e

pub and_right : (a b : Bool) → (a && b) ≡ true → b ≡ true
and_right true b e = e
and_right false b e = cc

-- two tests that pass together
pub same_test_lem : (a b : Bool) → (a ≡ true → b ≡ true) → (b ≡ true → a ≡ true) → a ≡ b
same_test_lem true b f g = sym (f refl)
same_test_lem false true f g = g refl
same_test_lem false false f g = refl

pub same_list_lem : (xs ys : List ℕ) → same_list xs ys ≡ true → xs ≡ ys
same_list_lem [] [] t = refl
same_list_lem [] (y ∷ ys) t = cc
same_list_lem (x ∷ xs) [] t = cc
same_list_lem (x ∷ xs) (y ∷ ys) t =
    ap₂ ◌∷◌ (eqb-true x y (and_left (eqb x y) (same_list xs ys) t)) (same_list_lem xs ys (and_right (eqb x y) (same_list xs ys) t))

pub same_list_refl : (xs : List ℕ) → same_list xs xs ≡ true
same_list_refl [] = refl
same_list_refl (x ∷ xs) = rw (eq-eqb x x refl) (same_list_refl xs)

-- a implies b
abbrev pub imp : Bool → Bool → Bool
imp true b = b
imp false b = true

pub imp_sound : (a b : Bool) → T (imp a b) → T a → T b
imp_sound true b t h = t
imp_sound false b t h = absurd h
