-- Tests at every value of a small type, which antt computes, and that a test which passes says what it tests of each value.
use Rattle.std.specs.Prelude.{◌≡◌, refl, Bool, ◌&&◌, ℕ, zero, suc, ◌+◌}
use Rattle.std.proofs.Math.Path.{fun_ext}
use Rattle.std.proofs.Common.{subst, add-zero}
use Rattle.std.proofs.Math.Bool.{true, false}
use mathlib.Core.List.{List, [], ◌∷◌, map}
use native.Mathlib.Omega.{arith}
use Rattle.std.proofs.Math.ListN.{length}
use Rattle.matrix.specs.Laws.Test.{and_left, and_right}
use Rattle.clifford.specs.Columns.{differs, different}
use Rattle.letter.specs.Laws.Signed.{Axis, e1, e2, e3, e4, e5, e6, Column, col, row_number}

pub implied : (a b : Bool) → (elim a [ true ↦ b | false ↦ true ]) ≡ true → a ≡ true → b ≡ true
implied true b t h = t
implied false b t h = cc

-- ---- signs, axes and columns

unfoldable pub every_bool : (Bool → Bool) → Bool
every_bool f = f true && f false

pub every_bool_lem : (f : Bool → Bool) → every_bool f ≡ true → (s : Bool) → f s ≡ true
unfolding every_bool
every_bool_lem f t true = and_left (f true) (f false) t
every_bool_lem f t false = and_right (f true) (f false) t

unfoldable pub every_axis : (Axis → Bool) → Bool
every_axis f = f e1 && (f e2 && (f e3 && (f e4 && (f e5 && f e6))))

every_axis_lem : (f : Axis → Bool) → every_axis f ≡ true → (a : Axis) → f a ≡ true
unfolding every_axis
every_axis_lem f t e1 = and_left (f e1) _ t
every_axis_lem f t e2 = and_left (f e2) _ (and_right (f e1) _ t)
every_axis_lem f t e3 = and_left (f e3) _ (and_right (f e2) _ (and_right (f e1) _ t))
every_axis_lem f t e4 = and_left (f e4) _ (and_right (f e3) _ (and_right (f e2) _ (and_right (f e1) _ t)))
every_axis_lem f t e5 = and_left (f e5) _ (and_right (f e4) _ (and_right (f e3) _ (and_right (f e2) _ (and_right (f e1) _ t))))
every_axis_lem f t e6 = and_right (f e5) _ (and_right (f e4) _ (and_right (f e3) _ (and_right (f e2) _ (and_right (f e1) _ t))))

unfoldable pub every_column : (Column → Bool) → Bool
every_column f = every_bool (λ s. every_axis (λ a. f (col s a)))

pub every_column_lem : (f : Column → Bool) → every_column f ≡ true → (c : Column) → f c ≡ true
unfolding every_column
every_column_lem f t (col s a) = every_axis_lem (λ a. f (col s a)) (every_bool_lem (λ s. every_axis (λ a. f (col s a))) t s) a

-- ---- a sign at each axis

abbrev pub by_six : {X : Type 0} → X → X → X → X → X → X → Axis → X
by_six a b c d e f e1 = a
by_six a b c d e f e2 = b
by_six a b c d e f e3 = c
by_six a b c d e f e4 = d
by_six a b c d e f e5 = e
by_six a b c d e f e6 = f

pub by_six_lem : {X : Type 0} (h : Axis → X) → by_six (h e1) (h e2) (h e3) (h e4) (h e5) (h e6) ≡ h
by_six_lem {X} h = fun_ext at
  where
    at : (a : Axis) → by_six (h e1) (h e2) (h e3) (h e4) (h e5) (h e6) a ≡ h a
    at e1 = refl
    at e2 = refl
    at e3 = refl
    at e4 = refl
    at e5 = refl
    at e6 = refl

unfoldable pub every_signs : ((Axis → Bool) → Bool) → Bool
every_signs f = every_bool (λ a. every_bool (λ b. every_bool (λ c. every_bool (λ d. every_bool (λ e. every_bool (λ g. f (by_six a b c d e g)))))))

pub every_signs_lem : (f : (Axis → Bool) → Bool) → every_signs f ≡ true → (σ : Axis → Bool) → f σ ≡ true
unfolding every_signs
every_signs_lem f t σ =
    subst (λ x. f x ≡ true) (by_six_lem σ)
    (every_bool_lem (λ z. f (by_six (σ e1) (σ e2) (σ e3) (σ e4) (σ e5) z))
    (every_bool_lem (λ y. every_bool (λ z. f (by_six (σ e1) (σ e2) (σ e3) (σ e4) y z)))
    (every_bool_lem (λ x. every_bool (λ y. every_bool (λ z. f (by_six (σ e1) (σ e2) (σ e3) x y z))))
    (every_bool_lem (λ w. every_bool (λ x. every_bool (λ y. every_bool (λ z. f (by_six (σ e1) (σ e2) w x y z)))))
    (every_bool_lem (λ v. every_bool (λ w. every_bool (λ x. every_bool (λ y. every_bool (λ z. f (by_six (σ e1) v w x y z))))))
    (every_bool_lem (λ u. every_bool (λ v. every_bool (λ w. every_bool (λ x. every_bool (λ y. every_bool (λ z. f (by_six u v w x y z))))))) t (σ e1)) (σ e2)) (σ e3)) (σ e4)) (σ e5)) (σ e6))

-- ---- different axes

-- whether f holds at each list of n axes in front of l that all differ
unfoldable pub arrangements : ℕ → (List Axis → Bool) → List Axis → Bool
arrangements zero f l = f l
arrangements (suc n) f l = every_axis (λ a. elim (differs (row_number a) (map row_number l)) [ true ↦ arrangements n f (a ∷ l) | false ↦ true ])

module _ (f : List Axis → Bool) where
  one_more : (n : ℕ) (a : Axis) (l : List Axis) → arrangements (suc n) f l ≡ true → differs (row_number a) (map row_number l) ≡ true → arrangements n f (a ∷ l) ≡ true
  unfolding arrangements
  one_more n a l t d =
      implied (differs (row_number a) (map row_number l)) (arrangements n f (a ∷ l))
      (every_axis_lem (λ a. elim (differs (row_number a) (map row_number l)) [ true ↦ arrangements n f (a ∷ l) | false ↦ true ]) t a) d

  from : (n : ℕ) (l : List Axis) → arrangements (n + length l) f [] ≡ true → different (map row_number l) ≡ true → arrangements n f l ≡ true
  from n [] t d = subst (λ k. arrangements k f [] ≡ true) (add-zero n) t
  from n (a ∷ l) t d =
      one_more n a l
      (from (suc n) l (subst (λ k. arrangements k f [] ≡ true) (omega arith) t)
      (and_right (differs (row_number a) (map row_number l)) (different (map row_number l)) d))
      (and_left (differs (row_number a) (map row_number l)) (different (map row_number l)) d)

  pub every_arrangement : (l : List Axis) → arrangements (length l) f [] ≡ true → different (map row_number l) ≡ true → f l ≡ true
  unfolding arrangements
  every_arrangement l t d = let e : length l ≡ 0 + length l = omega arith in from 0 l (subst (λ k. arrangements k f [] ≡ true) e t) d
