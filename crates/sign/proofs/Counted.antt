-- What `filter` and `count` answer, as a count of the definitions.
use mathlib.Core.Path.{◌≡◌, sym}
use Prim.Native.Nat.{ℕ, ◌+◌, ◌≤◌}
use native.Mathlib.Omega.{arith}
use mathlib.Core.Bool.{Bool, true, false, cond}
use mathlib.Core.List.{List, [], ◌∷◌}
use lib.ListN.{length}
use Rattle.std.specs.List.{filter}

module _ {A : Type 0} (p : A → Bool) (F : List A → ℕ) (none : F [] ≡ 0) (more : (x : A) (xs : List A) → F (x ∷ xs) ≡ cond (p x) 1 0 + F xs) where
  pub counted : (xs : List A) → (length (filter p xs) ≡ F xs) × (F xs ≤ length xs)
  counted [] = (sym none, omega arith)
  counted (x ∷ xs) = let (e, u) = counted xs in rw (more x xs) (go (p x) e u)
    where
      go : (b : Bool) → length (filter p xs) ≡ F xs → F xs ≤ length xs → (length (cond b (x ∷ filter p xs) (filter p xs)) ≡ cond b 1 0 + F xs) × (cond b 1 0 + F xs ≤ length (x ∷ xs))
      go true e u = (omega arith, omega arith)
      go false e u = (omega arith, omega arith)
