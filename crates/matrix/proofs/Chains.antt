-- What a chain of iterator methods answers, as the tests and lists of specs/Range.antt.
use mathlib.Core.Path.{◌≡◌, refl, sym, ap, ap₂, ◌∙◌}
use Prim.Native.Nat.{ℕ, zero, suc, ◌+◌, ◌<◌, ◌≤◌}
use native.Mathlib.Numerals.{add-one}
use native.Mathlib.Omega.{arith}
use mathlib.Core.Bool.{Bool, true, false, not, cond, ◌&&◌, ◌||◌}
use mathlib.Core.List.{List, [], ◌∷◌}
use denote.Param.Members.{Mut}
use lib.Dec.{ltb}
use lib.ListN.{length, get_or}
use borrow.Author.Tests.{lt-ltb, le-ltb}
use Rattle.std.specs.Fn.{Called}
use Rattle.std.specs.Array.{IsFromFnResult, IsFromFnResultFrom}
use Rattle.std.specs.List.{list_all, list_any, position_or_len, range_with_len}
use Rattle.std.specs.Option.{unwrap_or}
use Rattle.std.proofs.Common.{Option, Some, None}
use Rattle.std.proofs.Math.Decide.{dec_lt}
use Rattle.matrix.specs.Range.{every_from, first_from, tabulate}
use Rattle.matrix.specs.Laws.Range.{tabulate_is}

-- `all` on a range
pub every_in : (f : ℕ → Bool) (a n : ℕ) → list_all f (range_with_len a n) ≡ every_from f a n
unfolding every_from
every_in f a zero = refl
every_in f a (suc n) = rw add-one (ap (λ t. f a && t) (every_in f (suc a) n))

-- f at the indices from a on is p at the elements of xs
module _ {A : Type 0} (f : ℕ → Bool) (p : A → Bool) (d : A) where
  abbrev pub Along : ℕ → List A → Type 0
  Along a xs = (i : ℕ) → i < length xs → f (a + i) ≡ p (get_or xs i d)

  head_along : (a : ℕ) (x : A) (xs : List A) → Along a (x ∷ xs) → f a ≡ p x
  head_along a x xs h = let e : a + 0 ≡ a = omega arith in ap f (sym e) ∙ h 0 (omega arith)

  tail_along : (a : ℕ) (x : A) (xs : List A) → Along a (x ∷ xs) → Along (suc a) xs
  tail_along a x xs h i u = let s : suc a + i ≡ a + suc i = omega arith in ap f s ∙ h (suc i) (omega arith)

  -- `all`
  pub every_place : (a : ℕ) (xs : List A) → Along a xs → list_all p xs ≡ every_from f a (length xs)
  unfolding every_from
  every_place a [] h = refl
  every_place a (x ∷ xs) h = ap₂ ◌&&◌ (sym (head_along a x xs h)) (every_place (suc a) xs (tail_along a x xs h))

  -- `position`
  pub first_place : (a : ℕ) (xs : List A) → Along a xs → a + position_or_len p xs ≡ first_from f a (length xs)
  unfolding first_from
  first_place a [] h = omega arith
  first_place a (x ∷ xs) h = rw (head_along a x xs h, ← first_place (suc a) xs (tail_along a x xs h)) (go (p x))
    where
      go : (b : Bool) → a + cond (not b) (1 + position_or_len p xs) 0 ≡ cond b a (suc a + position_or_len p xs)
      go true = omega arith
      go false = omega arith

  -- `any`
  pub some_place : (a : ℕ) (xs : List A) → Along a xs → list_any p xs ≡ ltb (first_from f a (length xs)) (a + length xs)
  unfolding first_from
  some_place a [] h = sym (le-ltb a (a + 0) (omega arith))
  some_place a (x ∷ xs) h =
      let s : suc a + length xs ≡ a + suc (length xs) = omega arith in
      rw (head_along a x xs h) (go (p x) (rw s at (some_place (suc a) xs (tail_along a x xs h))))
    where
      go : (b : Bool) → list_any p xs ≡ ltb (first_from f (suc a) (length xs)) (a + suc (length xs)) → (b || list_any p xs) ≡ ltb (cond b a (first_from f (suc a) (length xs))) (a + suc (length xs))
      go true e = sym (lt-ltb a (a + suc (length xs)) (omega arith))
      go false e = e

-- the place that `position` gives, where the length is answered if there is none
pub place_or : (r : Option ℕ) (i n : ℕ) → i ≤ n → r ≡ cond (ltb i n) (Some i) None → unwrap_or r n ≡ i
place_or r i n h e = elim (dec_lt i n) [ yes l ↦ rw (e, lt-ltb i n l) refl | no l ↦ rw (e, le-ltb i n (omega arith)) (omega arith) ]

-- `from_fn`, by calls that compute t and change nothing
module _ {F A : Type 0} {g : Mut F (ℕ × Unit {0}) A} (f : F) (t : ℕ → A) (d : A) (ys : List A) (k : (x : ℕ) (y : A) (q : F) → Called g f (x, tt) y q → (q ≡ f) × (y ≡ t x)) where
  made_from : (a n : ℕ) → IsFromFnResultFrom g f ys a n → (i : ℕ) → i < n → get_or ys (a + i) d ≡ t (a + i)
  made_from a zero e i h = absurd (omega arith)
  made_from a (suc n) (q, y, at, call, rest) zero h = let z : a + 0 ≡ a = omega arith in rw z (at.1 d ∙ (k a y q call).1)
  made_from a (suc n) (q, y, at, call, rest) (suc i) h =
      let z : a + suc i ≡ a + 1 + i = omega arith in
      rw z (made_from (a + 1) n (rw (k a y q call).0 at rest) i (omega arith))

  pub made : (n : ℕ) → IsFromFnResult g f ys n → ys ≡ tabulate t 0 n
  made n h = tabulate_is t n d ys h.long (λ i l. let z : 0 + i ≡ i = omega arith in rw z at (made_from 0 n h.each i l))
