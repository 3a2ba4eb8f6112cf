-- A loop over the numbers from 1 to 15 that writes the lines of the sheets that each number has.
use Rattle.std.specs.Prelude.{◌≡◌}
use Rattle.std.proofs.Math.Path.{refl, sym, ap}
use Rattle.std.proofs.Common.{◌∙◌, subst, add-zero, mul-le-mul_right}
use mathlib.Core.List.{List, [], ◌∷◌, ◌++◌, flat_map, append_assoc, append-nil}
use Prim.Native.Nat.{ℕ, zero, suc, ◌+◌, ◌*◌, ◌-◌, ◌≤◌, ◌<◌}
use native.Mathlib.Omega.{arith}
use Rattle.std.proofs.Math.ListN.{length, length-append}
use Rattle.matrix.specs.Range.{tabulate}
use Rattle.text.specs.Writer.{RoomFor, Writes}
use Rattle.text.specs.declared.Writer.{Writer}
use Rattle.text.specs.Laws.Writer.{writes_none, writes_as, room_after, writes_append}
use Rattle.list_short.specs.Output.{short_line, lines_of}

-- ---- lists put together

module _ {A B : Type 0} (f : A → List B) where
  pub parts_append : (xs ys : List A) → flat_map f (xs ++ ys) ≡ flat_map f xs ++ flat_map f ys
  unfolding flat_map
  parts_append [] ys = refl
  parts_append (x ∷ xs) ys = ap (λ l. f x ++ l) (parts_append xs ys) ∙ sym (append_assoc (f x) (flat_map f xs) (flat_map f ys))

pub parts_parts : {A B C : Type 0} (f : B → List C) (g : A → List B) (l : List A) → flat_map f (flat_map g l) ≡ flat_map (λ a. flat_map f (g a)) l
unfolding flat_map
parts_parts f g [] = refl
parts_parts f g (a ∷ l) = parts_append f (g a) (flat_map g l) ∙ ap (λ r. flat_map f (g a) ++ r) (parts_parts f g l)

range_next : (a k : ℕ) → tabulate (λ x. x) a (suc k) ≡ tabulate (λ x. x) a k ++ ((a + k) ∷ [])
unfolding tabulate
range_next a zero = ap (λ x. x ∷ []) (sym (add-zero a))
range_next a (suc k) = ap (λ l. a ∷ l) (range_next (suc a) k ∙ ap (λ x. tabulate (λ x. x) (suc a) k ++ (x ∷ [])) (let e : suc a + k ≡ a + suc k = omega arith in e))

-- ---- the lines below a number

-- the lines for the numbers below g, where each number has the sheets that F says
unfoldable pub lines_below : (ℕ → List (List ℕ)) → ℕ → List ℕ
lines_below F g = lines_of (flat_map F (tabulate (λ x. x) 1 (g - 1)))

module _ (F : ℕ → List (List ℕ)) where
  none_below : [] ≡ lines_below F 1
  unfolding lines_below lines_of flat_map tabulate
  none_below = refl

  -- a number more
  next_below : (g : ℕ) → 1 ≤ g → lines_below F g ++ lines_of (F g) ≡ lines_below F (g + 1)
  unfolding lines_below lines_of flat_map
  next_below g h =
      let r = tabulate (λ x. x) 1 (g - 1) in
      let e : 1 + (g - 1) ≡ g = omega arith in
      let n : suc (g - 1) ≡ g + 1 - 1 = omega arith in
      sym (ap (λ k. flat_map short_line (flat_map F (tabulate (λ x. x) 1 k))) (sym n)
      ∙ ap (λ l. flat_map short_line (flat_map F l)) (range_next 1 (g - 1) ∙ ap (λ x. r ++ (x ∷ [])) e)
      ∙ ap (flat_map short_line) (parts_append F r (g ∷ []) ∙ ap (λ l. flat_map F r ++ l) (append-nil (F g)))
      ∙ parts_append short_line (flat_map F r) (F g))

  -- how long they are, where each has at most b bytes
  pub below_most : (b : ℕ) → ((g : ℕ) → length (lines_of (F g)) ≤ b) → (g : ℕ) → length (lines_below F g) ≤ (g - 1) * b
  unfolding lines_below lines_of flat_map tabulate
  below_most b m g = go (g - 1) 1
    where
      go : (k a : ℕ) → length (flat_map short_line (flat_map F (tabulate (λ x. x) a k))) ≤ k * b
      go zero a = omega arith
      go (suc k) a =
          let r = flat_map F (tabulate (λ x. x) (suc a) k) in
          let e = ap length (parts_append short_line (F a) r) ∙ length-append (flat_map short_line (F a)) (flat_map short_line r) in
          let s = go k (suc a) in
          let t = m a in
          omega arith

-- ---- the loop

-- the numbers below g are done: their lines are written
pub record Begun (F : ℕ → List (List ℕ)) (old : Writer) (g : ℕ) (new : Writer) : Type 0 where
  pub from : 1 ≤ g
  pub most : g ≤ 16
  pub lines : Writes (lines_below F g) old new

pub begun_none : (F : ℕ → List (List ℕ)) (w : Writer) → Begun F w 1 w
begun_none F w = record { from = omega arith; most = omega arith; lines = writes_as (writes_none w) (none_below F) }

-- one number more, where each has at most b bytes
module _ {F : ℕ → List (List ℕ)} {old new : Writer} (b : ℕ) (m : (g : ℕ) → length (lines_of (F g)) ≤ b) (r : RoomFor (15 * b) old) {g : ℕ} (h : g ≤ 15) (s : Begun F old g new) where
  fits : old.at + length (lines_below F g) + b ≤ length old.out.now
  fits =
      let l = below_most F b m g in
      let u : (g - 1) * b ≤ 14 * b = mul-le-mul_right b (omega arith) in
      omega arith

  pub begun_room : RoomFor b new
  begun_room = room_after s.lines b fits

  pub begun_next : {last : Writer} → Writes (lines_of (F g)) new last → Begun F old (g + 1) last
  begun_next a =
      let f = fits in
      record { from = omega arith; most = omega arith; lines = writes_as (writes_append s.lines (omega arith) a) (next_below F g s.from) }

-- after the last number
pub begun_all : {F : ℕ → List (List ℕ)} {old new : Writer} {g : ℕ} → Begun F old g new → 15 < g → Writes (lines_below F 16) old new
begun_all {F} {old} {new} {g} s h = let u = s.most in let e : g ≡ 16 = omega arith in subst (λ x. Writes (lines_below F x) old new) e s.lines
