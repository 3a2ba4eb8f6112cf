-- The products on the right are what their entries say.
use Rattle.std.specs.Prelude.{◌≡◌, refl, Bool, true, false, cond, ◌&&◌, List, [], ◌∷◌, ℕ, suc, ◌<◌, ◌≤◌, T, ℤ, pos, negsuc, neg_ℤ, ◌+ℤ◌, ◌-ℤ◌, ◌*ℤ◌, get_or}
use Rattle.std.proofs.Common.{ap, ◌∙◌}
use Rattle.std.proofs.Math.Dec.{ltb, ltb→lt}
use Rattle.matrix.specs.Range.{sum, every_from, every}
use Rattle.matrix.specs.Integer.{equals}
use Rattle.matrix.specs.Matrix.{Matrix, Same, δ, product}
use Rattle.matrix.specs.Array.{everywhere}
use Rattle.matrix.specs.Laws.Test.{left, right, T_true, true_T}
use Rattle.matrix.specs.Laws.Integer.{equals_eq}
use Rattle.matrix.specs.Laws.Ring.{var, num, :neg, ◌:+◌, ◌:-◌, ◌:*◌, ring}
use Rattle.matrix.specs.Laws.Range.{every_sound}
use Rattle.matrix.specs.Laws.Sum.{sum_cong, sum_linear, sum_δ_r}
use Rattle.matrix.specs.Laws.Array.{everywhere_sound}
use Rattle.clifford.specs.Columns.{columns_matrix, row_of, is_minus}
use Rattle.clifford.specs.Laws.Columns.{Permutation, entry_of, row_lt, column_entry_lem}
use Rattle.residue.specs.Generator.{table, place, generator}
use Rattle.residue.specs.Laws.Table.{numbered}
use Rattle.times.specs.Times.{partners, partner, pair_entry, signed_entry}

-- 1 or −1
abbrev sign : ℕ → ℕ → ℤ
sign c p = cond (ltb c p) (pos 1) (negsuc 0)

is_pair : ℕ → Bool
is_pair g = every 6 (λ c. ltb (partner g c) 6) && everywhere (λ t c. equals (generator g t c) (pos 1 *ℤ δ t c +ℤ sign c (partner g c) *ℤ δ t (partner g c)))

all_pairs : every 15 (λ a. is_pair (suc a)) ≡ true
unfolding every_from is_pair partners generator place table sum δ
all_pairs = refl

module _ (g : ℕ) (l : 1 ≤ g) (u : g ≤ 15) where
  is_pair_lem : T (is_pair g)
  is_pair_lem = numbered is_pair 15 all_pairs g l u

  pub partner_lt : (c : ℕ) → c < 6 → partner g c < 6
  unfolding is_pair
  partner_lt c h = ltb→lt _ 6 (true_T (every_sound 6 (λ c. ltb (partner g c) 6) (T_true _ (left (every 6 (λ c. ltb (partner g c) 6)) _ is_pair_lem)) c h))

  generator_entry : (t c : ℕ) → t < 6 → c < 6 → generator g t c ≡ pos 1 *ℤ δ t c +ℤ sign c (partner g c) *ℤ δ t (partner g c)
  unfolding is_pair
  generator_entry t c ht hc =
      equals_eq _ _
      (everywhere_sound (λ t c. equals (generator g t c) (pos 1 *ℤ δ t c +ℤ sign c (partner g c) *ℤ δ t (partner g c)))
      (T_true _ (right (every 6 (λ c. ltb (partner g c) 6)) _ is_pair_lem)) t c ht hc)

  pub times_generator : (M : Matrix) → Same 6 (product 6 M (generator g)) (λ r c. pair_entry M r c (partner g c))
  times_generator M r c hr hc =
      let p = partner g c in
      let s = sign c p in
      sum_cong
      (λ t ht. ap (λ x. M r t *ℤ x) (generator_entry t c ht hc)
      ∙ ring (M r t ∷ s ∷ δ t c ∷ δ t p ∷ []) (var 0 :* (num (pos 1) :* var 2 :+ var 1 :* var 3)) (num (pos 1) :* (var 0 :* var 2) :+ var 1 :* (var 0 :* var 3)) refl)
      ∙ sum_linear 6 (pos 1) s (λ t. M r t *ℤ δ t c) (λ t. M r t *ℤ δ t p)
      ∙ rw (sum_δ_r 6 c (λ t. M r t) hc, sum_δ_r 6 p (λ t. M r t) (partner_lt c hc))
      (last (ltb c p) (M r c) (M r p))
    where
      last : (b : Bool) (x y : ℤ) → pos 1 *ℤ x +ℤ cond b (pos 1) (negsuc 0) *ℤ y ≡ cond b (x +ℤ y) (x -ℤ y)
      last true x y = ring (x ∷ y ∷ []) (num (pos 1) :* var 0 :+ num (pos 1) :* var 1) (var 0 :+ var 1) refl
      last false x y = ring (x ∷ y ∷ []) (num (pos 1) :* var 0 :+ num (negsuc 0) :* var 1) (var 0 :- var 1) refl

pub times_columns_lem : (bs : List ℕ) → Permutation bs → (M : Matrix) → Same 6 (product 6 M (columns_matrix bs)) (λ r c. signed_entry M r (get_or bs c 0))
times_columns_lem bs q M r c hr hc =
    let b = get_or bs c 0 in
    let v = q.bytes c hc in
    sum_cong
    (λ t ht. ap (λ x. M r t *ℤ x) (column_entry_lem b v t ht)
    ∙ ring (M r t ∷ entry_of b ∷ δ t (row_of b) ∷ []) (var 0 :* (var 1 :* var 2)) (var 1 :* (var 0 :* var 2) :+ num (pos 0) :* (var 0 :* var 2)) refl)
    ∙ sum_linear 6 (entry_of b) (pos 0) (λ t. M r t *ℤ δ t (row_of b)) (λ t. M r t *ℤ δ t (row_of b))
    ∙ rw (sum_δ_r 6 (row_of b) (λ t. M r t) (row_lt b v))
    (last (is_minus b) (M r (row_of b)))
  where
    last : (t : Bool) (x : ℤ) → cond t (negsuc 0) (pos 1) *ℤ x +ℤ pos 0 *ℤ x ≡ cond t (neg_ℤ x) x
    last true x = ring (x ∷ []) (num (negsuc 0) :* var 0 :+ num (pos 0) :* var 0) (:neg (var 0)) refl
    last false x = ring (x ∷ []) (num (pos 1) :* var 0 :+ num (pos 0) :* var 0) (var 0) refl
