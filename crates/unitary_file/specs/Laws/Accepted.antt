-- The tests for the entries are passed by unitaries and by nothing else: a unitary's entries are all small.
use Rattle.std.specs.Prelude.{◌≡◌, refl, Bool, false, not, cond, ◌||◌, List, ℕ, ◌+◌, ◌*◌, ◌/◌, ◌%◌, ◌^◌, ◌<◌, ◌≤◌, eqb, ltb, pos, nat_abs, ◌+ℤ◌, ◌*ℤ◌, length}
use Rattle.std.proofs.Math.Path.{sym, ap, ap₂}
use Rattle.std.proofs.Common.{◌∙◌}
use Rattle.std.proofs.Math.Bool.{true}
use native.Mathlib.Omega.{arith}
use borrow.Author.Tests.{eqb-true, ltb-false, le-leb}
use Rattle.std.specs.Int.Signed.{le_z}
use Rattle.matrix.specs.Matrix.{δ}
use Rattle.matrix.specs.Laws.Integer.{square_size, *ℤ-unit-r}
use Rattle.matrix.specs.Laws.Range.{every_sound, every_complete}
use Rattle.matrix.specs.Laws.Sum.{term_le_sum, δ_same}
use Rattle.file.specs.File.{file_exponent}
use Rattle.gaussian.specs.Gaussian.{real, norm_of, product, adjoint}
use Rattle.gaussian.specs.Laws.Gaussian.{real-⊗, times_conj}
use Rattle.gaussian.specs.Laws.Matrix.{sum_cong, real_sum, equals_sound, equals_complete}
use Rattle.unitary.specs.Unitary.{Quotient, Unitary}
use Rattle.unitary_file.specs.Unitary.{entries_refusal, is_small, is_unitary, largest_unitary, unitary_at, unitary_length, unitary_of, unitary_refusal}

module _ (U : Quotient) where
  abbrev k : ℕ
  k = U.exponent

  abbrev test : ℕ → ℕ → Bool
  test i j = unitary_at (pos (2 ^ k)) U.matrix i j

  unitary_sound : is_unitary k U.matrix ≡ true → Unitary U
  unfolding is_unitary
  unitary_sound e = record { rows = λ i j hi hj. equals_sound _ _ (at i j hi hj) ∙ sym (real-⊗ (pos (2 ^ k)) (δ i j)) }
    where
      at : (i j : ℕ) → i < 4 → j < 4 → test i j ≡ true
      at i j hi hj =
          let row : (4 * i + j) / 4 ≡ i = omega arith in
          let column : (4 * i + j) % 4 ≡ j = omega arith in
          ap₂ test (sym row) (sym column) ∙ every_sound 16 (λ p. test (p / 4) (p % 4)) e (4 * i + j) (omega arith)

  product_is : Unitary U → (i j : ℕ) → i < 4 → j < 4 → product 4 U.matrix (adjoint U.matrix) i j ≡ real (pos (2 ^ k) *ℤ δ i j)
  product_is o i j hi hj = o.rows i j hi hj ∙ real-⊗ (pos (2 ^ k)) (δ i j)

  unitary_complete : Unitary U → is_unitary k U.matrix ≡ true
  unfolding is_unitary
  unitary_complete o = every_complete 16 (λ p. test (p / 4) (p % 4)) (λ p h. equals_complete (product_is o (p / 4) (p % 4) (omega arith) (omega arith)))

  -- an entry's squared size is a term of the product of its row with itself
  abbrev size : ℕ → ℕ → ℕ
  size i j = nat_abs (U.matrix i j).re * nat_abs (U.matrix i j).re + nat_abs (U.matrix i j).im * nat_abs (U.matrix i j).im

  size_is : (i j : ℕ) → norm_of (U.matrix i j) ≡ pos (size i j)
  unfolding norm_of
  size_is i j = ap₂ (λ x y. x +ℤ y) (square_size (U.matrix i j).re) (square_size (U.matrix i j).im)

  size_le : Unitary U → (i j : ℕ) → i < 4 → j < 4 → size i j ≤ 2 ^ k
  size_le o i j hi hj =
      term_le_sum 4 (size i) j hj (2 ^ k)
      (ap (λ z. z.re)
      (sym (real_sum 4 (λ c. pos (size i c))) ∙ sum_cong (λ c hc. sym (times_conj (U.matrix i c) ∙ ap real (size_is i c))) ∙ product_is o i i hi hi)
      ∙ ap (λ x. pos (2 ^ k) *ℤ x) (δ_same i) ∙ *ℤ-unit-r (pos (2 ^ k)))

  small_complete : Unitary U → is_small k U.matrix ≡ true
  unfolding is_small
  small_complete o =
      every_complete 16 (λ p. le_z (norm_of (U.matrix (p / 4) (p % 4))) (pos (2 ^ k)))
      (λ p h. ap (λ x. le_z x (pos (2 ^ k))) (size_is (p / 4) (p % 4)) ∙ le-leb (size (p / 4) (p % 4)) (2 ^ k) (size_le o (p / 4) (p % 4) (omega arith) (omega arith)))

  pub entries_sound : entries_refusal U ≡ 0 → Unitary U
  entries_sound e = go (is_small k U.matrix) (is_unitary k U.matrix) refl e
    where
      go : (a b : Bool) → is_unitary k U.matrix ≡ b → ◌≡◌ {A = ℕ} (cond (not a) 18 (cond (not b) 19 0)) 0 → Unitary U
      go true true o e = unitary_sound o
      go true false o e = absurd (omega arith)
      go false b o e = absurd (omega arith)

  pub entries_complete : Unitary U → entries_refusal U ≡ 0
  entries_complete o = rw (small_complete o, unitary_complete o)

-- 65 bytes that earn no refusal
pub record Accepted (b : List ℕ) : Type 0 where
  pub long : length b ≡ unitary_length
  pub range : file_exponent b ≤ largest_unitary
  pub unitary : Unitary (unitary_of b)

pub accepted : (b : List ℕ) → unitary_refusal b ≡ 0 → Accepted b
unfolding unitary_refusal
accepted b e = go (eqb (length b) unitary_length) refl (ltb largest_unitary (file_exponent b)) refl e
  where
    go : (a : Bool) → eqb (length b) unitary_length ≡ a → (c : Bool) → ltb largest_unitary (file_exponent b) ≡ c → ◌≡◌ {A = ℕ} (cond (not a || c) 17 (entries_refusal (unitary_of b))) 0 → Accepted b
    go true l false r e = record { long = eqb-true _ _ l; range = ltb-false _ _ r; unitary = entries_sound (unitary_of b) e }
    go true l true r e = absurd (omega arith)
    go false l c r e = absurd (omega arith)
