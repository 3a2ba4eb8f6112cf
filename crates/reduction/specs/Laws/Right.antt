-- Cutting commutes with a signed permutation on the right: it takes the same generators, and leaves what it left times the permutation.
use Rattle.std.specs.Prelude.{◌≡◌, true, ℤ, pos}
use Rattle.std.proofs.Math.Path.{refl, ap, ap₂}
use Rattle.std.proofs.Common.{sym, ◌∙◌, arith}
use mathlib.Core.List.{List, ◌∷◌}
use Prim.Native.Nat.{ℕ, zero, suc, ◌≤◌, ◌<◌}
use Rattle.matrix.specs.Matrix.{Matrix, Same, product, transpose, scaled, entry, listed}
use Rattle.matrix.specs.Operator.{operator, times_operator, SameOperator, Orthogonal, Reduced}
use Rattle.matrix.specs.Array.{row_mask, least_form}
use Rattle.matrix.specs.Laws.Integer.{*ℤ-cancel-l, pos_nz}
use Rattle.matrix.specs.Laws.Matrix.{product_cong, product_assoc, product_scaled_l, same_refl}
use Rattle.matrix.specs.Laws.Operator.{same_operator_refl, same_operator_sym, same_operator_trans, same_operator_of, times_same, times_orthogonal, same_orthogonal}
use Rattle.matrix.specs.Laws.Array.{entry_listed, length_listed, listed_cong, least_form_lem, least_orthogonal, same_least_form}
use Rattle.matrix.specs.Laws.Right.{masks_right, least_right}
use Rattle.residue.specs.Generator.{generator, fits}
use Rattle.residue.specs.Laws.Generator.{fits_cong, first_fit_cong}
use Rattle.grouping.proofs.Grouping.{grouped_rows}
use Rattle.reduction.specs.Reduction.{cut, chosen, step, generators, remainder, count, taken, remaining}
use Rattle.reduction.specs.Laws.Step.{doubled}
use Rattle.reduction.specs.Laws.NormalForm.{step_same, step_orthogonal, step_reduced}

-- an array times a matrix on its right
abbrev pub times_right : List ℤ → Matrix → List ℤ
times_right m D = listed (product 6 (entry m) D)

module _ (D : Matrix) (d : Orthogonal (operator 0 D)) where
  right_same : (k : ℕ) (m : List ℤ) → SameOperator (times_operator (operator k (entry m)) (operator 0 D)) (operator k (entry (times_right m D)))
  right_same k m =
      same_operator_of (times_operator (operator k (entry m)) (operator 0 D)) (operator k (entry (times_right m D))) (omega arith)
      (λ i j hi hj. sym (entry_listed (product 6 (entry m) D) i j hi hj))

  right_orthogonal : (k : ℕ) (m : List ℤ) → Orthogonal (operator k (entry m)) → Orthogonal (operator k (entry (times_right m D)))
  right_orthogonal k m o = same_orthogonal (right_same k m) (times_orthogonal o d)

  right_chosen : (m : List ℤ) → chosen (times_right m D) ≡ chosen m
  right_chosen m = first_fit_cong (row_mask (entry (times_right m D))) (row_mask (entry m)) (masks_right D d (entry m))

  -- one cut: what is left, twice over, is the generator's inverse times the matrix, whatever stands on the right
  pub right_step : (k : ℕ) (m : List ℤ) → Orthogonal (operator (suc k) (entry m)) → Reduced (operator (suc k) (entry m)) → step (times_right m D) ≡ times_right (step m) D
  right_step k m o r = ap (λ x. listed (cut x (entry (times_right m D)))) (right_chosen m) ∙ listed_cong (cut g (entry (times_right m D))) (product 6 (entry (step m)) D) here
    where
      g : ℕ
      g = chosen m

      low : 1 ≤ g
      low = (grouped_rows k (entry m) o r).fit.from

      high : g ≤ 15
      high = let v : g < 16 = (grouped_rows k (entry m) o r).fit.below in omega arith

      fit : fits (row_mask (entry m)) g ≡ true
      fit = (grouped_rows k (entry m) o r).fit.holds

      fit_right : fits (row_mask (entry (times_right m D))) g ≡ true
      fit_right = fits_cong (row_mask (entry (times_right m D))) (row_mask (entry m)) (masks_right D d (entry m)) g low high ∙ fit

      twice : Same 6 (scaled (pos 2) (cut g (entry (times_right m D)))) (scaled (pos 2) (product 6 (cut g (entry m)) D))
      twice i j hi hj =
          let G = transpose (generator g) in
          sym (doubled g low high (entry (times_right m D)) fit_right i j hi hj)
          ∙ product_cong (same_refl 6 G) (entry_listed (product 6 (entry m) D)) i j hi hj
          ∙ ap (λ X. X i j) (sym (product_assoc 6 G (entry m) D))
          ∙ product_cong (doubled g low high (entry m) fit) (same_refl 6 D) i j hi hj
          ∙ ap (λ X. X i j) (product_scaled_l 6 (pos 2) (cut g (entry m)) D)

      here : Same 6 (cut g (entry (times_right m D))) (product 6 (entry (step m)) D)
      here i j hi hj =
          *ℤ-cancel-l (cut g (entry (times_right m D)) i j) (product 6 (cut g (entry m)) D i j) (pos 2) (pos_nz 2 (omega arith)) (twice i j hi hj)
          ∙ product_cong (λ i j hi hj. sym (step_same k m o r i j hi hj)) (same_refl 6 D) i j hi hj

  -- the whole cutting of a reduced pair
  right_generators : (k : ℕ) (m : List ℤ) → Orthogonal (operator k (entry m)) → Reduced (operator k (entry m)) → generators k (times_right m D) ≡ generators k m
  unfolding generators
  right_generators zero m o r = refl
  right_generators (suc k) m o r =
      ap₂ ◌∷◌ (right_chosen m) (ap (generators k) (right_step k m o r) ∙ right_generators k (step m) (step_orthogonal k m o r) (step_reduced k m o r))

  right_remainder : (k : ℕ) (m : List ℤ) → Orthogonal (operator k (entry m)) → Reduced (operator k (entry m)) → remainder k (times_right m D) ≡ times_right (remainder k m) D
  unfolding remainder
  right_remainder zero m o r = refl
  right_remainder (suc k) m o r = ap (remainder k) (right_step k m o r) ∙ right_remainder k (step m) (step_orthogonal k m o r) (step_reduced k m o r)

-- ---- of any orthogonal pair

module _ (D : Matrix) (d : Orthogonal (operator 0 D)) (k : ℕ) (m : List ℤ) (o : Orthogonal (operator k (entry m))) where
  pub least_times : least_form k (times_right m D) ≡ record { exponent = (least_form k m).exponent; matrix = times_right (least_form k m).matrix D }
  least_times =
      let l = least_form k m in
      let f = least_form_lem k m in
      same_least_form k l.exponent (times_right m D) (times_right l.matrix D) (length_listed (product 6 (entry m) D)) (length_listed (product 6 (entry l.matrix) D))
      (right_orthogonal D d k m o) (right_orthogonal D d l.exponent l.matrix (least_orthogonal k m o))
      (same_operator_trans (same_operator_sym (right_same D d k m)) (same_operator_trans (times_same f.same (same_operator_refl (operator 0 D))) (right_same D d l.exponent l.matrix)))
      ∙ least_right D d l.exponent (entry l.matrix) f.reduced

  pub count_right : count k (times_right m D) ≡ count k m
  count_right = ap (λ l. l.exponent) least_times

  pub taken_right : taken k (times_right m D) ≡ taken k m
  taken_right = ap (λ l. generators l.exponent l.matrix) least_times ∙ right_generators D d (least_form k m).exponent (least_form k m).matrix (least_orthogonal k m o) (least_form_lem k m).reduced

  pub remaining_right : remaining k (times_right m D) ≡ times_right (remaining k m) D
  remaining_right = ap (λ l. remainder l.exponent l.matrix) least_times ∙ right_remainder D d (least_form k m).exponent (least_form k m).matrix (least_orthogonal k m o) (least_form_lem k m).reduced
