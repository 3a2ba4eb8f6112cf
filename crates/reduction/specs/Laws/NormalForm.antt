-- The whole reduction of an orthogonal operator: exactly as many generators are taken as its least exponent says, a signed permutation remains,
-- and the generators in order times it are the operator.
use Rattle.std.specs.Prelude.{◌≡◌, refl, List, [], ◌∷◌, ◌++◌, ℕ, zero, suc, ◌+◌, ◌*◌, ◌<◌, ◌≤◌, ℤ, pos, ◌*ℤ◌, length, get_or, ◌<ℤ◌}
use Rattle.std.proofs.Common.{sym, ap, ◌∙◌, subst, mul-pos, arith}
use Rattle.matrix.specs.Integer.{Even}
use Rattle.matrix.specs.Matrix.{Matrix, Same, scaled, entry}
use Rattle.matrix.specs.Determinant.{det}
use Rattle.matrix.specs.Operator.{operator, times_operator, SameOperator, Orthogonal, Proper, LeastExponent, Reduced}
use Rattle.matrix.specs.Array.{least_form}
use Rattle.matrix.specs.Laws.Integer.{*ℤ-unit-l, *ℤ-assoc, positive_of_times, times_positive}
use Rattle.matrix.specs.Laws.Matrix.{same_refl, product_cong, product_scaled_r}
use Rattle.matrix.specs.Laws.Determinant.{det_cong}
use Rattle.matrix.specs.Laws.Operator.{same_operator_refl, same_operator_sym, same_operator_trans, same_operator_of, times_same, times_orthogonal, same_orthogonal, same_proper}
use Rattle.matrix.specs.Laws.Array.{entry_listed, least_form_lem, least_orthogonal, least_exponent}
use Rattle.clifford.specs.Columns.{Clifford}
use Rattle.clifford.specs.Laws.Columns.{orthogonal_clifford}
use Rattle.residue.specs.Generator.{generator}
use Rattle.residue.specs.Laws.Generator.{generator_orthogonal}
use Rattle.reduction.specs.Reduction.{cut, chosen, step, generators, remainder, count, taken, remaining, normal_form}
use Rattle.reduction.specs.Laws.Step.{one_step}

-- generator numbers
abbrev pub Numbers : List ℕ → Type 0
Numbers gs = (i : ℕ) → i < length gs → (1 ≤ get_or gs i 0) × (get_or gs i 0 ≤ 15)

pub more_numbers : (g : ℕ) (gs : List ℕ) → (1 ≤ g) × (g ≤ 15) → Numbers gs → Numbers (g ∷ gs)
more_numbers g gs h n zero u = h
more_numbers g gs h n (suc i) u = n i (omega arith)

pub record Taken (k : ℕ) (M : Matrix) (gs : List ℕ) (C : Matrix) : Type 0 where
  -- exactly k generators are taken
  pub exact : length gs ≡ k
  pub numbers : Numbers gs
  -- what remains is a signed permutation
  pub orthogonal : Orthogonal (operator 0 C)
  -- "The operator is their product, in the order taken, times the remaining Clifford"
  pub same : SameOperator (operator k M) (normal_form gs C)
  -- "A cut keeps its sign"
  pub sign : (n : ℕ) × (0 < n) × (det 6 M ≡ pos n *ℤ det 6 C)

-- after a step the array is reduced and orthogonal again, one exponent lower
module _ (k : ℕ) (m : List ℤ) (o : Orthogonal (operator (suc k) (entry m))) (r : Reduced (operator (suc k) (entry m))) where
  pub step_same : Same 6 (entry (step m)) (cut (chosen m) (entry m))
  step_same = entry_listed (cut (chosen m) (entry m))

  step_operator : SameOperator (operator k (cut (chosen m) (entry m))) (operator k (entry (step m)))
  step_operator = same_operator_of _ _ refl (λ i j hi hj. sym (step_same i j hi hj))

  pub step_orthogonal : Orthogonal (operator k (entry (step m)))
  step_orthogonal = same_orthogonal step_operator (one_step k (entry m) o r).orthogonal

  pub step_reduced : Reduced (operator k (entry (step m)))
  step_reduced = record { small = λ e. (one_step k (entry m) o r).reduced.small (λ i j hi hj. subst (λ z. Even z) (step_same i j hi hj) (e i j hi hj)) }

-- ---- a reduction that is under way: n generators are taken

pub remainder_next : (n : ℕ) (m : List ℤ) → remainder (suc n) m ≡ step (remainder n m)
unfolding remainder
remainder_next zero m = refl
remainder_next (suc n) m = remainder_next n (step m)

pub generators_next : (n : ℕ) (m : List ℤ) → generators (suc n) m ≡ generators n m ++ (chosen (remainder n m) ∷ [])
unfolding generators remainder
generators_next zero m = refl
generators_next (suc n) m = ap (λ gs. chosen m ∷ gs) (generators_next n (step m))

pub length_generators : (n : ℕ) (m : List ℤ) → length (generators n m) ≡ n
unfolding generators
length_generators zero m = refl
length_generators (suc n) m = ap suc (length_generators n (step m))

-- what is left is orthogonal and reduced, n exponents lower
pub under_way : (n k j : ℕ) (m : List ℤ) → k ≡ n + j → Orthogonal (operator k (entry m)) → Reduced (operator k (entry m))
    → Orthogonal (operator j (entry (remainder n m))) × Reduced (operator j (entry (remainder n m)))
unfolding remainder
under_way zero k j m e o r =
    let z : k ≡ j = omega arith in
    (subst (λ x. Orthogonal (operator x (entry m))) z o, subst (λ x. Reduced (operator x (entry m))) z r)
under_way (suc n) zero j m e o r = absurd (omega arith)
under_way (suc n) (suc k) j m e o r = under_way n k j (step m) (omega arith) (step_orthogonal k m o r) (step_reduced k m o r)

-- ---- the whole

pub reduce : (k : ℕ) (m : List ℤ) → Orthogonal (operator k (entry m)) → Reduced (operator k (entry m)) → Taken k (entry m) (generators k m) (entry (remainder k m))
unfolding generators remainder normal_form
reduce zero m o r = record {
  exact = refl;
  numbers = λ i h. absurd (omega arith);
  orthogonal = o;
  same = same_operator_refl (operator 0 (entry m));
  sign = (1, omega arith, sym (*ℤ-unit-l (det 6 (entry m))));
}
reduce (suc k) m o r =
    let s = one_step k (entry m) o r in
    let rest = reduce k (step m) (step_orthogonal k m o r) (step_reduced k m o r) in
    record {
      exact = length_generators (suc k) m;
      numbers = more_numbers (chosen m) (generators k (step m)) s.number rest.numbers;
      orthogonal = rest.orthogonal;
      same = same_operator_trans s.same (times_same (same_operator_refl (operator 1 (generator (chosen m)))) (same_operator_trans (step_operator k m o r) rest.same));
      sign =
          let (n, p, e) = rest.sign in
          (8 * n, mul-pos {m = 8} {n = n} (omega arith) p, s.sign ∙ ap (λ x. pos 8 *ℤ x) (sym (det_cong 6 _ _ (step_same k m o r)) ∙ e) ∙ sym (*ℤ-assoc (pos 8) (pos n) (det 6 (entry (remainder k (step m))))));
    }

-- ---- generators times a matrix

-- the exponent is the number of generators
pub normal_exponent : (gs : List ℕ) (C : Matrix) → (normal_form gs C).exponent ≡ length gs
unfolding normal_form
normal_exponent [] C = refl
normal_exponent (g ∷ gs) C = let e = normal_exponent gs C in omega arith

pub normal_orthogonal : (gs : List ℕ) (C : Matrix) → Numbers gs → Orthogonal (operator 0 C) → Orthogonal (normal_form gs C)
unfolding normal_form
normal_orthogonal [] C n o = o
normal_orthogonal (g ∷ gs) C n o =
    let h = n 0 (omega arith) in
    times_orthogonal (generator_orthogonal g h.0 h.1) (normal_orthogonal gs C (λ i u. n (suc i) (omega arith)) o)

pub normal_cong : (gs : List ℕ) (C D : Matrix) → Same 6 C D → Same 6 (normal_form gs C).matrix (normal_form gs D).matrix
unfolding normal_form
normal_cong [] C D h = h
normal_cong (g ∷ gs) C D h = product_cong (same_refl 6 (generator g)) (normal_cong gs C D h)

pub normal_form_same : (gs : List ℕ) (C D : Matrix) → Same 6 C D → SameOperator (normal_form gs C) (normal_form gs D)
normal_form_same gs C D h = same_operator_of (normal_form gs C) (normal_form gs D) (normal_exponent gs C ∙ sym (normal_exponent gs D)) (normal_cong gs C D h)

-- a factor of the matrix is one of the whole
pub normal_scaled : (gs : List ℕ) (c : ℤ) (C : Matrix) → normal_form gs (scaled c C) ≡ operator (normal_form gs C).exponent (scaled c (normal_form gs C).matrix)
unfolding normal_form
normal_scaled [] c C = refl
normal_scaled (g ∷ gs) c C =
    ap (times_operator (operator 1 (generator g))) (normal_scaled gs c C)
    ∙ ap (operator (1 + (normal_form gs C).exponent)) (product_scaled_r 6 c (generator g) (normal_form gs C).matrix)

-- ---- of any orthogonal pair

pub record Cutting (k : ℕ) (m : List ℤ) : Type 0 where
  -- the count is the number of generators taken, and the least exponent
  pub exact : length (taken k m) ≡ count k m
  pub least : LeastExponent (operator k (entry m)) (count k m)
  pub numbers : Numbers (taken k m)
  -- what remains is a signed permutation, and a Clifford exactly if the operator is proper
  pub orthogonal : Orthogonal (operator 0 (entry (remaining k m)))
  pub clifford : Proper (operator k (entry m)) → Clifford (operator 0 (entry (remaining k m)))
  pub proper : Proper (operator 0 (entry (remaining k m))) → Proper (operator k (entry m))
  -- the generators in order times what remains are the operator
  pub same : SameOperator (operator k (entry m)) (normal_form (taken k m) (entry (remaining k m)))

pub cutting : (k : ℕ) (m : List ℤ) → Orthogonal (operator k (entry m)) → Cutting k m
cutting k m o =
    let l = least_form k m in
    let f = least_form_lem k m in
    let t = reduce l.exponent l.matrix (least_orthogonal k m o) f.reduced in
    let (n, p, e) = t.sign in
    record {
      exact = t.exact;
      least = least_exponent k m o;
      numbers = t.numbers;
      orthogonal = t.orthogonal;
      clifford = λ q. orthogonal_clifford (entry (remaining k m)) t.orthogonal (record { positive = positive_of_times n (det 6 (entry (remaining k m))) (subst (λ z. pos 0 <ℤ z) e (same_proper f.same q).positive) });
      proper = λ q. same_proper (same_operator_sym f.same) (record { positive = subst (λ z. pos 0 <ℤ z) (sym e) (times_positive n (det 6 (entry (remaining k m))) p q.positive) });
      same = same_operator_trans f.same t.same;
    }
