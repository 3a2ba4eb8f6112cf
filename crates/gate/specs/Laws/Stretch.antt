-- Reading by stretches: the product at its least exponent goes along with the gates read.
use Rattle.std.specs.Prelude.{◌≡◌, refl, ◌≢◌, Bool, true, cond, List, [], ◌∷◌, ◌++◌, ℕ, suc, ◌+◌, ◌<◌, ◌≤◌, T, ℤ, length, get_or, drop, Option, Some, None, Result, Ok, Err}
use Rattle.std.proofs.Math.Path.{sym, ap}
use Rattle.std.proofs.Common.{ap₂, subst, ◌∙◌, append_assoc, append-nil, add-zero, add-one, arith, drop-cons, ltb-false, le-ltb}
use Rattle.std.proofs.Math.Bool.{false}
use Rattle.std.proofs.Math.Dec.{ltb}
use Rattle.matrix.specs.Matrix.{entry, listed, product}
use Rattle.matrix.specs.Operator.{Operator, operator, times_operator, SameOperator, Orthogonal}
use Rattle.std.proofs.lemmas.Option.{none-some, same_Some}
use Rattle.refusal.specs.Laws.Refusal.{ok_err, same_err, same_ok}
use Rattle.matrix.specs.declared.Scaled.{Scaled}
use Rattle.matrix.specs.Array.{least_form, operator_of}
use Rattle.matrix.specs.Laws.Matrix.{same_refl, product_cong, product_assoc, product_id_r}
use Rattle.matrix.specs.Laws.Operator.{same_operator_refl, same_operator_sym, same_operator_trans, same_operator_of, times_same, times_orthogonal, same_orthogonal}
use Rattle.matrix.specs.Laws.Array.{entry_listed, listed_is, listed_cong, listed_same, length_listed, same_least_form}
use Rattle.matrix.specs.Laws.Inverse.{times_identity}
use Rattle.matrix.specs.Laws.Right.{least_right}
use Rattle.file.specs.File.{largest_exponent}
use Rattle.clifford.specs.Columns.{columns_matrix, are_permutation}
use Rattle.clifford.specs.Laws.Columns.{permutation_sound, columns_orthogonal}
use Rattle.letter.specs.declared.Gate.{Gate}
use Rattle.letter.specs.declared.Gate.TheVariants.{H1, H2, S1, S2, Cz, Cs}
use Rattle.letter.specs.Gate.{gate_of, columns, is_cs}
use Rattle.letter.specs.Composition.{composed, identity_columns}
use Rattle.letter.specs.Laws.Gate.{letter_of_gate}
use Rattle.letter.specs.Laws.Matrix.{unit_matrix, composed_matrix, composed_permutation}
use Rattle.gate.specs.Product.{image, product_of}
use Rattle.gate.specs.Reading.{Reading, refusal, least_of, read_letter, read_from}
use Rattle.gate.specs.Stretch.{times_columns, held, composed_letter, EndsStretch, CliffordLetters, multiplied, read_byte}
use Rattle.gate.specs.Laws.Product.{product_orthogonal, image_orthogonal, product_append}
use Rattle.gate.specs.Laws.Reading.{least_of_same, least_of_orthogonal, least_of_reduced, least_of_long}

-- a gate more on the right
pub append_gate : (w : List Gate) (g : Gate) → SameOperator (product_of (w ++ g ∷ [])) (times_operator (product_of w) (image g))
unfolding product_of
append_gate w g =
    same_operator_trans (product_append w (g ∷ []))
    (times_same (same_operator_refl (product_of w)) (times_identity (image g)))

pub multiplied_of : (w : List Gate) (g : Gate) → multiplied (least_of w).exponent (least_of w).matrix g ≡ least_of (w ++ g ∷ [])
unfolding multiplied least_of
multiplied_of w g =
    let P : Operator = times_operator (operator_of (least_of w)) (image g) in
    let Q : Operator = product_of (w ++ g ∷ []) in
    same_least_form P.exponent Q.exponent (listed P.matrix) (listed Q.matrix) (length_listed P.matrix) (length_listed Q.matrix)
    (same_orthogonal (listed_same P) (times_orthogonal (least_of_orthogonal w) (image_orthogonal g)))
    (same_orthogonal (listed_same Q) (product_orthogonal (w ++ g ∷ [])))
    (same_operator_trans (same_operator_sym (listed_same P))
    (same_operator_trans (times_same (same_operator_sym (least_of_same w)) (same_operator_refl (image g)))
    (same_operator_trans (same_operator_sym (append_gate w g)) (listed_same Q))))

-- ---- Clifford letters

clifford_image : (g : Gate) → is_cs g ≡ false → image g ≡ operator 0 (columns_matrix (columns g))
unfolding image
clifford_image H1 c = refl
clifford_image H2 c = refl
clifford_image S1 c = refl
clifford_image S2 c = refl
clifford_image Cz c = refl
clifford_image Cs c = absurd (subst T c tt)

clifford_permutation : (g : Gate) → is_cs g ≡ false → are_permutation (columns g) ≡ true
unfolding are_permutation
clifford_permutation H1 c = refl
clifford_permutation H2 c = refl
clifford_permutation S1 c = refl
clifford_permutation S2 c = refl
clifford_permutation Cz c = refl
clifford_permutation Cs c = absurd (subst T c tt)

-- nothing is held back at the start of a stretch
pub held_none : (w : List Gate) → least_of w ≡ held (least_of w).exponent (least_of w).matrix identity_columns
held_none w =
    let m = (least_of w).matrix in
    ap (λ x. record { exponent = (least_of w).exponent; matrix = x })
    (listed_is m (product 6 (entry m) (columns_matrix identity_columns)) (least_of_long w)
    (λ i j hi hj. sym (product_cong (same_refl 6 (entry m)) (λ r c hr hc. sym (unit_matrix r c hr hc)) i j hi hj ∙ product_id_r 6 (entry m) i j hi hj)))

module _ (w : List Gate) (k : ℕ) (m : List ℤ) (bs : List ℕ) (p : are_permutation bs ≡ true) (e : least_of w ≡ held k m bs) (g : Gate) (c : is_cs g ≡ false) where
  -- a Clifford letter goes to the columns
  pub held_more : least_of (w ++ g ∷ []) ≡ held k m (composed bs (columns g))
  unfolding multiplied
  held_more =
      let l = least_of w in
      let D = columns_matrix (columns g) in
      sym (multiplied_of w g)
      ∙ ap (λ (A : Operator). least_form (l.exponent + A.exponent) (listed (product 6 (entry l.matrix) A.matrix))) (clifford_image g c)
      ∙ ap (λ x. least_form x (listed (product 6 (entry l.matrix) D))) (add-zero l.exponent)
      ∙ least_right D (subst Orthogonal (clifford_image g c) (image_orthogonal g)) l.exponent (entry l.matrix) (least_of_reduced w)
      ∙ ap (λ (x : Scaled). record { exponent = x.exponent; matrix = listed (product 6 (entry x.matrix) D) }) e
      ∙ ap (λ x. record { exponent = k; matrix = x })
      (listed_cong (product 6 (entry (times_columns m bs)) D) (product 6 (entry m) (columns_matrix (composed bs (columns g))))
      (λ i j hi hj.
      product_cong (entry_listed (product 6 (entry m) (columns_matrix bs))) (same_refl 6 D) i j hi hj
      ∙ ap (λ X. X i j) (product_assoc 6 (entry m) (columns_matrix bs) D)
      ∙ product_cong (same_refl 6 (entry m)) (composed_matrix bs (columns g) p (clifford_permutation g c)) i j hi hj))

-- ---- the letters of a stretch

pub letters_none : (bs : List ℕ) (at : ℕ) → at ≤ length bs → CliffordLetters bs at identity_columns at
unfolding are_permutation
letters_none bs at h = record {
  from = omega arith;
  inside = h;
  permutation = refl;
  gates = [];
  reads = λ w k m u e. ap (λ v. read_from v (drop at bs)) (sym (append-nil w));
  product = λ w k m e. ap least_of (append-nil w) ∙ e;
}

module _ (bs : List ℕ) (at : ℕ) (cs : List ℕ) (n : ℕ) (s : CliffordLetters bs at cs n) (h : n < length bs) (g : Gate) (is : gate_of (get_or bs n 0) ≡ Some g) (c : is_cs g ≡ false) where
  behind : (w : List Gate) (k : ℕ) (m : List ℤ) → least_of w ≡ held k m identity_columns → least_of ((w ++ s.gates) ++ g ∷ []) ≡ held k m (composed cs (columns g))
  behind w k m e = held_more (w ++ s.gates) k m cs s.permutation (s.product w k m e) g c

  pub letters_more : CliffordLetters bs at (composed cs (columns g)) (n + 1)
  unfolding read_from
  letters_more = record {
    from = let f = s.from in omega arith;
    inside = omega arith;
    permutation = composed_permutation cs (columns g) s.permutation (clifford_permutation g c);
    gates = s.gates ++ g ∷ [];
    reads = λ w k m u e.
        let v = w ++ s.gates in
        let shallow : ltb largest_exponent (least_of (v ++ g ∷ [])).exponent ≡ false = rw (behind w k m e) (le-ltb largest_exponent k u) in
        s.reads w k m u e
        ∙ ap (read_from v) (drop-cons bs n 0 h)
        ∙ ap (read_letter v (λ x. read_from x (drop (suc n) bs))) is
        ∙ rw shallow (ap₂ (λ x y. read_from x (drop y bs)) (append_assoc w s.gates (g ∷ [])) (sym (add-one n)));
    product = λ w k m e. ap least_of (sym (append_assoc w s.gates (g ∷ []))) ∙ behind w k m e;
  }

-- what a byte tells
pub record Onto (cs : List ℕ) (l : Option Gate) (r : List ℕ) : Type 0 where
  pub gate : Gate
  pub is : l ≡ Some gate
  pub clifford : is_cs gate ≡ false
  pub columns : r ≡ composed cs (Rattle.letter.specs.Gate.columns gate)

pub onto : (cs : List ℕ) (l : Option Gate) (r : List ℕ) → Some r ≡ composed_letter cs l → Onto cs l r
onto cs None r e = absurd (none-some r (sym e))
onto cs (Some g) r e = go (is_cs g) refl e
  where
    go : (b : Bool) → is_cs g ≡ b → Some r ≡ cond b None (Some (cond b cs (composed cs (columns g)))) → Onto cs (Some g) r
    go true c x = absurd (none-some r (sym x))
    go false c x = record { gate = g; is = refl; clifford = c; columns = same_Some _ _ x }

pub ending : (cs : List ℕ) (l : Option Gate) → None ≡ composed_letter cs l → EndsStretch l
ending cs None e = tt
ending cs (Some g) e = go (is_cs g) e
  where
    go : (b : Bool) → None ≡ cond b None (Some (cond b cs (composed cs (columns g)))) → b ≡ true
    go true x = refl
    go false x = absurd (none-some _ x)

-- the matrix at the end of a stretch
pub held_orthogonal : (k : ℕ) (m : List ℤ) (bs : List ℕ) → are_permutation bs ≡ true → Orthogonal (operator k (entry m)) → Orthogonal (operator k (entry (times_columns m bs)))
held_orthogonal k m bs p o =
    let M = product 6 (entry m) (columns_matrix bs) in
    same_orthogonal
    (same_operator_trans (same_operator_of (times_operator (operator k (entry m)) (operator 0 (columns_matrix bs))) (operator k M) (add-zero k) (same_refl 6 M)) (listed_same (operator k M)))
    (times_orthogonal o (columns_orthogonal bs (permutation_sound bs p)))

-- the byte behind a stretch is C, or no letter
pub no_letter : (b : ℕ) → EndsStretch (gate_of b) → b ≢ 67 → gate_of b ≡ None
no_letter b e n = go (gate_of b) refl e
  where
    go : (l : Option Gate) → gate_of b ≡ l → EndsStretch l → l ≡ None
    go None u e = refl
    go (Some H1) u e = absurd (subst T (sym e) tt)
    go (Some H2) u e = absurd (subst T (sym e) tt)
    go (Some S1) u e = absurd (subst T (sym e) tt)
    go (Some S2) u e = absurd (subst T (sym e) tt)
    go (Some Cz) u e = absurd (subst T (sym e) tt)
    go (Some Cs) u e = absurd (n (letter_of_gate b Cs u))

-- ---- one letter

module _ (w : List Gate) (rest : List Gate → Reading) where
  pub record Onward (l : Option Gate) (r : Scaled) : Type 0 where
    pub gate : Gate
    pub reads : read_letter w rest l ≡ rest (w ++ gate ∷ [])
    pub product : r ≡ least_of (w ++ gate ∷ [])
    pub small : (least_of (w ++ gate ∷ [])).exponent ≤ largest_exponent

  -- the two definitions make one test
  one_test : (g : Gate) (t : Bool) → ltb largest_exponent (multiplied (least_of w).exponent (least_of w).matrix g).exponent ≡ t → ltb largest_exponent (least_of (w ++ g ∷ [])).exponent ≡ t
  one_test g t e = ap (λ (f : Scaled). ltb largest_exponent f.exponent) (sym (multiplied_of w g)) ∙ e

  pub onward : (l : Option Gate) (r : Scaled) → Ok r ≡ read_byte (least_of w).exponent (least_of w).matrix l → Onward l r
  onward None r e = absurd (ok_err e)
  onward (Some g) r e = go (ltb largest_exponent (multiplied (least_of w).exponent (least_of w).matrix g).exponent) refl e
    where
      go : (t : Bool) → ltb largest_exponent (multiplied (least_of w).exponent (least_of w).matrix g).exponent ≡ t
          → ◌≡◌ {A = Result Scaled ℕ} (Ok r) (cond t (Err 9) (Ok (multiplied (least_of w).exponent (least_of w).matrix g)))
          → Onward (Some g) r
      go true t e = absurd (ok_err e)
      go false t e = record {
        gate = g;
        reads = rw (one_test g false t);
        product = same_ok e ∙ multiplied_of w g;
        small = ltb-false largest_exponent _ (one_test g false t);
      }

  pub stopped : (l : Option Gate) (n : ℕ) → Err n ≡ read_byte (least_of w).exponent (least_of w).matrix l → read_letter w rest l ≡ refusal n
  stopped None n e = ap refusal (sym (same_err e))
  stopped (Some g) n e = go (ltb largest_exponent (multiplied (least_of w).exponent (least_of w).matrix g).exponent) refl e
    where
      go : (t : Bool) → ltb largest_exponent (multiplied (least_of w).exponent (least_of w).matrix g).exponent ≡ t
          → ◌≡◌ {A = Result Scaled ℕ} (Err n) (cond t (Err 9) (Ok (multiplied (least_of w).exponent (least_of w).matrix g)))
          → read_letter w rest (Some g) ≡ refusal n
      go true t e = rw (one_test g true t) (ap refusal (sym (same_err e)))
      go false t e = absurd (ok_err (sym e))
