-- Sheets of orthogonal operators of every exponent: a sheet gives back its operator, sign included. Two operators have one sheet exactly if they
-- stand for the same matrix, and sheets that agree before the last byte exactly if they do so up to sign.
use Rattle.std.specs.Prelude.{◌≡◌, refl, ◌⊎◌, ◌↔◌, Bool, true, false, not, cond, List, [], ◌∷◌, ◌++◌, ℕ, ◌+◌, ◌-◌, ℤ, negsuc, ◌*ℤ◌, length, get_or}
use Rattle.std.proofs.Math.Path.{sym, ap, ap₂}
use Rattle.std.proofs.Common.{◌∙◌, subst, inl, inr, arith}
use Rattle.matrix.specs.Matrix.{scaled, entry}
use Rattle.matrix.specs.Operator.{operator, SameOperator, SameUpToSign, Orthogonal}
use Rattle.matrix.specs.Laws.Operator.{same_operator_sym, same_operator_trans}
use Rattle.matrix.specs.Laws.Array.{entry_listed, length_listed, same_least_form}
use Rattle.clifford.specs.Columns.{columns_matrix, column_bytes, is_minus, signed}
use Rattle.clifford.specs.Laws.Columns.{Permutation, matrix_columns, matrix_permutation, columns_unique}
use Rattle.clifford.specs.Laws.Signed.{negated_minus, signed_at, signed_none, signed_permutation, signed_matrix_lem, signed_twice}
use Rattle.reduction.specs.Reduction.{generators, remainder, count, taken, remaining}
use Rattle.reduction.specs.Laws.NormalForm.{cutting, normal_form_same}
use Rattle.reduction.specs.Laws.Negative.{negative_of, negative_same, negative_array_orthogonal, taken_negative, remaining_negative}
use Rattle.sheet_bytes.specs.Bytes.{shortest, count_byte, sign_byte, written_columns, sheet_bytes, sheet, sheet_operator, before_sign}
use Rattle.sheet_bytes.specs.Laws.Bytes.{unsigned_bytes, length_bytes, before_sign_lem, before_and_sign, bytes_operator}

-- the columns of what remains
abbrev pub columns_left : ℕ → List ℤ → List ℕ
columns_left k m = column_bytes (entry (remaining k m))

before_and_sign_of : (k : ℕ) (m : List ℤ) → sheet k m ≡ before_sign (sheet k m) ++ sign_byte (columns_left k m) ∷ []
unfolding sheet
before_and_sign_of k m = before_and_sign (taken k m) (columns_left k m)

module _ (k : ℕ) (m : List ℤ) (o : Orthogonal (operator k (entry m))) where
  pub left_permutation : Permutation (columns_left k m)
  left_permutation = matrix_permutation (entry (remaining k m)) (cutting k m o).orthogonal

  pub length_sheet : length (sheet k m) ≡ count k m + shortest
  unfolding sheet
  length_sheet = length_bytes (taken k m) (columns_left k m) left_permutation.long ∙ ap (λ n. n + shortest) (cutting k m o).exact

  -- "The sheet still gives back M itself"
  pub sheet_back : SameOperator (sheet_operator (sheet k m)) (operator k (entry m))
  unfolding sheet
  sheet_back =
      let c = cutting k m o in
      same_operator_trans (bytes_operator (taken k m) (columns_left k m) left_permutation)
      (same_operator_trans (normal_form_same (taken k m) (columns_matrix (columns_left k m)) (entry (remaining k m)) (matrix_columns (entry (remaining k m)) c.orthogonal)) (same_operator_sym c.same))

module _ (k l : ℕ) (m n : List ℤ) (hm : length m ≡ 36) (hn : length n ≡ 36) (o : Orthogonal (operator k (entry m))) (p : Orthogonal (operator l (entry n))) where
  -- the same matrix, one sheet
  pub same_sheet : SameOperator (operator k (entry m)) (operator l (entry n)) → sheet k m ≡ sheet l n
  unfolding sheet
  same_sheet h = ap (λ f. sheet_bytes (generators f.exponent f.matrix) (column_bytes (entry (remainder f.exponent f.matrix)))) (same_least_form k l m n hm hn o p h)

  -- one sheet, the same matrix
  pub sheet_same : sheet k m ≡ sheet l n → SameOperator (operator k (entry m)) (operator l (entry n))
  sheet_same e =
      same_operator_trans (same_operator_sym (sheet_back k m o)) (subst (λ s. SameOperator (sheet_operator s) (operator l (entry n))) (sym e) (sheet_back l n p))

-- ---- the negative

-- the negative of six columns is written as they are, with the other sign
module _ (bs : List ℕ) (p : Permutation bs) where
  first_negated : is_minus (get_or (signed 1 bs) 0 0) ≡ not (is_minus (get_or bs 0 0))
  first_negated = let l = p.long in ap is_minus (signed_at 1 bs 0 (omega arith)) ∙ negated_minus (get_or bs 0 0) (p.bytes 0 (omega arith))

  pub sign_negated : sign_byte (signed 1 bs) ≡ 1 - sign_byte bs
  sign_negated = ap (λ t. cond t 1 0) first_negated ∙ go (is_minus (get_or bs 0 0))
    where
      go : (t : Bool) → ◌≡◌ {A = ℕ} (cond (not t) 1 0) (1 - cond t 1 0)
      go true = refl
      go false = refl

  written_alike : written_columns (signed 1 bs) ≡ written_columns bs
  written_alike = ap (λ t. signed (cond t 1 0) (signed 1 bs)) first_negated ∙ go (is_minus (get_or bs 0 0))
    where
      go : (t : Bool) → signed (cond (not t) 1 0) (signed 1 bs) ≡ signed (cond t 1 0) bs
      go true = signed_none (signed 1 bs)
      go false = signed_twice 1 bs p ∙ sym (signed_none bs)

module _ (k : ℕ) (m : List ℤ) (o : Orthogonal (operator k (entry m))) where
  -- what cutting −M leaves, by its columns
  pub columns_negative : columns_left k (negative_of m) ≡ signed 1 (columns_left k m)
  columns_negative =
      let q = negative_array_orthogonal k m o in
      let c = (cutting k m o).orthogonal in
      let R = entry (remaining k m) in
      columns_unique (columns_left k (negative_of m)) (signed 1 (columns_left k m)) (left_permutation k (negative_of m) q) (signed_permutation 1 (columns_left k m) (left_permutation k m o))
      (λ i j hi hj. matrix_columns (entry (remaining k (negative_of m))) (cutting k (negative_of m) q).orthogonal i j hi hj
      ∙ ap (λ x. entry x i j) (remaining_negative k m o)
      ∙ entry_listed (scaled (negsuc 0) R) i j hi hj
      ∙ ap (λ x. negsuc 0 *ℤ x) (sym (matrix_columns R c i j hi hj))
      ∙ sym (signed_matrix_lem 1 (columns_left k m) (left_permutation k m o) i j hi hj))

  before_negative : before_sign (sheet k (negative_of m)) ≡ before_sign (sheet k m)
  unfolding sheet
  before_negative =
      before_sign_lem (taken k (negative_of m)) (columns_left k (negative_of m))
      ∙ ap₂ unsigned_bytes (taken_negative k m o) columns_negative
      ∙ ap (λ x. count_byte (length (taken k m)) ∷ (taken k m ++ x)) (written_alike (columns_left k m) (left_permutation k m o))
      ∙ sym (before_sign_lem (taken k m) (columns_left k m))

  -- the sheet of −M has the other last byte, and no other difference
  pub sheet_negative : sheet k (negative_of m) ≡ before_sign (sheet k m) ++ (1 - sign_byte (columns_left k m)) ∷ []
  sheet_negative =
      before_and_sign_of k (negative_of m)
      ∙ ap₂ (λ xs s. xs ++ s ∷ []) before_negative (ap sign_byte columns_negative ∙ sign_negated (columns_left k m) (left_permutation k m o))

-- ---- up to sign

module _ (k l : ℕ) (m n : List ℤ) (hm : length m ≡ 36) (hn : length n ≡ 36) (o : Orthogonal (operator k (entry m))) (p : Orthogonal (operator l (entry n))) where
  abbrev other : List ℤ
  other = negative_of n

  other_long : length other ≡ 36
  other_long = length_listed (scaled (negsuc 0) (entry n))

  agree : SameUpToSign (operator k (entry m)) (operator l (entry n)) → before_sign (sheet k m) ≡ before_sign (sheet l n)
  agree (inl h) = ap before_sign (same_sheet k l m n hm hn o p h)
  agree (inr h) =
      ap before_sign (same_sheet k l m other hm other_long o (negative_array_orthogonal l n p) (same_operator_trans h (negative_same l n))) ∙ before_negative l n p

  -- the sheet is that of the one, or that of its negative, by the last byte
  one_of_two : before_sign (sheet k m) ≡ before_sign (sheet l n) → (sheet k m ≡ sheet l n) ⊎ (sheet k m ≡ sheet l other)
  one_of_two e = go (is_minus (get_or (columns_left k m) 0 0)) (is_minus (get_or (columns_left l n) 0 0)) (before_and_sign_of k m) (before_and_sign_of l n) (sheet_negative l n p)
    where
      go : (s t : Bool) → sheet k m ≡ before_sign (sheet k m) ++ cond s 1 0 ∷ [] → sheet l n ≡ before_sign (sheet l n) ++ cond t 1 0 ∷ []
          → sheet l other ≡ before_sign (sheet l n) ++ (1 - cond t 1 0) ∷ [] → (sheet k m ≡ sheet l n) ⊎ (sheet k m ≡ sheet l other)
      go true true a b c = inl (a ∙ ap (λ x. x ++ 1 ∷ []) e ∙ sym b)
      go true false a b c = inr (a ∙ ap (λ x. x ++ 1 ∷ []) e ∙ sym c)
      go false true a b c = inr (a ∙ ap (λ x. x ++ 0 ∷ []) e ∙ sym c)
      go false false a b c = inl (a ∙ ap (λ x. x ++ 0 ∷ []) e ∙ sym b)

  agreed : before_sign (sheet k m) ≡ before_sign (sheet l n) → SameUpToSign (operator k (entry m)) (operator l (entry n))
  agreed e = go (one_of_two e)
    where
      go : (sheet k m ≡ sheet l n) ⊎ (sheet k m ≡ sheet l other) → SameUpToSign (operator k (entry m)) (operator l (entry n))
      go (inl f) = inl (sheet_same k l m n hm hn o p f)
      go (inr f) = inr (same_operator_trans (sheet_same k l m other hm other_long o (negative_array_orthogonal l n p) f) (same_operator_sym (negative_same l n)))

  -- "Two operators agree up to sign exactly when their sheets agree before that byte"
  pub same_up_to_sign : SameUpToSign (operator k (entry m)) (operator l (entry n)) ↔ (before_sign (sheet k m) ≡ before_sign (sheet l n))
  same_up_to_sign = (agree, agreed)
