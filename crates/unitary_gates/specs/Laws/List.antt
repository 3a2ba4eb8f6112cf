-- Every unitary has its list: that of its form of sign byte 0.
use Rattle.std.proofs.Common.{inl, sym, ◌∙◌, arith}
use Rattle.std.specs.Prelude.{List, ◌≡◌, refl, ℕ, ◌+◌, ◌*◌, ◌≤◌, ℤ, length}
use Rattle.matrix.specs.Matrix.{entry, listed}
use Rattle.matrix.specs.Operator.{Operator, operator, SameUpToSign, Orthogonal, Proper}
use Rattle.matrix.specs.Laws.Operator.{same_operator_sym, same_orthogonal, same_proper}
use Rattle.matrix.specs.Laws.Array.{length_listed, listed_same}
use Rattle.clifford.specs.Laws.Sign.{up_to_sign, up_trans}
use Rattle.gate_list.specs.List.{list_of, sign_of_list}
use Rattle.gate_list.specs.Promise.{ListFor}
use Rattle.gate_list.specs.Laws.List.{list_of_lem, same_list_for}
use Rattle.operator.specs.Laws.Negative.{same_letters}
use Rattle.unitary.specs.Unitary.{Quotient, Unitary}
use Rattle.unitary.specs.Form.{form_of}
use Rattle.unitary.specs.Laws.Exact.{form, given}
use Rattle.omega.specs.Modular.{power_of}
use Rattle.omega.specs.Laws.Modular.{power_is}
use Rattle.unitary_gates.specs.Promise.{form_count, form_list, UnitaryList}

module _ (U : Quotient) (o : Unitary U) where
  abbrev A : Operator
  A = form_of U

  pub array_orthogonal : Orthogonal (operator A.exponent (entry (listed A.matrix)))
  array_orthogonal = same_orthogonal (listed_same A) (form U o).orthogonal

  pub array_proper : Proper (operator A.exponent (entry (listed A.matrix)))
  array_proper = same_proper (listed_same A) (form U o).proper

  abbrev sign : ℕ
  sign = sign_of_list A.exponent (listed A.matrix)

  form_list_for : ListFor A (form_count U) (form_list U) sign
  form_list_for = same_list_for (same_operator_sym (listed_same A)) (list_of_lem A.exponent (listed A.matrix) array_orthogonal array_proper)

  pub unitary_list : (p : ℕ) → p ≡ power_of U (form_list U) → UnitaryList U (form_list U) p
  unitary_list p e =
      let l = form_list_for in
      let (a, small, g) = given U o (form_list U) (up_to_sign sign l.multiplies.same) in
      let is : p ≡ a = e ∙ power_is U o (form_list U) a small g in
      record {
        gives = rw is g;
        small = omega arith;
        follows = λ q b h. sym (power_is U o (form_list U) q (omega arith) h) ∙ sym e;
        fewest = λ v q h. l.fewest v ((form U o).products v q h);
        form_list = refl;
        list = (sign, l);
      }

  pub form_count_small : form_count U ≤ 2 * U.exponent + 2
  form_count_small = (form U o).exponent (form_count U) form_list_for.least

  -- a file of a form, of either sign, has the same list
  pub list_of_form : (k : ℕ) (m : List ℤ) → length m ≡ 36 → Orthogonal (operator k (entry m)) → SameUpToSign (operator k (entry m)) A → list_of k m ≡ form_list U
  list_of_form k m l p h =
      same_letters k A.exponent m (listed A.matrix) l (length_listed A.matrix) p array_orthogonal array_proper (up_trans h (inl (listed_same A)))
