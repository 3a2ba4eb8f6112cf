-- Document 02, P5, for every exponent: the six-by-six form of a unitary, and which lists give the unitary.
use Rattle.std.specs.Prelude.{◌≡◌, Bool, true, false, cond, ℕ, zero, suc, ◌+◌, ◌*◌, ◌<◌, ◌≤◌, eqb, pos, negsuc}
use Rattle.std.proofs.Common.{ap, ◌∙◌, inl, inr, arith}
use mathlib.Core.List.{List, []}
use Rattle.matrix.specs.Integer.{equals}
use Rattle.matrix.specs.Matrix.{δ, scaled}
use Rattle.matrix.specs.Operator.{Operator, operator, times_operator, SameUpToSign, Orthogonal, Proper, LeastExponent}
use Rattle.matrix.specs.Laws.Integer.{equals_eq, equals_yes}
use Rattle.matrix.specs.Laws.Range.{First, first_found}
use Rattle.matrix.specs.Laws.Operator.{same_operator_refl, same_operator_sym, same_operator_trans, times_same, same_orthogonal, same_proper}
use Rattle.matrix.specs.Laws.Array.{everywhere_sound, everywhere_complete}
use Rattle.clifford.specs.Columns.{times_sign}
use Rattle.clifford.specs.Laws.Sign.{sign_none, sign_of_both, up_to_sign, up_sym, up_trans}
use Rattle.sheet_bytes.specs.Bytes.{sheet_of, sheet_sign}
use Rattle.sheet_bytes.specs.Laws.Sign.{sign_byte_none}
use Rattle.letter.specs.declared.Gate.{Gate}
use Rattle.gate.specs.Product.{image, product_of}
use Rattle.gate_list.specs.Laws.List as gate-list
use Rattle.gaussian.specs.Gaussian.{◌⊗◌, identity}
use Rattle.gaussian.specs.Laws.Power.{norm, norm_sum}
use Rattle.unitary.specs.Unitary.{Quotient, Unitary, times_quotient, plain, Gives}
use Rattle.unitary.specs.Form.{form_entry, form_at, Real, IsForm, is_real, turn_of, real_form, form_of}
use Rattle.unitary.specs.Laws.Shape.{some_turn, form_orthogonal}
use Rattle.unitary.specs.Laws.Finite.{gate_turn}
use Rattle.unitary.specs.Laws.Product.{product_real, product_form, gate_real, gate_form}
use Rattle.unitary.specs.Laws.Part.{real_part, imaginary_part, turn_0, turn_1, turn_2, turn_3}
use Rattle.unitary.specs.Laws.Plain.{product_rows}
use Rattle.unitary.specs.Laws.Turn.{four_real, four_form, two_turns, images}
use Rattle.unitary.specs.Laws.Given.{gives}
use Rattle.unitary.specs.Laws.Proper.{form_proper}

-- ---- products and the plain gates

pub product_unitary : (U W : Quotient) → Unitary U → Unitary W → Unitary (times_quotient U W)
product_unitary U W o p = record {
  rows = λ i j hi hj.
      product_rows U.matrix W.matrix (norm U.exponent) (norm W.exponent) o.rows p.rows i j hi hj
      ∙ ap (λ x. x ⊗ identity i j) (norm_sum U.exponent W.exponent);
}

-- the form of a product is, up to sign, the product of the forms
pub form_of_product : (U W : Quotient) → Unitary U → Unitary W → {A B C : Operator} → IsForm U A → IsForm W B → IsForm (times_quotient U W) C → SameUpToSign C (times_operator A B)
form_of_product U W o p f g h =
    up_trans (inl (same_operator_sym h.same))
    (up_trans (two_turns (times_quotient U W) (product_unitary U W o p) h.turn (f.turn + g.turn) h.is_real (product_real U W f.turn g.turn f.is_real g.is_real))
    (inl (same_operator_trans (same_operator_sym (product_form U W f.turn g.turn f.is_real g.is_real)) (times_same f.same g.same))))

-- a plain gate's form is its image of document 01
pub form_of_gate : (g : Gate) → IsForm (plain g) (image g)
form_of_gate g = record { turn = gate_turn g; is_real = gate_real g; same = gate_form g }

-- ---- the form of sign byte 0

module _ (U : Quotient) (o : Unitary U) where
  real_sound : (t : ℕ) → is_real t U ≡ true → Real t U
  unfolding is_real
  real_sound t e r c hr hc = equals_eq (form_entry t U r c).im (pos 0) (everywhere_sound (λ r c. equals (form_entry t U r c).im (pos 0)) e r c hr hc)

  real_complete : (t : ℕ) → Real t U → is_real t U ≡ true
  unfolding is_real
  real_complete t h = everywhere_complete (λ r c. equals (form_entry t U r c).im (pos 0)) (λ r c hr hc. equals_yes (h r c hr hc))

  first : First (λ t. is_real t U) 0 4 (turn_of U)
  first = let (t, l, h) = some_turn U o in first_found (λ t. is_real t U) 0 4 t (real_complete t h) (omega arith) (omega arith)

  pub turn_real : Real (turn_of U) U
  turn_real = real_sound (turn_of U) first.holds

  pub turn_small : turn_of U < 4
  turn_small = first.below

  signed_form : (s : ℕ) → IsForm U (times_sign s (real_form U))
  signed_form s = go (eqb s 0)
    where
      go : (z : Bool) → IsForm U (operator (real_form U).exponent (scaled (cond z (pos 1) (negsuc 0)) (real_form U).matrix))
      go true = record { turn = turn_of U; is_real = turn_real; same = same_operator_sym (sign_none (real_form U)) }
      go false = record { turn = 4 + turn_of U; is_real = four_real U o (turn_of U) turn_real; same = four_form U o (turn_of U) turn_real }

  pub real_or_negative : SameUpToSign (form_of U) (real_form U)
  real_or_negative = let s = sheet_sign (sheet_of (real_form U)) in up_to_sign s (same_operator_refl (form_of U))

  -- its exponent is at most 2 k + 2
  part : (t : ℕ) → t < 4 → Real t U → (B : Operator) × (B.exponent ≤ 2 * U.exponent + 2) × SameUpToSign (form_at t U) B
  part zero l h = (real_part U (2 * U.exponent + 2), omega arith, inl (turn_0 U))
  part (suc zero) l h = (real_part U (2 * U.exponent + 1), omega arith, inl (turn_1 U h))
  part (suc (suc zero)) l h = (imaginary_part U (2 * U.exponent + 2), omega arith, inr (turn_2 U))
  part (suc (suc (suc zero))) l h = (real_part U (2 * U.exponent + 1), omega arith, inr (turn_3 U h))
  part (suc (suc (suc (suc t)))) l h = absurd (omega arith)

  bound : (l : ℕ) → LeastExponent (form_of U) l → l ≤ 2 * U.exponent + 2
  bound l h =
      let (B, b, u) = part (turn_of U) turn_small turn_real in
      let (s, e) = sign_of_both (up_trans real_or_negative u) in
      let m = h.smallest (times_sign s B) e in
      omega arith

-- "Its six-by-six form is, up to sign, the product of the images of any list that gives the unitary up to a power of ω; the list is the one for
-- the form of sign byte 0": it is real by what it is, and orthogonal and proper
pub record Form (U : Quotient) (A : Operator) : Type 0 where
  pub is_form : IsForm U A
  pub sign : sheet_sign (sheet_of A) ≡ 0
  pub orthogonal : Orthogonal A
  pub proper : Proper A
  pub products : (w : List Gate) (a : ℕ) → Gives w a U → SameUpToSign (product_of w) A
  pub exponent : (l : ℕ) → LeastExponent A l → l ≤ 2 * U.exponent + 2

pub form : (U : Quotient) → Unitary U → Form U (form_of U)
form U o =
    let s = sheet_sign (sheet_of (real_form U)) in
    let f = signed_form U o s in
    record {
      is_form = f;
      sign = sign_byte_none (real_form U) (form_orthogonal U o (turn_of U) (turn_real U o));
      orthogonal = same_orthogonal f.same (form_orthogonal U o f.turn f.is_real);
      proper = same_proper f.same (form_proper U o f.turn f.is_real);
      products = images U o (form_of U) f;
      exponent = bound U o;
    }

-- ---- lists

module _ (U : Quotient) (o : Unitary U) where
  -- a list whose images multiply to the form up to sign gives the unitary up to a power of ω
  pub given : (w : List Gate) → SameUpToSign (product_of w) (form_of U) → (a : ℕ) × (a < 8) × Gives w a U
  given w u = go (up_trans u (real_or_negative U o))
    where
      t : ℕ
      t = turn_of U

      go : SameUpToSign (product_of w) (real_form U) → (a : ℕ) × (a < 8) × Gives w a U
      go (inl h) = gives U o t (turn_real U o) w h
      go (inr h) = gives U o (4 + t) (four_real U o t (turn_real U o)) w (same_operator_trans h (same_operator_sym (four_form U o t (turn_real U o))))

  -- a unitary whose form is the identity or its negative is a power of ω
  pub only_powers : SameUpToSign (form_of U) (operator 0 δ) → (a : ℕ) × (a < 8) × Gives [] a U
  unfolding product_of
  only_powers h = given [] (up_sym h)

  -- "no unitary of this form lacks one"
  pub some_list : (w : List Gate) × (a : ℕ) × (a < 8) × Gives w a U
  some_list =
      let f = form U o in
      let (w, m, n) = gate-list.some_list f.orthogonal f.proper in
      let (a, l, g) = given w (inl m.same) in
      (w, a, l, g)
