-- What a text means is what its letters multiply to.
use Rattle.std.specs.Prelude.{◌≡◌, refl, List, [], ◌∷◌, ◌++◌, ℕ, length, drop, Option, Some, None}
use Rattle.std.proofs.Common.{ap, subst, sym, arith}
use Rattle.matrix.specs.Operator.{Operator, times_operator, identity, SameOperator}
use Rattle.matrix.specs.Laws.Operator.{same_operator_refl, same_operator_sym, same_operator_trans, times_same, times_assoc}
use Rattle.matrix.specs.Laws.Inverse.{identity_times, times_identity}
use Rattle.letter.specs.declared.Gate.{Gate}
use Rattle.gate.specs.Product.{image, product_of, MultipliesTo}
use Rattle.gate.specs.Reading.{Reading, gates, refusal}
use Rattle.gate.specs.Laws.Stretch.{append_gate}
use Rattle.qasm.specs.Text.{version_line, include_line, register_line, first_lines, text_of}
use Rattle.qasm.specs.Reading.{lines, statement_of, earlier, statements, read_text, acting, acted, meaning}
use Rattle.qasm.specs.Laws.Lines.{after_lines_lem}
use Rattle.qasm.specs.Laws.Text.{read_text_lem}

-- lines that are read act on an operator as a product with it on the right
acted_product : (ls : List (List ℕ)) (w : List Gate) → statements ls ≡ gates w → (A : Operator) → SameOperator (acted A ls) (times_operator (product_of w) A)
unfolding statements product_of
acted_product [] w e A =
    let s : w ≡ [] = cc in
    subst (λ v. SameOperator A (times_operator (product_of v) A)) (sym s) (same_operator_sym (identity_times A))
acted_product (l ∷ ls) w e A = go (statement_of l) (statements ls) (acted_product ls) e
  where
    go : (x : Option Gate) (r : Reading) → ((v : List Gate) → r ≡ gates v → (B : Operator) → SameOperator (acted B ls) (times_operator (product_of v) B)) → earlier x r ≡ gates w → SameOperator (acted (acting x A) ls) (times_operator (product_of w) A)
    go None r f e = let z : ◌≡◌ {A = ℕ} 0 1 = cc in absurd (omega arith)
    go (Some g) (refusal n) f e = let z : ◌≡◌ {A = ℕ} 0 1 = cc in absurd (omega arith)
    go (Some g) (gates v) f e =
        let t : v ++ g ∷ [] ≡ w = cc in
        subst (λ u. SameOperator (acted (times_operator (image g) A) ls) (times_operator (product_of u) A)) t
        (same_operator_trans (f v refl (times_operator (image g) A))
        (same_operator_trans (same_operator_sym (times_assoc (product_of v) (image g) A))
        (times_same (same_operator_sym (append_gate v g)) (same_operator_refl A))))

-- the letters of a text multiply to what it means
pub text_means : (bs : List ℕ) (w : List Gate) → read_text bs ≡ gates w → MultipliesTo w (meaning bs)
unfolding read_text meaning version_line include_line register_line
text_means bs w e =
    let a = after_lines_lem first_lines (lines bs) w e in
    let s : acted identity (drop (length first_lines) (lines bs)) ≡ acted identity a.rest = ap (λ ls. acted identity (drop (length first_lines) ls)) a.starts in
    record {
      same = same_operator_sym (subst (λ X. SameOperator X (product_of w)) (sym s)
          (same_operator_trans (acted_product a.rest w a.reads identity) (times_identity (product_of w))));
    }

-- the text of a list means what the list multiplies to
pub means_list : (w : List Gate) → MultipliesTo w (meaning (text_of w))
means_list w = text_means (text_of w) w (read_text_lem w)
