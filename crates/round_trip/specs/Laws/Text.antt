-- From text to text: a text read, its letters multiplied, the product cut, and the list written as text.
use Rattle.std.specs.Prelude.{◌≡◌, List, map, ℕ, ◌≤◌, length, Result}
use Rattle.std.proofs.Common.{arith}
use Rattle.matrix.specs.Operator.{SameOperator, SameUpToSign}
use Rattle.matrix.specs.Laws.Operator.{same_operator_sym, same_operator_trans}
use Rattle.file.specs.File.{file_operator}
use Rattle.file.specs.Laws.File.{file_in_form}
use Rattle.clifford.specs.Columns.{times_sign}
use Rattle.clifford.specs.Laws.Sign.{sign_same, up_to_sign, sign_of_both}
use Rattle.letter.specs.declared.Gate.{Gate}
use Rattle.letter.specs.Gate.{letter}
use Rattle.gate.specs.Product.{product_of, cs_gates}
use Rattle.gate.specs.Reading.{gates_buffer, gates, reading, least_of, product_file}
use Rattle.gate.specs.Laws.Reading.{read_small, read_into}
use Rattle.acceptance.specs.Acceptance.{file_refusal}
use Rattle.operator.specs.declared.Listed.{Listed}
use Rattle.operator.specs.Promise.{Handed, GatesPromise}
use Rattle.operator.specs.Laws.Promise.{count_small}
use Rattle.operator.specs.Laws.Exactly.{multiplies_accepted}
use Rattle.qasm.specs.Text.{text_of}
use Rattle.qasm.specs.Reading.{read_qasm, meaning, read_letters}
use Rattle.qasm.specs.Laws.Text.{read_within, letters_taken}
use Rattle.qasm.specs.Laws.Meaning.{text_means, means_list}

-- the file of a list that is read is accepted
pub product_accepted : (bs : List ℕ) (w : List Gate) → reading bs ≡ gates w → file_refusal (product_file w) ≡ 0
product_accepted bs w e =
    let r = read_into bs w e in
    multiplies_accepted (product_file w) (file_in_form (least_of w).exponent (least_of w).matrix (read_small bs w e)) w r.multiplies

-- the list v, whose sign is s, may be written as text, which means what the text bs means, times the sign; and no list that multiplies to that or to
-- its negative has fewer letters C
pub record Shortest (bs : List ℕ) (v : List Gate) (s : ℕ) : Type 0 where
  pub taken : read_letters (map letter v) ≡ gates v
  pub means : SameOperator (meaning (text_of v)) (times_sign s (meaning bs))
  pub fewest : (u : List Gate) → SameUpToSign (product_of u) (meaning bs) → cs_gates v ≤ cs_gates u

module _ (bs : List ℕ) (w : List Gate) (e : read_qasm bs ≡ gates w) (f : reading (map letter w) ≡ gates w) where
  -- the text means the operator of the file
  file_means : SameOperator (meaning bs) (file_operator (product_file w))
  file_means = same_operator_trans (same_operator_sym (text_means bs w (read_within bs w e).0).same) (read_into (map letter w) w f).multiplies.same

  -- what `operator_to_gates` then writes into a buffer that has room for any list
  pub text_to_text : (old new : List ℕ) (a : Result Listed ℕ) → GatesPromise (product_file w) old new a → gates_buffer ≤ length old
      → (v : List Gate) × (s : ℕ) × Handed (product_file w) old new a v s × Shortest bs v s
  text_to_text old new a p h =
      let z = product_accepted (map letter w) w f in
      let k = count_small (product_file w) z in
      let (v, s, g) = p.handed z (omega arith) in
      let n = g.list.short in (
        v,
        s,
        g,
        record {
          taken = letters_taken v (omega arith);
          means = same_operator_trans (same_operator_sym (means_list v).same) (same_operator_trans g.list.multiplies.same (sign_same s (same_operator_sym file_means)));
          fewest = λ u m. let (r, q) = sign_of_both m in g.list.fewest u (up_to_sign r (same_operator_trans q (sign_same r file_means)));
        },
      )
