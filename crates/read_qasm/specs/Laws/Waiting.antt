-- A long text read on to its end, a part at a time.
use Rattle.std.specs.Prelude.{◌≡◌, List, [], ◌++◌, ℕ, ◌+◌, ◌-◌, ◌≤◌, ◌<◌, length, take, drop}
use Rattle.std.proofs.Common.{sym, ap, subst, ◌∙◌, append_assoc, append-nil, arith, length-append, length-drop, take_all, length-take-le, eq-eqb, ne_eqb}
use Rattle.std.proofs.Math.Decide.{ℕ_discrete}
use Rattle.gate.specs.Reading.{refusal}
use Rattle.qasm.specs.Text.{longest_statement}
use Rattle.qasm.specs.Reading.{read_qasm}
use Rattle.read_qasm.specs.Long.{longer, behind, StartAt, LeftOf, Waiting, last_refusal, Earned}
use Rattle.read_qasm.specs.Laws.Long.{behind_none, behind_wrong, behind_stuck}

-- what is left of the first bytes behind their start is shorter than the longest statement
pub tail_short : (bs : List ℕ) (start : ℕ) → StartAt bs start → length bs ≡ longer
    → (take (length bs - start) (drop start bs) ≡ drop start bs) × (length (drop start bs) < longest_statement)
tail_short bs start s l =
    let h = s.long in
    let d = length-drop start bs in
    (take_all (length bs - start) (drop start bs) (omega arith), omega arith)

-- the first bytes
pub waiting_start : (bs : List ℕ) (start : ℕ) → StartAt bs start → (new : List ℕ) (left : ℕ) → length (drop start bs) ≤ length new → LeftOf (drop start bs) new left → Waiting bs new left
waiting_start bs start s new left h d = record {
  inside = let i = d.inside in omega arith;
  earns = λ rest. s.earns rest ∙ sym (d.earns rest);
  stops = d.stops;
}

module _ (bs old : List ℕ) (left : ℕ) (s : Waiting bs old left) where
  size : length (take left old) ≡ left
  size = length-take-le left old s.inside

  -- more bytes
  pub waiting_next : (more new : List ℕ) (next : ℕ) → left + length more ≤ length new → LeftOf (take left old ++ more) new next → Waiting (bs ++ more) new next
  waiting_next more new next h d = record {
    inside = let i = d.inside in let l = length-append (take left old) more in let k = size in omega arith;
    earns = λ rest. ap read_qasm (append_assoc bs more rest) ∙ s.earns (more ++ rest) ∙ ap behind (sym (append_assoc (take left old) more rest)) ∙ sym (d.earns rest);
    stops = d.stops;
  }

  -- no more
  pub waiting_ended : read_qasm bs ≡ refusal (last_refusal left)
  waiting_ended = sym (ap read_qasm (append-nil bs)) ∙ s.earns [] ∙ ap behind (append-nil (take left old)) ∙ last (ℕ_discrete left 0)
    where
      last : Dec (left ≡ 0) → behind (take left old) ≡ refusal (last_refusal left)
      last (yes z) = ap (λ n. behind (take n old)) z ∙ behind_none ∙ rw (eq-eqb left 0 z)
      last (no n) = behind_wrong (take left old) (let l = size in omega arith) (s.stops (omega arith)) ∙ rw (ne_eqb left 0 n)

  -- whatever follows
  pub waiting_stuck : longest_statement ≤ left → (rest : List ℕ) → read_qasm (bs ++ rest) ≡ refusal 23
  waiting_stuck h rest = s.earns rest ∙ behind_stuck (take left old) (let l = size in omega arith) (s.stops (omega arith)) rest

-- ---- behind the bytes bs, those that were read

pub record ReadOn (bs buffer : List ℕ) (left : ℕ) : Type 0 where
  pub bytes : List ℕ
  pub waits : Waiting (bs ++ bytes) buffer left

pub read_start : (bs : List ℕ) (start : ℕ) → StartAt bs start → (new : List ℕ) (left : ℕ) → length (drop start bs) ≤ length new → LeftOf (drop start bs) new left → ReadOn bs new left
read_start bs start s new left h d = record { bytes = []; waits = subst (λ x. Waiting x new left) (sym (append-nil bs)) (waiting_start bs start s new left h d) }

module _ (bs old : List ℕ) (left : ℕ) (s : ReadOn bs old left) where
  pub read_next : (more new : List ℕ) (n : ℕ) → left + length more ≤ length new → LeftOf (take left old ++ more) new n → ReadOn bs new n
  read_next more new n h d = record {
    bytes = s.bytes ++ more;
    waits = subst (λ x. Waiting x new n) (append_assoc bs s.bytes more) (waiting_next (bs ++ s.bytes) old left s.waits more new n h d);
  }

  pub read_ended : {r : ℕ} → r ≡ last_refusal left → Earned bs r
  read_ended e = record { more = s.bytes; earns = waiting_ended (bs ++ s.bytes) old left s.waits ∙ ap refusal (sym e) }

  pub read_stuck : longest_statement ≤ left → Earned bs 23
  read_stuck h = record { more = s.bytes; earns = sym (ap read_qasm (append-nil (bs ++ s.bytes))) ∙ waiting_stuck (bs ++ s.bytes) old left s.waits h [] }
