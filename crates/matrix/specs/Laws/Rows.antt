-- A matrix written into an array: column by column, one row entry by entry, row by row.
use Rattle.std.specs.Prelude.{◌≡◌, refl, List, ◌≢◌, ℕ, ◌+◌, ◌*◌, ◌<◌, ◌≤◌, ℤ, length, set}
use Rattle.std.proofs.Common.{sym, ap, ◌∙◌, arith, length-set}
use Rattle.std.proofs.Math.Decide.{ℕ_discrete}
use Rattle.matrix.specs.Matrix.{Matrix, replaced, entry, listed}
use Rattle.matrix.specs.Laws.Determinant.{replaced_same, replaced_other}
use Rattle.matrix.specs.Laws.Array.{entry_listed, length_listed, listed_is, entry_set_same, entry_set_other}

-- the columns before c are those of M, and from c on those of m
pub record ColumnsDone (M : Matrix) (m : List ℤ) (c : ℕ) (out : List ℤ) : Type 0 where
  pub long : length out ≡ 36
  pub done : (i s : ℕ) → i < 6 → s < c → entry out i s ≡ M i s
  pub left : (i s : ℕ) → i < 6 → s < 6 → c ≤ s → entry out i s ≡ entry m i s

module _ (M : Matrix) (m : List ℤ) where
  pub columns_none : length m ≡ 36 → ColumnsDone M m 0 m
  columns_none l = record { long = l; done = λ i s hi hs. absurd (omega arith); left = λ i s hi hs u. refl }

  -- column c is written, and nothing else
  pub columns_more : (c : ℕ) (out new : List ℤ) → c < 6 → ColumnsDone M m c out → length new ≡ 36
      → ((i s : ℕ) → s < 6 → s ≢ c → entry new i s ≡ entry out i s) → ((i : ℕ) → i < 6 → entry new i c ≡ M i c) → ColumnsDone M m (c + 1) new
  columns_more c out new hc d l away here = record {
    long = l;
    done = λ i s hi hs. elim (ℕ_discrete s c) [ yes z ↦ rw z (here i hi) | no z ↦ away i s (omega arith) z ∙ d.done i s hi (omega arith) ];
    left = λ i s hi hs u. away i s hs (omega arith) ∙ d.left i s hi hs (omega arith);
  }

  pub columns_all : (c : ℕ) (out : List ℤ) → 6 ≤ c → ColumnsDone M m c out → out ≡ listed M
  columns_all c out h d = listed_is out M d.long (λ i s hi hs. d.done i s hi (omega arith))

-- row r is to be v; the columns before c are done
abbrev pub RowDone : ℕ → (ℕ → ℤ) → List ℤ → ℕ → List ℤ → Type 0
RowDone r v m c out = ColumnsDone (replaced r v (entry m)) m c out

module _ (r : ℕ) (v : ℕ → ℤ) (m : List ℤ) (hr : r < 6) where
  pub row_none : length m ≡ 36 → RowDone r v m 0 m
  row_none l = columns_none (replaced r v (entry m)) m l

  pub row_more : (c : ℕ) (out : List ℤ) (x : ℤ) → c < 6 → RowDone r v m c out → x ≡ v c → RowDone r v m (c + 1) (set out (r * 6 + c) x)
  row_more c out x hc d e =
      columns_more (replaced r v (entry m)) m c out (set out (r * 6 + c) x) hc d (length-set out (r * 6 + c) x ∙ d.long)
      (λ i s hs w. entry_set_other out r c x hc i s hs (λ _. w))
      (λ i hi. elim (ℕ_discrete i r) [
        | yes z ↦ rw z (entry_set_same out r c x hc hr d.long ∙ e ∙ sym (ap (λ w. w c) (replaced_same r v (entry m))))
        | no z ↦ entry_set_other out r c x hc i c hc (λ y _. z y) ∙ d.left i c hi hc (omega arith) ∙ sym (ap (λ w. w c) (replaced_other r v (entry m) i z))
      ])

  pub row_all : (c : ℕ) (out : List ℤ) → 6 ≤ c → RowDone r v m c out → out ≡ listed (replaced r v (entry m))
  row_all c out h d = columns_all (replaced r v (entry m)) m c out h d

-- the rows before r are those of M
pub record RowsDone (M : Matrix) (r : ℕ) (out : List ℤ) : Type 0 where
  pub long : length out ≡ 36
  pub done : (i s : ℕ) → i < r → s < 6 → entry out i s ≡ M i s

module _ (M : Matrix) where
  pub rows_none : (out : List ℤ) → length out ≡ 36 → RowsDone M 0 out
  rows_none out l = record { long = l; done = λ i s hi hs. absurd (omega arith) }

  pub rows_more : (r : ℕ) (out new : List ℤ) → r < 6 → RowsDone M r out → new ≡ listed (replaced r (M r) (entry out)) → RowsDone M (r + 1) new
  rows_more r out new hr d e = record {
    long = ap length e ∙ length_listed _;
    done = λ i s hi hs.
        ap (λ x. entry x i s) e ∙ entry_listed (replaced r (M r) (entry out)) i s (omega arith) hs
        ∙ elim (ℕ_discrete i r) [ yes z ↦ rw z (ap (λ w. w s) (replaced_same r (M r) (entry out))) | no z ↦ ap (λ w. w s) (replaced_other r (M r) (entry out) i z) ∙ d.done i s (omega arith) hs ];
  }

  pub rows_all : (r : ℕ) (out : List ℤ) → 6 ≤ r → RowsDone M r out → out ≡ listed M
  rows_all r out h d = listed_is out M d.long (λ i s hi hs. d.done i s (omega arith) hs)
