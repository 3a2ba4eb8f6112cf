-- Where a program's bytes stand, and what holds of one that earns no refusal.
use Rattle.std.proofs.Math.Path.{◌≡◌, refl}
use Rattle.std.specs.Prelude.{Bool, not, cond, ◌||◌, List, ◌≢◌, ℕ, ◌+◌, ◌*◌, ◌%◌, ◌≤◌, ◌<◌, length}
use Rattle.std.proofs.Math.Bool.{true, false}
use Rattle.std.proofs.Math.Nat.{div-add-mod}
use Rattle.std.proofs.Common.{mul-le-mul_left, mul-le-mul_right, mul-suc, arith}
use Rattle.std.proofs.Math.Dec.{eqb, ltb}
use borrow.Author.Tests.{eqb-true, eqb-false, ltb-true, ltb-false, not-true, eq-eqb, ne_eqb, lt-ltb, le-ltb}
use Rattle.matrix.specs.Laws.Test.{and_left, and_right}
use Rattle.matrix.specs.Laws.Range.{every_sound}
use Rattle.block.specs.Block.{Block, most_blocks, qubits, block_count, block_at, is_on_two, are_on_two, program_refusal}

-- ---- places

module _ (w : ℕ) (b : List ℕ) (n : ℕ) (h : 2 ≤ w) (l : n < block_count w b) where
  -- the first two bytes of a block are there
  pub block_inside : w * n + 1 < length b
  block_inside =
      let a = div-add-mod (length b) w in
      let m = mul-le-mul_left w l in
      let e = mul-suc w n in
      omega arith

  -- there are fewer blocks than bytes
  pub block_number : n + 1 < length b
  block_number = let a = block_inside in let m = mul-le-mul_right n h in omega arith

-- ---- no refusal

pub record OnTwo (p : Block) : Type 0 where
  pub first : p.first < qubits
  pub second : p.second < qubits
  pub apart : p.first ≢ p.second

on_two_sound : (p : Block) → is_on_two p ≡ true → OnTwo p
on_two_sound p h =
    let a = and_right (ltb p.first qubits) _ h in
    record {
      first = ltb-true _ _ (and_left (ltb p.first qubits) _ h);
      second = ltb-true _ _ (and_left (ltb p.second qubits) _ a);
      apart = eqb-false _ _ (not-true _ (and_right (ltb p.second qubits) _ a));
    }

-- a program that earns neither 24 nor 25
pub record Accepted (w : ℕ) (b : List ℕ) : Type 0 where
  pub whole : length b % w ≡ 0
  pub few : block_count w b ≤ most_blocks
  pub on_two : (n : ℕ) → n < block_count w b → OnTwo (block_at w b n)

module _ (w : ℕ) (b : List ℕ) where
  pub accepted : program_refusal w b ≡ 0 → Accepted w b
  unfolding program_refusal
  accepted z = go (eqb (length b % w) 0) (ltb most_blocks (block_count w b)) (are_on_two w b) refl refl refl z
    where
      go : (t u v : Bool) → eqb (length b % w) 0 ≡ t → ltb most_blocks (block_count w b) ≡ u → are_on_two w b ≡ v
          → ◌≡◌ {A = ℕ} (cond (not t || u) 24 (cond (not v) 25 0)) 0 → Accepted w b
      go false u v e f g z = absurd (omega arith)
      go true true v e f g z = absurd (omega arith)
      go true false false e f g z = absurd (omega arith)
      go true false true e f g z = record {
        whole = eqb-true _ _ e;
        few = ltb-false _ _ f;
        on_two = λ n l. on_two_sound (block_at w b n) (every_sound (block_count w b) (λ n. is_on_two (block_at w b n)) g n l);
      }

  -- ---- the refusal, test by test

  pub refused_part : length b % w ≢ 0 → program_refusal w b ≡ 24
  unfolding program_refusal
  refused_part h = rw (ne_eqb (length b % w) 0 h)

  module _ (h : length b % w ≡ 0) where
    pub refused_many : most_blocks < block_count w b → program_refusal w b ≡ 24
    unfolding program_refusal
    refused_many k = rw (eq-eqb (length b % w) 0 h, lt-ltb most_blocks (block_count w b) k)

    module _ (k : block_count w b ≤ most_blocks) where
      pub refused_qubits : are_on_two w b ≡ false → program_refusal w b ≡ 25
      unfolding program_refusal
      refused_qubits p = rw (eq-eqb (length b % w) 0 h, le-ltb most_blocks (block_count w b) k, p)

      pub refused_none : are_on_two w b ≡ true → program_refusal w b ≡ 0
      unfolding program_refusal
      refused_none p = rw (eq-eqb (length b % w) 0 h, le-ltb most_blocks (block_count w b) k, p)
