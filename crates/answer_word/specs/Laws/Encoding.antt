-- Parts that have room are found in their word.
use Rattle.std.specs.Prelude.{◌≢◌, ◌≡◌, ℕ, ◌≤◌}
use Rattle.std.proofs.Common.{ap, ◌∙◌, arith, eq-eqb, ne_eqb}
use Rattle.answer_word.specs.Encoding.{packed, Parts, refused, given, encoded, Fits, bits, decoded}

-- an answer that is not refusal 0 has a number from 1 on, if it is a refusal
pub numbered : {A : Type 0} {a : A} {n : ℕ} (refusal : ℕ → A) → a ≢ refusal 0 → a ≡ refusal n → 1 ≤ n
numbered {n = n} refusal h e = let z : n ≢ 0 = λ z. h (e ∙ ap refusal z) in omega arith

-- a refusal's word is its number, with no other bit
pub refusal_alone : (n : ℕ) → encoded (refused n) ≡ n
refusal_alone n = omega arith

-- so a word is a refusal's exactly if its low eight bits are not all 0
pub parts_back : (p : Parts) → Fits p → decoded (encoded p) ≡ p
parts_back (refused n) h =
    let w = packed n 0 0 0 0 in
    let e : bits 0 8 w ≡ n = omega arith in
    rw (ne_eqb (bits 0 8 w) 0 (λ z. omega arith)) (cc)
parts_back (given v l o p) h =
    let w = packed 0 v l o p in
    let e₄ : bits 56 8 w ≡ p = omega arith in
    let e₃ : bits 48 8 w ≡ o = omega arith in
    let e₂ : bits 32 16 w ≡ l = omega arith in
    let e₁ : bits 8 24 w ≡ v = omega arith in
    rw (eq-eqb (bits 0 8 w) 0 (omega arith)) (cc)
