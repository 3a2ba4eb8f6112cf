-- Of bytes that are longer than any 513 sheets, what follows these decides nothing.
use Rattle.std.specs.Prelude.{◌≡◌, ◌&&◌, List, ◌++◌, leb, length}
use Rattle.std.proofs.Math.Path.{refl, ap, ap₂}
use Rattle.std.proofs.Common.{sym, ◌∙◌}
use Rattle.std.proofs.Math.Bool.{not}
use Prim.Native.Nat.{ℕ, zero, suc, ◌+◌, ◌*◌, ◌-◌, ◌≤◌, ◌<◌}
use native.Mathlib.Omega.{arith}
use Rattle.std.proofs.Math.ListN.{get_or, length-append, get_or-append}
use borrow.Author.Tests.{le-leb, ne_eqb}
use Rattle.matrix.specs.Laws.Range.{first_cong, first_most}
use Rattle.sheet_bytes.specs.Bytes.{shortest, longest}
use Rattle.bundle.specs.Bundle.{most_sheets, length_at, start_of}
use Rattle.bundle_write.specs.Writing.{is_whole, stored_count, sheets_refusal}

-- no byte is above 255, and so no sheet says more than 199 bytes
module _ (s rest : List ℕ) (byte : (i : ℕ) → get_or s i 0 < 256) (long : 199 * suc most_sheets < length s) where
  start_small : (n : ℕ) → start_of s n ≤ 199 * n
  unfolding start_of
  start_small zero = omega arith
  start_small (suc n) = let h = start_small n in let b = byte (start_of s n) in omega arith

  first_alike : (n : ℕ) → n ≤ suc most_sheets → get_or (s ++ rest) (start_of s n) 0 ≡ get_or s (start_of s n) 0
  first_alike n l = let h = start_small n in get_or-append s rest 0 (start_of s n) (omega arith)

  start_alike : (n : ℕ) → n ≤ suc most_sheets → start_of (s ++ rest) n ≡ start_of s n
  unfolding start_of
  start_alike zero l = refl
  start_alike (suc n) l =
      let a = start_alike n (omega arith) in
      ap₂ (λ x y. x + (y - 56)) a (ap (λ k. get_or (s ++ rest) k 0) a ∙ first_alike n (omega arith))

  whole_alike : (n : ℕ) → n < suc most_sheets → is_whole (s ++ rest) (start_of (s ++ rest) n) ≡ is_whole s (start_of s n)
  whole_alike n l =
      let at = start_of s n in
      let h = start_small n in
      let b = byte at in
      let f : length_at (s ++ rest) at ≡ length_at s at = ap (λ x. x - 56) (first_alike n (omega arith)) in
      let k = length-append s rest in
      ap (is_whole (s ++ rest)) (start_alike n (omega arith))
      ∙ ap₂ (λ x t. leb shortest x && (leb x longest && t)) f
      (le-leb (at + length_at (s ++ rest) at) (length (s ++ rest)) (omega arith) ∙ sym (le-leb (at + length_at s at) (length s) (omega arith)))

  pub long_sheets : sheets_refusal (s ++ rest) ≡ sheets_refusal s
  unfolding sheets_refusal
  long_sheets =
      let e : stored_count (s ++ rest) ≡ stored_count s = first_cong _ _ 0 (suc most_sheets) (λ i l u. ap not (whole_alike i (omega arith))) in
      let m = first_most (λ n. not (is_whole s (start_of s n))) 0 (suc most_sheets) in
      let h = start_small (stored_count s) in
      let a = ap (start_of (s ++ rest)) e ∙ start_alike (stored_count s) (omega arith) in
      let k = length-append s rest in
      rw (
        ne_eqb (start_of (s ++ rest) (stored_count (s ++ rest))) (length (s ++ rest)) (λ z. omega arith),
        ne_eqb (start_of s (stored_count s)) (length s) (λ z. omega arith),
        e,
      )
