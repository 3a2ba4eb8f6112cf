-- What stands in the list: the plain sheets of count 0, 1 and 2.
use Rattle.std.specs.Prelude.{◌≡◌, ◌↔◌, Bool, true, false, cond, ℕ, zero, suc, ◌+◌, ◌<◌, ◌≤◌, eqb, length}
use Rattle.std.proofs.Math.Path.{refl}
use Rattle.std.proofs.Common.{sym, ap, ◌∙◌, subst, arith, eq-eqb, eqb-true}
use Rattle.std.proofs.Math.Logic.{⊎_elim}
use mathlib.Core.List.Memᴰ
use mathlib.Core.List.{List, [], ◌∷◌, ◌++◌, map, flat_map, Memᴰ}
use Rattle.std.proofs.Math.Decide.{ℕ_discrete}
use Rattle.matrix.specs.Range.{tabulate}
use Rattle.reduction.specs.Laws.NormalForm.{Numbers, more_numbers}
use Rattle.sheet_bytes.specs.Bytes.{sheet_numbers}
use Rattle.sheet_bytes.specs.Sheet.{sheet_refusal}
use Rattle.short_sheet.specs.Short.{Plain, plain_bytes, sequences, if_read, plain_sheets, short_sheets}
use Rattle.short_sheet.specs.Laws.Plain.{plain_numbers, read_plain, read_numbers, plain_bytes_lem}

-- ---- lists put together from parts

module _ {A B : Type 0} (f : A → List B) where
  in_parts : (x : B) (l : List A) → Memᴰ x (flat_map f l) → (a : A) × Memᴰ a l × Memᴰ x (f a)
  unfolding flat_map
  in_parts x [] m = absurd (Memᴰ.not-nil m)
  in_parts x (a ∷ l) m =
      ⊎_elim (λ h. (a, Memᴰ.head refl, h)) (λ n. let (b, i, h) = in_parts x l n in (b, Memᴰ.tail i, h)) (Memᴰ.append_cases (f a) m)

  parts_have : {x : B} {a : A} (l : List A) → Memᴰ a l → Memᴰ x (f a) → Memᴰ x (flat_map f l)
  unfolding flat_map
  parts_have [] i h = absurd (Memᴰ.not-nil i)
  parts_have {x} (b ∷ l) i h =
      ⊎_elim (λ e. Memᴰ.append_left (flat_map f l) (subst (λ a. Memᴰ x (f a)) e h)) (λ n. Memᴰ.append_right (f b) (parts_have l n h)) (Memᴰ.cases_cons i)

-- ---- sequences of numbers

in_range : (g a k : ℕ) → Memᴰ g (tabulate (λ g. g) a k) → (a ≤ g) × (g < a + k)
unfolding tabulate
in_range g a zero m = absurd (Memᴰ.not-nil m)
in_range g a (suc k) m = ⊎_elim (λ e. (omega arith, omega arith)) (λ n. let (l, u) = in_range g (suc a) k n in (omega arith, omega arith)) (Memᴰ.cases_cons m)

range_has : (g a k : ℕ) → a ≤ g → g < a + k → Memᴰ g (tabulate (λ g. g) a k)
unfolding tabulate
range_has g a zero l u = absurd (omega arith)
range_has g a (suc k) l u = elim (ℕ_discrete g a) [
  | yes e ↦ Memᴰ.head e
  | no e ↦ Memᴰ.tail (range_has g (suc a) k (omega arith) (omega arith))
]

pub in_sequences : (n : ℕ) (gs : List ℕ) → Memᴰ gs (sequences n) → Numbers gs × (length gs ≡ n)
unfolding sequences
in_sequences zero gs m =
    ⊎_elim (λ e. subst (λ x. Numbers x × (length x ≡ 0)) (sym e) (λ i h. absurd (omega arith), refl)) (λ n. absurd (Memᴰ.not-nil n)) (Memᴰ.cases_cons m)
in_sequences (suc n) gs m =
    let (g, i, j) = in_parts (λ g. map (λ gs. g ∷ gs) (sequences n)) gs (tabulate (λ g. g) 1 15) m in
    let (hs, k, e) = Memᴰ.of_map (λ gs. g ∷ gs) (sequences n) j in
    let (l, u) = in_range g 1 15 i in
    let (r, t) = in_sequences n hs k in
    subst (λ x. Numbers x × (length x ≡ suc n)) e (more_numbers g hs (l, omega arith) r, ap suc t)

sequences_have : (n : ℕ) (gs : List ℕ) → Numbers gs → length gs ≡ n → Memᴰ gs (sequences n)
unfolding sequences
sequences_have zero [] r e = Memᴰ.head refl
sequences_have zero (g ∷ gs) r e = absurd (omega arith)
sequences_have (suc n) [] r e = absurd (omega arith)
sequences_have (suc n) (g ∷ gs) r e =
    let (l, u) = r 0 (omega arith) in
    parts_have (λ g. map (λ gs. g ∷ gs) (sequences n)) (tabulate (λ g. g) 1 15) (range_has g 1 15 l (omega arith))
    (Memᴰ.map (λ gs. g ∷ gs) (sequences_have n gs (λ i h. r (suc i) (omega arith)) (omega arith)))

-- ---- sheets

in_if_read : (s t : List ℕ) → Memᴰ s (if_read t) → (s ≡ t) × (sheet_refusal t ≡ 0)
in_if_read s t m = go (eqb (sheet_refusal t) 0) refl m
  where
    go : (b : Bool) → eqb (sheet_refusal t) 0 ≡ b → Memᴰ s (cond b (t ∷ []) []) → (s ≡ t) × (sheet_refusal t ≡ 0)
    go true e m = ⊎_elim (λ h. (h, eqb-true (sheet_refusal t) 0 e)) (λ n. absurd (Memᴰ.not-nil n)) (Memᴰ.cases_cons m)
    go false e m = absurd (Memᴰ.not-nil m)

if_read_has : (s : List ℕ) → sheet_refusal s ≡ 0 → Memᴰ s (if_read s)
if_read_has s z = rw (eq-eqb (sheet_refusal s) 0 z) (Memᴰ.head refl)

pub in_plain : (n : ℕ) (s : List ℕ) → Memᴰ s (plain_sheets n) ↔ (Plain s × (length (sheet_numbers s) ≡ n))
unfolding plain_sheets
in_plain n s = (
  λ m.
      let (gs, i, j) = in_parts (λ gs. if_read (plain_bytes gs)) s (sequences n) m in
      let (e, z) = in_if_read s (plain_bytes gs) j in
      subst (λ x. Plain x × (length (sheet_numbers x) ≡ n)) (sym e) (read_plain gs z, ap length (plain_numbers gs) ∙ (in_sequences n gs i).1),
  λ (p, e).
      let b = plain_bytes_lem p in
      Memᴰ.cast b (parts_have (λ gs. if_read (plain_bytes gs)) (sequences n) (sequences_have n (sheet_numbers s) (read_numbers s p.read) e)
      (if_read_has (plain_bytes (sheet_numbers s)) (subst (λ x. sheet_refusal x ≡ 0) b p.read))),
)

pub in_short : (s : List ℕ) → Memᴰ s short_sheets ↔ (Plain s × (length (sheet_numbers s) ≤ 2))
unfolding short_sheets
in_short s = (
  λ m. ⊎_elim (λ i. ⊎_elim (up 0 (omega arith)) (up 1 (omega arith)) (Memᴰ.append_cases (plain_sheets 0) i)) (up 2 (omega arith)) (Memᴰ.append_cases (plain_sheets 0 ++ plain_sheets 1) m),
  λ (p, h). down (length (sheet_numbers s)) p refl h,
)
  where
    up : (n : ℕ) → n ≤ 2 → Memᴰ s (plain_sheets n) → Plain s × (length (sheet_numbers s) ≤ 2)
    up n h m = let (p, e) = (in_plain n s).0 m in (p, omega arith)

    down : (n : ℕ) → Plain s → length (sheet_numbers s) ≡ n → n ≤ 2 → Memᴰ s (plain_sheets 0 ++ plain_sheets 1 ++ plain_sheets 2)
    down zero p e h = Memᴰ.append_left (plain_sheets 2) (Memᴰ.append_left (plain_sheets 1) ((in_plain 0 s).1 (p, e)))
    down (suc zero) p e h = Memᴰ.append_left (plain_sheets 2) (Memᴰ.append_right (plain_sheets 0) ((in_plain 1 s).1 (p, e)))
    down (suc (suc zero)) p e h = Memᴰ.append_right (plain_sheets 0 ++ plain_sheets 1) ((in_plain 2 s).1 (p, e))
    down (suc (suc (suc n))) p e h = absurd (omega arith)
