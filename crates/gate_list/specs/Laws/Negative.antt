-- The list of the generators gs and of the negative of a Clifford has the same letters and the other sign.
use Rattle.std.specs.Prelude.{◌≡◌, false, true, List, [], ◌∷◌, ◌++◌, ℕ, ◌+◌, ◌%◌}
use Rattle.std.proofs.Common.{sym, ap, ap₂, ◌∙◌, arith}
use Rattle.clifford.specs.Columns.{signed, are_permutation}
use Rattle.reduction.specs.Laws.NormalForm.{Numbers}
use Rattle.letter.specs.declared.Gate.TheVariants.{Cs}
use Rattle.letter.specs.Composition.{composed}
use Rattle.letter.specs.Laws.Signed.{bytes, from_bytes, turned_all, times, times_turned_r}
use Rattle.letter.specs.Laws.Bytes.{bytes_from, turned_bytes, composed_bytes}
use Rattle.letter.specs.Laws.Matrix.{composed_permutation}
use Rattle.word.specs.Word.{clifford_word, word_sign}
use Rattle.word.specs.Laws.Negative.{word_negated, word_sign_negated}
use Rattle.gate_list.specs.List.{IsClifford, left_of, right_of, stretches, signs}
use Rattle.gate_list.specs.Laws.List.{numbers_head, numbers_tail, both_cliffords}

-- a sign of the right factor is one of the product
composed_negated : (bs cs : List ℕ) → are_permutation bs ≡ true → are_permutation cs ≡ true → composed bs (signed 1 cs) ≡ signed 1 (composed bs cs)
composed_negated bs cs p q =
    let g = from_bytes bs in
    let h = from_bytes cs in
    ap₂ (λ x y. composed x (signed 1 y)) (sym (bytes_from bs p)) (sym (bytes_from cs q))
    ∙ ap (composed (bytes g)) (sym (turned_bytes false h))
    ∙ composed_bytes g (turned_all false h)
    ∙ ap bytes (times_turned_r false g h)
    ∙ turned_bytes false (times g h)
    ∙ ap (signed 1) (sym (composed_bytes g h) ∙ ap₂ composed (bytes_from bs p) (bytes_from cs q))

pub stretches_negated : (bs gs cs : List ℕ) → IsClifford bs → Numbers gs → IsClifford cs → stretches bs gs (signed 1 cs) ≡ stretches bs gs cs
unfolding stretches
stretches_negated bs [] cs b n c =
    ap clifford_word (composed_negated bs cs b.permutation c.permutation) ∙ word_negated (composed bs cs) (composed_permutation bs cs b.permutation c.permutation)
stretches_negated bs (g ∷ gs) cs b n c =
    let (l, u) = numbers_head g gs n in
    let (a, d) = both_cliffords g l u in
    ap (λ w. clifford_word (composed bs (left_of g)) ++ Cs ∷ w) (stretches_negated (right_of g) gs cs d (numbers_tail g gs n) c)

pub signs_negated : (bs gs cs : List ℕ) → IsClifford bs → Numbers gs → IsClifford cs → (signs bs gs (signed 1 cs) + signs bs gs cs) % 2 ≡ 1
unfolding signs
signs_negated bs [] cs b n c =
    let e : word_sign (composed bs (signed 1 cs)) ≡ word_sign (signed 1 (composed bs cs)) = ap word_sign (composed_negated bs cs b.permutation c.permutation) in
    let o = word_sign_negated (composed bs cs) (composed_permutation bs cs b.permutation c.permutation) in
    rw (e, o) (omega arith)
signs_negated bs (g ∷ gs) cs b n c =
    let (l, u) = numbers_head g gs n in
    let (a, d) = both_cliffords g l u in
    let h = signs_negated (right_of g) gs cs d (numbers_tail g gs n) c in
    doubled (word_sign (composed bs (left_of g))) (signs (right_of g) gs (signed 1 cs)) (signs (right_of g) gs cs) h
  where
    doubled : (s x y : ℕ) → (x + y) % 2 ≡ 1 → (s + x + (s + y)) % 2 ≡ 1
    doubled s x y h = omega arith
