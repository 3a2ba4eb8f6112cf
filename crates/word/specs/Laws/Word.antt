-- The word of a Clifford: what it multiplies to, how long it is, and which letters it has.
use Rattle.std.specs.Prelude.{◌≡◌, refl, Bool, true, false, cond, ◌&&◌, List, [], ◌∷◌, ◌++◌, map, ℕ, zero, suc, ◌+◌, ◌*◌, ◌%◌, ◌≤◌, eqb, leb, get_or, length}
use Rattle.std.proofs.Common.{sym, ap, ap₂, subst, ◌∙◌, arith, length-append, eqb-true, leb-true}
use Rattle.matrix.specs.Matrix.{Same, scaled}
use Rattle.clifford.specs.Columns.{columns_matrix, are_column_bytes, sign_of, signed, different, inversions, is_even, are_permutation}
use Rattle.clifford.specs.Laws.Columns.{permutation_sound}
use Rattle.clifford.specs.Laws.Signed.{signed_matrix_lem}
use Rattle.letter.specs.declared.Gate.{Gate}
use Rattle.letter.specs.Gate.{word_matrix, is_cz, is_cs, number}
use Rattle.word.specs.Word.{bit, is_low, part_words, rotation_words, local_columns, on_second, on_qubit, rotations_of, parts_of, halves_even, clifford_word, word_sign, crossings}
use Rattle.letter.specs.Laws.Signed.{Perm, bytes, from_bytes, evaluated, turned_all}
use Rattle.matrix.specs.Laws.Test.{and_left, and_right}
use Rattle.letter.specs.Laws.Every.{every_bool, every_bool_lem}
use Rattle.letter.specs.Laws.Bytes.{bytes_from, turned_bytes}
use Rattle.word.specs.Laws.Finite.{rows_bytes, minuses_bytes}
use Rattle.word.specs.Laws.Decomposition.{Proper, decomposes}
use Rattle.letter.specs.Laws.Matrix.{evaluated_matrix}

-- ---- letters of a word

pub number_append : (p : Gate → Bool) (u v : List Gate) → number p (u ++ v) ≡ number p u + number p v
number_append p [] v = omega arith
number_append p (x ∷ u) v = let h = number_append p u v in omega arith

-- what a test says of each word of a table it says of every lookup
every_word : (p : List Gate → Bool) → List (List Gate) → Bool
every_word p [] = p []
every_word p (w ∷ ws) = p w && every_word p ws

word_at : (p : List Gate → Bool) (ws : List (List Gate)) → every_word p ws ≡ true → (k : ℕ) → p (get_or ws k []) ≡ true
unfolding every_word
word_at p [] t k = t
word_at p (w ∷ ws) t zero = and_left (p w) (every_word p ws) t
word_at p (w ∷ ws) t (suc k) = word_at p ws (and_right (p w) (every_word p ws) t) k

-- at most n letters, k of them Z, none C
has : ℕ → ℕ → List Gate → Bool
has n k w = leb (length w) n && (eqb (number is_cz w) k && eqb (number is_cs w) 0)

record Has (n k : ℕ) (w : List Gate) : Type 0 where
  short : length w ≤ n
  zs : number is_cz w ≡ k
  no_cs : number is_cs w ≡ 0

has_sound : (n k : ℕ) (w : List Gate) → has n k w ≡ true → Has n k w
unfolding has
has_sound n k w t =
    let u = and_right (leb (length w) n) _ t in
    record {
      short = leb-true _ _ (and_left (leb (length w) n) _ t);
      zs = eqb-true _ _ (and_left (eqb (number is_cz w) k) _ u);
      no_cs = eqb-true _ _ (and_right (eqb (number is_cz w) k) _ u);
    }

both_append : {m n j k : ℕ} {u v : List Gate} → Has m j u → Has n k v → Has (m + n) (j + k) (u ++ v)
both_append {m} {n} {j} {k} {u} {v} a b = record {
  short = simp length-append (omega arith);
  zs = simp number_append (omega arith);
  no_cs = simp number_append (omega arith);
}

-- ---- the parts of the word

low_rotation_has : (k : ℕ) → Has 6 0 (get_or rotation_words k [])
unfolding rotation_words every_word has
low_rotation_has k = has_sound 6 0 _ (word_at (has 6 0) rotation_words refl k)

high_rotation_has : (k : ℕ) → Has 6 0 (map on_second (get_or rotation_words k []))
unfolding rotation_words every_word has
high_rotation_has k = has_sound 6 0 _ (word_at (λ w. has 6 0 (map on_second w)) rotation_words refl k)

pub rotation_length : (second : Bool) (k : ℕ) → length (on_qubit second (get_or rotation_words k [])) ≤ 6
rotation_length true k = (high_rotation_has k).short
rotation_length false k = (low_rotation_has k).short

pub part_length : (k : ℕ) → length (get_or part_words k []) ≤ 7
unfolding part_words every_word
part_length k = leb-true _ _ (word_at (λ w. leb (length w) 7) part_words refl k)

-- a Z for each of three columns that is not low
abbrev crossed3 : Bool → Bool → Bool → ℕ
crossed3 a b c = cond a 0 1 + cond b 0 1 + cond c 0 1

abbrev bits3 : Bool → Bool → Bool → ℕ
bits3 a b c = 4 * bit a + 2 * bit b + bit c

first_has : (a b c : Bool) → Has 7 (crossed3 a b c) (get_or part_words (bits3 a b c) [])
unfolding part_words every_bool has
first_has a b c =
    has_sound 7 (crossed3 a b c) _
    (every_bool_lem (λ c. has 7 (crossed3 a b c) (get_or part_words (bits3 a b c) []))
    (every_bool_lem (λ b. every_bool (λ c. has 7 (crossed3 a b c) (get_or part_words (bits3 a b c) [])))
    (every_bool_lem (λ a. every_bool (λ b. every_bool (λ c. has 7 (crossed3 a b c) (get_or part_words (bits3 a b c) [])))) refl a) b) c)

second_has : (a b c : Bool) → Has 2 0 (get_or part_words (8 + bits3 a b c) [])
unfolding part_words every_bool has
second_has a b c =
    has_sound 2 0 _
    (every_bool_lem (λ c. has 2 0 (get_or part_words (8 + bits3 a b c) []))
    (every_bool_lem (λ b. every_bool (λ c. has 2 0 (get_or part_words (8 + bits3 a b c) [])))
    (every_bool_lem (λ a. every_bool (λ b. every_bool (λ c. has 2 0 (get_or part_words (8 + bits3 a b c) [])))) refl a) b) c)

rotations_have : (even : Bool) (bs : List ℕ) → Has 12 0 (rotations_of even bs)
rotations_have even bs = both_append (low_rotation_has _) (high_rotation_has _)

pub rotations_length : (even : Bool) (bs : List ℕ) → length (rotations_of even bs) ≤ 12
rotations_length even bs = (rotations_have even bs).short

parts_have : (bs : List ℕ) → Has 9 (crossings bs + 0) (parts_of bs)
parts_have bs =
    both_append (first_has (is_low (get_or bs 0 0)) (is_low (get_or bs 1 0)) (is_low (get_or bs 2 0)))
    (second_has (is_low (get_or bs 3 0)) (is_low (get_or bs 4 0)) (is_low (get_or bs 5 0)))

word_has : (bs : List ℕ) → Has 21 (0 + (crossings bs + 0)) (clifford_word bs)
unfolding clifford_word
word_has bs = both_append (rotations_have (halves_even bs) (local_columns bs)) (parts_have bs)

pub word_length : (bs : List ℕ) → length (clifford_word bs) ≤ 21
word_length bs = (word_has bs).short

-- no letter is C
pub word_cs : (bs : List ℕ) → number is_cs (clifford_word bs) ≡ 0
word_cs bs = (word_has bs).no_cs

-- a Z for each column that crosses
pub word_z : (bs : List ℕ) → number is_cz (clifford_word bs) ≡ crossings bs
word_z bs = (word_has bs).zs ∙ omega arith

-- ---- what it multiplies to

proper : (g : Perm) → are_permutation (bytes g) ≡ true → is_even (bytes g) ≡ true → Proper g
unfolding are_permutation is_even
proper g p e = record {
  permutes = subst (λ l. different l ≡ true) (rows_bytes g) (and_right (are_column_bytes (bytes g)) _ (and_right (eqb (length (bytes g)) 6) _ p));
  even = sym (ap₂ (λ l m. (inversions l + m) % 2) (rows_bytes g) (minuses_bytes g)) ∙ eqb-true _ _ e;
}

pub word_matrix_lem : (bs : List ℕ) → are_permutation bs ≡ true → is_even bs ≡ true → Same 6 (word_matrix (clifford_word bs)) (scaled (sign_of (word_sign bs)) (columns_matrix bs))
word_matrix_lem bs p e i j hi hj =
    let g : Perm = from_bytes bs in
    let b : bytes g ≡ bs = bytes_from bs p in
    let w : evaluated (clifford_word (bytes g)) ≡ turned_all (halves_even (bytes g)) g = decomposes g (proper g (rw b p) (rw b e)) in
    evaluated_matrix (clifford_word bs) (word_cs bs) i j hi hj
    ∙ ap (λ x. columns_matrix (bytes (evaluated (clifford_word x))) i j) (sym b)
    ∙ ap (λ h. columns_matrix (bytes h) i j) w
    ∙ ap (λ x. columns_matrix x i j) (turned_bytes (halves_even (bytes g)) g)
    ∙ ap (λ x. columns_matrix (signed (word_sign x) x) i j) b
    ∙ signed_matrix_lem (word_sign bs) bs (permutation_sound bs p) i j hi hj
