-- What a list is read into, and which place of a list that is not read earns its refusal.
use Rattle.std.specs.Prelude.{◌≡◌, refl, Bool, true, false, cond, List, [], ◌∷◌, ◌++◌, map, ℕ, ◌<◌, ◌≤◌, ltb, length, take, Option, Some, None, Result, Ok, Err}
use Rattle.std.proofs.Common.{sym, ap, subst, ◌∙◌, append-nil, arith, length-append, ltb-true, ltb-false}
use Rattle.std.proofs.Math.Decide.{dec_lt}
use Rattle.std.proofs.lemmas.List.{take-append-le}
use Rattle.std.proofs.Math.Seq.{take-length}
use Rattle.matrix.specs.Matrix.{listed}
use Rattle.matrix.specs.Array.{least_form, operator_of}
use Rattle.matrix.specs.Operator.{SameOperator, Orthogonal, Reduced, LeastExponent}
use Rattle.matrix.specs.Laws.Operator.{same_operator_sym, same_operator_trans, same_orthogonal, least_same, least_unique}
use Rattle.matrix.specs.Laws.Array.{listed_same, length_listed, least_form_lem, least_exponent}
use Rattle.file.specs.File.{largest_exponent, length_for}
use Rattle.file.specs.Laws.File.{exponent_back, operator_back}
use Rattle.letter.specs.declared.Gate.{Gate}
use Rattle.letter.specs.Gate.{letter, gate_of}
use Rattle.letter.specs.Laws.Gate.{letter_of_gate}
use Rattle.gate.specs.Product.{product_of}
use Rattle.gate.specs.Reading.{largest_list, Reading, gates, refusal, least_of, read_letter, read_from, reading, operator_answer, operator_buffer}
use Rattle.gate.specs.Promise.{ReadInto, Deep, EarnsNine, EarnsEight, ProductPromise}
use Rattle.gate.specs.Laws.Product.{product_orthogonal}

-- the product and its least form stand for the same matrix
pub least_of_same : (w : List Gate) → SameOperator (product_of w) (operator_of (least_of w))
unfolding least_of
least_of_same w = same_operator_trans (listed_same (product_of w)) (least_form_lem (product_of w).exponent (listed (product_of w).matrix)).same

pub least_of_orthogonal : (w : List Gate) → Orthogonal (operator_of (least_of w))
least_of_orthogonal w = same_orthogonal (least_of_same w) (product_orthogonal w)

-- its exponent is the least exponent of the product
pub least_of_exponent : (w : List Gate) → LeastExponent (product_of w) (least_of w).exponent
unfolding least_of
least_of_exponent w =
    least_same (same_operator_sym (listed_same (product_of w)))
    (least_exponent (product_of w).exponent (listed (product_of w).matrix) (same_orthogonal (listed_same (product_of w)) (product_orthogonal w)))

pub least_of_reduced : (w : List Gate) → Reduced (operator_of (least_of w))
unfolding least_of
least_of_reduced w = (least_form_lem (product_of w).exponent (listed (product_of w).matrix)).reduced

pub least_of_long : (w : List Gate) → length (least_of w).matrix ≡ 36
unfolding least_of
least_of_long w = (least_form_lem (product_of w).exponent (listed (product_of w).matrix)).long (length_listed (product_of w).matrix)

-- ---- deep beginnings

not_deep : (w : List Gate) → (least_of w).exponent ≤ largest_exponent → Deep w → ⊥
not_deep w h d = let e = least_unique (least_of_exponent w) d.least in let a = d.above in omega arith

deep : (w : List Gate) → largest_exponent < (least_of w).exponent → Deep w
deep w h = record { exponent = (least_of w).exponent; least = least_of_exponent w; above = h }

-- no beginning of w, w itself among them, is deep
abbrev Shallow : List Gate → Type 0
Shallow w = (n : ℕ) → n ≤ length w → Deep (take n w) → ⊥

-- a letter more: its shorter beginnings are those of w
shorter : (w : List Gate) (g : Gate) → Shallow w → (n : ℕ) → n < length (w ++ g ∷ []) → Deep (take n (w ++ g ∷ [])) → ⊥
shorter w g s n h d =
    let l : n ≤ length w = let e = length-append w (g ∷ []) in omega arith in
    s n l (subst Deep (take-append-le n w (g ∷ []) l) d)

shallow_more : (w : List Gate) (g : Gate) → Shallow w → (least_of (w ++ g ∷ [])).exponent ≤ largest_exponent → Shallow (w ++ g ∷ [])
shallow_more w g s e n h d = elim (dec_lt n (length (w ++ g ∷ []))) [
  | yes l ↦ shorter w g s n l d
  | no l ↦ not_deep (w ++ g ∷ []) e (subst Deep (ap (λ x. take x (w ++ g ∷ [])) (let x : n ≡ length (w ++ g ∷ []) = omega arith in x) ∙ take-length (w ++ g ∷ [])) d)
]

-- ---- the letters bs behind the gates w, which are those of the bytes before them

-- what reading the whole list cs gives
abbrev Outcome : List ℕ → Reading → Type 0
Outcome cs (gates v) = (cs ≡ map letter v) × Shallow v
Outcome cs (refusal n) = (n ≡ 8 → EarnsEight cs) × (n ≡ 9 → EarnsNine cs)

map_snoc : (w : List Gate) (g : Gate) (bs : List ℕ) → map letter w ++ (letter g ∷ bs) ≡ map letter (w ++ g ∷ []) ++ bs
map_snoc [] g bs = refl
map_snoc (x ∷ w) g bs = ap (λ l. letter x ∷ l) (map_snoc w g bs)

module _ (cs : List ℕ) (w : List Gate) (b : ℕ) (bs : List ℕ) (e : cs ≡ map letter w ++ (b ∷ bs)) (s : Shallow w) where
  unknown_byte : gate_of b ≡ None → EarnsEight cs
  unknown_byte u = record {
    w = w;
    byte = b;
    rest = bs;
    beginning = record { letters = e; first = λ n h. s n (omega arith) };
    shallow = λ d. s (length w) (omega arith) (subst Deep (sym (take-length w)) d);
    unknown = u;
  }

  known_byte : (g : Gate) → gate_of b ≡ Some g → cs ≡ map letter (w ++ g ∷ []) ++ bs
  known_byte g u = e ∙ ap (λ x. map letter w ++ (x ∷ bs)) (letter_of_gate b g u) ∙ map_snoc w g bs

  one_letter : (rest : List Gate → Reading) → ((g : Gate) → cs ≡ map letter (w ++ g ∷ []) ++ bs → Shallow (w ++ g ∷ []) → Outcome cs (rest (w ++ g ∷ []))) → (l : Option Gate) → gate_of b ≡ l
      → Outcome cs (read_letter w rest l)
  one_letter rest more None u = (λ n. unknown_byte u, λ n. absurd (omega arith))
  one_letter rest more (Some g) u = go (ltb largest_exponent (least_of (w ++ g ∷ [])).exponent) refl
    where
      go : (t : Bool) → ltb largest_exponent (least_of (w ++ g ∷ [])).exponent ≡ t → Outcome cs (cond t (refusal 9) (rest (w ++ g ∷ [])))
      go true t = (
        λ n. absurd (omega arith),
        λ n. record { w = w ++ g ∷ []; rest = bs; beginning = record { letters = known_byte g u; first = shorter w g s }; deep = deep (w ++ g ∷ []) (ltb-true _ _ t) },
      )
      go false t = more g (known_byte g u) (shallow_more w g s (ltb-false _ _ t))

outcome : (cs : List ℕ) (w : List Gate) (bs : List ℕ) → cs ≡ map letter w ++ bs → Shallow w → Outcome cs (read_from w bs)
unfolding read_from
outcome cs w [] e s = (e ∙ append-nil (map letter w), s)
outcome cs w (b ∷ bs) e s = one_letter cs w b bs e s (λ v. read_from v bs) (λ g f t. outcome cs (w ++ g ∷ []) bs f t) (gate_of b) refl

-- of the whole list, 7 among the refusals
list_outcome : (bs : List ℕ) → Outcome bs (reading bs)
unfolding reading read_from least_of product_of least_form
list_outcome bs = go (ltb largest_list (length bs))
  where
    none : Shallow []
    none n h = not_deep (take n []) (let z : n ≡ 0 = omega arith in rw z (omega arith))

    go : (t : Bool) → Outcome bs (cond t (refusal 7) (read_from [] bs))
    go true = (λ n. absurd (omega arith), λ n. absurd (omega arith))
    go false = outcome bs [] bs refl none

-- ---- the promise, of the answer and the buffer that the definitions give

-- a list that is not deep fits a file
not_above : (w : List Gate) → Shallow w → (least_of w).exponent ≤ largest_exponent
not_above w s = elim (dec_lt largest_exponent (least_of w).exponent) [
  | yes h ↦ absurd (s (length w) (omega arith) (subst Deep (sym (take-length w)) (deep w h)))
  | no h ↦ omega arith
]

pub read_small : (bs : List ℕ) (w : List Gate) → reading bs ≡ gates w → (least_of w).exponent ≤ largest_exponent
read_small bs w e = not_above w (subst (Outcome bs) e (list_outcome bs)).1

pub read_into : (bs : List ℕ) (w : List Gate) → reading bs ≡ gates w → ReadInto bs w
read_into bs w e =
    record {
      letters = (subst (Outcome bs) e (list_outcome bs)).0;
      multiplies = record { same = subst (SameOperator (product_of w)) (sym (operator_back (least_of w).exponent (least_of w).matrix (read_small bs w e) (least_of_orthogonal w) (least_of_long w))) (least_of_same w) };
      least = subst (LeastExponent (product_of w)) (sym (exponent_back (least_of w).exponent (least_of w).matrix)) (least_of_exponent w);
      count = exponent_back (least_of w).exponent (least_of w).matrix;
    }

-- an answer above 6 is that of the reading
as_read : (n : ℕ) (x : Reading) (k : ℕ) → 6 < k → Err k ≡ operator_answer n x → x ≡ refusal k
as_read n (refusal m) k h e = cc
as_read n (gates w) k h e = go (ltb n (length_for (least_of w).exponent)) e
  where
    go : (t : Bool) → Err k ≡ cond t (Err 6) (Ok (least_of w).exponent) → gates w ≡ refusal k
    go true e = let z : k ≡ 6 = cc in absurd (omega arith)
    go false e = let z : ◌≡◌ {A = ℕ} 0 1 = cc in absurd (omega arith)

pub promised : (bs old : List ℕ) {new : List ℕ} {a : Result ℕ ℕ} → a ≡ operator_answer (length old) (reading bs) → new ≡ operator_buffer old (reading bs) → ProductPromise bs old new a
promised bs old p q = record {
  answer = p;
  buffer = q;
  read = read_into bs;
  eight = λ e. (subst (Outcome bs) (as_read (length old) (reading bs) 8 (omega arith) (sym e ∙ p)) (list_outcome bs)).0 refl;
  nine = λ e. (subst (Outcome bs) (as_read (length old) (reading bs) 9 (omega arith) (sym e ∙ p)) (list_outcome bs)).1 refl;
}
