-- The letters of a text's statements, written from the last place to the first.
use Rattle.std.specs.Prelude.{◌≡◌, refl, ℕ, suc, ◌-◌, ◌≤◌, ◌<◌, get_or, take, set, Some, Ok}
use Rattle.std.proofs.Math.Path.{sym, ap, ap₂}
use Rattle.std.proofs.Common.{◌∙◌, arith, length-append, length-drop, length-set, take-append-drop, drop_of_length-le, take-suc, length-take-le}
use mathlib.Core.List.{List, [], ◌∷◌, ◌++◌, map, append-nil, append_assoc}
use Rattle.std.proofs.Math.ListN.{length, drop}
use Rattle.std.proofs.lemmas.List.{length-map, nil_from_length, set_at}
use Rattle.std.proofs.Math.Seq.{append_snoc}
use Rattle.file.specs.File.{written}
use Rattle.letter.specs.declared.Gate.{Gate}
use Rattle.letter.specs.Gate.{letter}
use Rattle.gate.specs.Reading.{Reading, gates, refusal}
use Rattle.qasm.specs.Reading.{lines, earlier, statements}
use Rattle.qasm.specs.Promise.{size}
use Rattle.qasm.specs.Laws.Answer.{sized}
use Rattle.qasm_read.specs.Statements.{StatementAt, NoStatement, read_from, list_in}
use Rattle.qasm_read.specs.Laws.Statement.{no_statement}

pub list_in_lem : (r : Reading) (n : ℕ) → Ok n ≡ size (map letter) r → (r ≡ gates (list_in r)) × (n ≡ length (list_in r))
list_in_lem r n e =
    let s = sized (map letter) r n e in
    let l = ap list_in s.is in
    (s.is ∙ ap gates (sym l), s.long ∙ length-map s.list letter ∙ ap length (sym l))

-- a letter before those at the back
set_before : (old back rest : List ℕ) (n x : ℕ) → 0 < n → n ≤ length old → set ((take n old ++ back) ++ rest) (n - 1) x ≡ (take (n - 1) old ++ x ∷ back) ++ rest
set_before old back rest n x h l =
    let p = take (n - 1) old in
    let y = get_or old (n - 1) 0 in
    let e : n ≡ suc (n - 1) = omega arith in
    let t : take n old ≡ p ++ y ∷ [] = ap (λ k. take k old) e ∙ take-suc old (n - 1) 0 (omega arith) in
    ap (λ f. set ((f ++ back) ++ rest) (n - 1) x) t
    ∙ ap (λ f. set (f ++ rest) (n - 1) x) (append_snoc p y back)
    ∙ ap (λ f. set f (n - 1) x) (append_assoc p (y ∷ back) rest)
    ∙ set_at p y (back ++ rest) x (n - 1) (length-take-le (n - 1) old (omega arith))
    ∙ sym (append_assoc p (x ∷ back) rest)

-- a statement's gate is the last letter of the list that is read from it on
record Last (r : Reading) (g : Gate) (list : List Gate) : Type 0 where
  others : List Gate
  are : r ≡ gates others
  whole : list ≡ others ++ g ∷ []

last_of : (r : Reading) (g : Gate) (list : List Gate) → earlier (Some g) r ≡ gates list → Last r g list
last_of (gates v) g list e = record { others = v; are = refl; whole = cc }
last_of (refusal n) g list e = let z : ◌≡◌ {A = ℕ} 0 1 = cc in absurd (omega arith)

module _ (bs : List ℕ) (w : List Gate) (old : List ℕ) where
  -- the statements from `at` on are the first `left` letters, and the others stand behind those
  pub record Going (new : List ℕ) (at left : ℕ) : Type 0 where
    pub inside : at ≤ length bs
    pub list : List Gate
    pub is : read_from bs at ≡ gates list
    pub are : left ≡ length list
    pub back : List Gate
    pub whole : w ≡ list ++ back
    pub long : length new ≡ length old
    pub buffer : new ≡ (take left old ++ map letter back) ++ drop (length w) old

  pub start : (at : ℕ) → at ≤ length bs → read_from bs at ≡ gates w → Going old at (length w)
  start at h e = record {
    inside = h;
    list = w;
    is = e;
    are = refl;
    back = [];
    whole = sym (append-nil w);
    long = refl;
    buffer = sym (ap (λ l. l ++ drop (length w) old) (append-nil (take (length w) old)) ∙ take-append-drop (length w) old);
  }

  module _ (new : List ℕ) (at left : ℕ) (s : Going new at left) where
    module _ (g : Gate) (end : ℕ) (a : StatementAt bs at g end) where
      here : Last (read_from bs end) g s.list
      here = last_of (read_from bs end) g s.list (sym (ap (λ d. statements (lines d)) a.stands ∙ a.reads (drop end bs)) ∙ s.is)

      pub left_more : (0 < left) × (left ≤ length w)
      left_more =
          let n = s.are in
          let m = ap length s.whole ∙ length-append s.list s.back in
          let k = ap length here.whole ∙ length-append here.others (g ∷ []) in
          (omega arith, omega arith)

      pub turn : length w ≤ length old → {b : ℕ} → b ≡ letter g → Going (set new (left - 1) b) end (left - 1)
      turn fits {b} q =
          let (l, m) = left_more in
          record {
            inside = a.inside;
            list = here.others;
            is = here.are;
            are = let n = s.are in let k = ap length here.whole ∙ length-append here.others (g ∷ []) in omega arith;
            back = g ∷ s.back;
            whole = s.whole ∙ ap (λ l. l ++ s.back) here.whole ∙ append_snoc here.others g s.back;
            long = length-set new (left - 1) b ∙ s.long;
            buffer = ap₂ (λ o y. set o (left - 1) y) s.buffer q ∙ set_before old (map letter s.back) (drop (length w) old) left (letter g) l (omega arith);
          }

    -- where a letter is left, a statement stands
    pub never : 0 < left → NoStatement (drop at bs) → ⊥
    unfolding lines statements
    never h n = go (drop at bs) s.is (no_statement (drop at bs)) n
      where
        go : (rest : List ℕ) → statements (lines rest) ≡ gates s.list → (0 < length rest → NoStatement rest → statements (lines rest) ≡ refusal 23) → NoStatement rest → ⊥
        go [] e f m =
            let z : s.list ≡ [] = cc in
            let k = ap length z in
            let l = s.are in
            omega arith
        go (b ∷ rest) e f m =
            let r : refusal 23 ≡ gates s.list = sym (f (omega arith) m) ∙ e in
            let z : ◌≡◌ {A = ℕ} 0 1 = cc in
            omega arith

    -- and where a byte is left
    pub never_within : at < length bs → NoStatement (drop at bs) → ⊥
    never_within h n =
        let e : refusal 23 ≡ gates s.list = sym (no_statement (drop at bs) (let l = length-drop at bs in omega arith) n) ∙ s.is in
        let z : ◌≡◌ {A = ℕ} 0 1 = cc in
        omega arith

    pub finished : left ≡ 0 → new ≡ written old (map letter w)
    unfolding written
    finished z =
        let n : s.list ≡ [] = nil_from_length s.list (sym s.are ∙ z) in
        let b : w ≡ s.back = s.whole ∙ ap (λ l. l ++ s.back) n in
        s.buffer
        ∙ ap (λ k. (take k old ++ map letter s.back) ++ drop (length w) old) z
        ∙ ap₂ (λ v k. map letter v ++ drop k old) (sym b) (sym (length-map w letter))

    -- behind the last byte no letter is left
    pub finished_behind : length bs ≤ at → new ≡ written old (map letter w)
    unfolding lines statements
    finished_behind h =
        let e : gates [] ≡ gates s.list = sym (ap (λ d. statements (lines d)) (drop_of_length-le bs h)) ∙ s.is in
        let n : s.list ≡ [] = cc in
        finished (s.are ∙ ap length n)
