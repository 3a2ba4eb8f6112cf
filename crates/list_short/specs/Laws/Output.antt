-- The text, put together as the program writes it, and how long its parts are.
use Rattle.std.specs.Prelude.{◌≡◌, refl, ℕ, ◌+◌, ◌≤◌, length}
use Rattle.std.proofs.Common.{sym, ap, ◌∙◌, arith}
use mathlib.Core.List.{List, [], ◌∷◌, ◌++◌, map, flat_map, append-nil}
use Rattle.matrix.specs.Range.{first_from, tabulate}
use Rattle.matrix.specs.Matrix.{δ}
use Rattle.clifford.specs.Columns.{column_byte}
use Rattle.sheet_bytes.specs.Bytes.{sheet_bytes}
use Rattle.short_sheet.specs.Short.{plain_bytes, sequences, if_read, plain_sheets, short_sheets}
use Rattle.short_sheet.specs.Laws.Plain.{plain_length}
use Rattle.list_short.specs.Output.{short_line, lines_of, pairs_of, short_text}
use Rattle.list_short.specs.Laws.Entry.{entry_most}
use Rattle.list_short.specs.Laws.Loop.{parts_append, parts_parts, lines_below, below_most}

-- ---- the sheets

-- the bytes that stand in the code
pub plain_is : (gs : List ℕ) → (64 + length gs) ∷ (gs ++ (1 ∷ 2 ∷ 3 ∷ 4 ∷ 5 ∷ 6 ∷ 0 ∷ [])) ≡ plain_bytes gs
unfolding sheet_bytes tabulate column_byte first_from δ
plain_is gs = refl

-- the sheets of one number, and of two of which the first is g
abbrev pub one_of : ℕ → List (List ℕ)
one_of g = if_read (plain_bytes (g ∷ []))

abbrev pub pair_of : ℕ → ℕ → List (List ℕ)
pair_of g h = if_read (plain_bytes (g ∷ h ∷ []))

-- ---- their lines

pub ones_done : lines_below one_of 16 ≡ lines_of (plain_sheets 1)
unfolding lines_below lines_of plain_sheets sequences flat_map tabulate
ones_done = refl

pub pairs_done : (g : ℕ) → lines_below (pair_of g) 16 ≡ lines_of (pairs_of g)
unfolding lines_below
pairs_done g = refl

pub twos_done : lines_below pairs_of 16 ≡ lines_of (plain_sheets 2)
unfolding lines_below plain_sheets sequences flat_map tabulate
twos_done = ap lines_of (sym (parts_parts (λ gs. if_read (plain_bytes gs)) (λ g. map (λ gs. g ∷ gs) (sequences 1)) (tabulate (λ g. g) 1 15)))

pub text_parts : short_text ≡ lines_of (if_read (plain_bytes [])) ++ lines_of (plain_sheets 1) ++ lines_of (plain_sheets 2)
unfolding short_sheets lines_of plain_sheets sequences flat_map
text_parts =
    parts_append short_line (plain_sheets 0 ++ plain_sheets 1) (plain_sheets 2)
    ∙ ap (λ l. l ++ lines_of (plain_sheets 2)) (parts_append short_line (plain_sheets 0) (plain_sheets 1) ∙ ap (λ l. flat_map short_line l ++ lines_of (plain_sheets 1)) none)
  where
    none : plain_sheets 0 ≡ if_read (plain_bytes [])
    none = append-nil (if_read (plain_bytes []))

-- ---- how long they are

pub none_most : length (lines_of (if_read (plain_bytes []))) ≤ 10
none_most = let l = plain_length [] in entry_most (plain_bytes []) (omega arith) (omega arith)

pub one_most : (g : ℕ) → length (lines_of (one_of g)) ≤ 10
one_most g = let l = plain_length (g ∷ []) in entry_most (plain_bytes (g ∷ [])) (omega arith) (omega arith)

pub pair_most : (g h : ℕ) → length (lines_of (pair_of g h)) ≤ 10
pair_most g h = let l = plain_length (g ∷ h ∷ []) in entry_most (plain_bytes (g ∷ h ∷ [])) (omega arith) (omega arith)

pub pairs_most : (g : ℕ) → length (lines_of (pairs_of g)) ≤ 150
pairs_most g = rw (sym (pairs_done g)) (below_most (pair_of g) 10 (pair_most g) 16)

pub ones_most : length (lines_of (plain_sheets 1)) ≤ 150
ones_most = rw (sym ones_done) (below_most one_of 10 one_most 16)

pub twos_most : length (lines_of (plain_sheets 2)) ≤ 2250
twos_most = rw (sym twos_done) (below_most pairs_of 150 pairs_most 16)
