-- The first byte is the count's, the next are the numbers, then six the columns times the sign, and the last is the sign.
use mathlib.Core.Path.{◌≡◌, sym, ap, ◌∙◌}
use Prim.Native.Nat.{ℕ, ◌+◌, ◌-◌, ◌≤◌, ◌<◌}
use native.Mathlib.Omega.{arith}
use mathlib.Core.List.{List, [], ◌∷◌, ◌++◌}
use lib.ListN.{length, get_or, take, get_or-append}
use lib.Seq.{length-take-le, get_or-take, get_or-drop, get_or-append-add, get_or_at}
use Rattle.clifford.specs.Columns.{signed_byte}
use Rattle.clifford.specs.Laws.Signed.{signed_at}
use Rattle.sheet_bytes.specs.Bytes.{count_byte, sign_byte, written_columns, sheet_bytes}
use Rattle.sheet_bytes.specs.Laws.Bytes.{count_first, written_long}
use Rattle.sheet_bytes.proofs.sheet_byte.Goals as goal

module _ (count n : ℕ) (numbers columns : List ℕ) (h : count ≤ 60) (l : length numbers ≡ 60) (m : length columns ≡ 6) where
  abbrev sign : ℕ
  sign = sign_byte columns

  abbrev rest : List ℕ
  rest = written_columns columns ++ sign ∷ []

  abbrev held : List ℕ
  held = sheet_bytes (take count numbers) columns

  taken : length (take count numbers) ≡ count
  taken = length-take-le count numbers (omega arith)

  first : n ≡ 0 → 64 + count ≡ get_or held n 0
  first u = sym (ap (λ i. get_or held i 0) u ∙ count_first (take count numbers) columns ∙ ap count_byte taken)

  -- behind the first byte
  inner : 1 ≤ n → get_or held n 0 ≡ get_or (take count numbers ++ rest) (n - 1) 0
  unfolding sheet_bytes
  inner u = let e : n ≡ 1 + (n - 1) = omega arith in ap (λ i. get_or held i 0) e ∙ sym (get_or-drop 1 held (n - 1) 0)

  front : 1 ≤ n → n ≤ count → get_or numbers (n - 1) 0 ≡ get_or held n 0
  front u v =
      sym (inner u ∙ get_or-append (take count numbers) rest 0 (n - 1) (let e = taken in omega arith) ∙ get_or-take count numbers (n - 1) 0 (omega arith))

  -- behind the numbers
  behind : count < n → get_or held n 0 ≡ get_or rest (n - 1 - count) 0
  behind u =
      let j : length (take count numbers) + (n - 1 - count) ≡ n - 1 = let e = taken in omega arith in
      inner (omega arith) ∙ ap (λ x. get_or (take count numbers ++ rest) x 0) (sym j) ∙ get_or-append-add (take count numbers) rest (n - 1 - count) 0

  last : n ≡ count + 7 → sign ≡ get_or held n 0
  last u = sym (behind (omega arith) ∙ get_or_at (written_columns columns) sign [] 0 (n - 1 - count) (let e = written_long columns m in omega arith))

  column : count < n → n < count + 7 → signed_byte sign (get_or columns (n - 1 - count) 0) ≡ get_or held n 0
  column u v =
      sym
      (behind u ∙ get_or-append (written_columns columns) (sign ∷ []) 0 (n - 1 - count) (let e = written_long columns m in omega arith)
      ∙ signed_at sign columns (n - 1 - count) (omega arith))

pub returns-then-n-eq0 : goal.returns-then-n-eq0
returns-then-n-eq0 c = first c.args.cut.now.count c.args.n c.args.cut.now.numbers c.args.cut.now.columns (omega arith) (omega arith) (omega arith) c.if-n-eq0.true

pub returns-then-n-t : goal.returns-then-n-t
returns-then-n-t c =
    front c.args.cut.now.count c.args.n c.args.cut.now.numbers c.args.cut.now.columns (omega arith) (omega arith) (omega arith) (omega arith) c.if-n-t.true

pub returns-then-n-t-2 : goal.returns-then-n-t-2
returns-then-n-t-2 c =
    c.sign_byte-sign.ensures ∙ last c.args.cut.now.count c.args.n c.args.cut.now.numbers c.args.cut.now.columns (omega arith) (omega arith) (omega arith) c.if-n-t-2.true

pub returns : goal.returns
returns c =
    c.signed_byte.ensures ∙ ap (λ x. signed_byte x (get_or c.args.cut.now.columns (c.args.n - 1 - c.args.cut.now.count) 0)) c.sign_byte-sign.ensures
    ∙ column c.args.cut.now.count c.args.n c.args.cut.now.numbers c.args.cut.now.columns (omega arith) (omega arith) (omega arith) c.if-n-t.false (omega arith)
