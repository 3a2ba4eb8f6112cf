-- Six rows of six bits that weigh and meet as those of an orthogonal operator do group as 2, 2, 2 or as 2 and 4, and one generator's pairs, or
-- those of three, lie inside the groups (source document 001, section 4). A finite fact, by an enumeration that goes through the rows one after
-- the other and leaves out what the rows and columns so far rule out.
use Rattle.std.specs.Prelude.{◌≡◌, refl, Bool, true, false, not, cond, ◌&&◌, ◌||◌, List, [], ◌∷◌, ◌++◌, ℕ, zero, suc, ◌+◌, ◌%◌, ◌<◌, get_or, eqb}
use Rattle.std.proofs.Common.{subst, sym, lit<}
use Rattle.std.specs.Bool.{beq}
use Rattle.std.proofs.Math.Dec.{T}
use Rattle.matrix.specs.Range.{every_from, every, first_from, some, total}
use Rattle.matrix.specs.Laws.Range.{every_sound, every_complete}
use Rattle.residue.specs.Generator.{table, place, low, high}
use Rattle.matrix.specs.Laws.Test.{both, left, right, or_elim, imp, imp_sound, T_true, true_T}

-- ---- six bits

pub data Row : Type 0 where
  row : Bool → Bool → Bool → Bool → Bool → Bool → Row

abbrev pub bit : Bool → ℕ
bit b = cond b 1 0

abbrev pub weight : Row → ℕ
weight (row a b c d e f) = bit a + bit b + bit c + bit d + bit e + bit f

abbrev pub meet : Row → Row → Row
meet (row a b c d e f) (row a' b' c' d' e' f') = row (a && a') (b && b') (c && c') (d && d') (e && e') (f && f')

abbrev pub same_row : Row → Row → Bool
same_row (row a b c d e f) (row a' b' c' d' e' f') =
    beq a a' && (beq b b' && (beq c c' && (beq d d' && (beq e e' && beq f f'))))

pub beq_sound : (a b : Bool) → T (beq a b) → a ≡ b
beq_sound true true t = refl
beq_sound true false t = absurd t
beq_sound false true t = absurd t
beq_sound false false t = refl

pub same_row_sound : (r s : Row) → T (same_row r s) → r ≡ s
same_row_sound (row a b c d e f) (row a' b' c' d' e' f') t =
    let t1 = right (beq a a') _ t in
    let t2 = right (beq b b') _ t1 in
    let t3 = right (beq c c') _ t2 in
    let t4 = right (beq d d') _ t3 in
    let p0 : a ≡ a' = beq_sound a a' (left (beq a a') _ t) in
    let p1 : b ≡ b' = beq_sound b b' (left (beq b b') _ t1) in
    let p2 : c ≡ c' = beq_sound c c' (left (beq c c') _ t2) in
    let p3 : d ≡ d' = beq_sound d d' (left (beq d d') _ t3) in
    let p4 : e ≡ e' = beq_sound e e' (left (beq e e') _ t4) in
    let p5 : f ≡ f' = beq_sound f f' (right (beq e e') _ t4) in
    cc

-- the bit in column c
abbrev pub column : ℕ → Row → Bool
column zero (row a b c d e f) = a
column (suc zero) (row a b c d e f) = b
column (suc (suc zero)) (row a b c d e f) = c
column (suc (suc (suc zero))) (row a b c d e f) = d
column (suc (suc (suc (suc zero)))) (row a b c d e f) = e
column (suc (suc (suc (suc (suc n))))) (row a b c d e f) = f

-- a fact of all 64 rows
unfoldable either_way : (Bool → Bool) → Bool
either_way f = f true && f false

either_sound : (f : Bool → Bool) → T (either_way f) → (b : Bool) → T (f b)
unfolding either_way
either_sound f t true = left (f true) (f false) t
either_sound f t false = right (f true) (f false) t

abbrev every_row : (Row → Bool) → Bool
every_row g = either_way (λ a. either_way (λ b. either_way (λ c. either_way (λ d. either_way (λ e. either_way (λ f. g (row a b c d e f)))))))

every_row_sound : (g : Row → Bool) → T (every_row g) → (r : Row) → T (g r)
every_row_sound g t (row a b c d e f) =
    either_sound (λ f. g (row a b c d e f))
    (either_sound (λ e. either_way (λ f. g (row a b c d e f)))
    (either_sound (λ d. either_way (λ e. either_way (λ f. g (row a b c d e f))))
    (either_sound (λ c. either_way (λ d. either_way (λ e. either_way (λ f. g (row a b c d e f)))))
    (either_sound (λ b. either_way (λ c. either_way (λ d. either_way (λ e. either_way (λ f. g (row a b c d e f))))))
    (either_sound (λ a. either_way (λ b. either_way (λ c. either_way (λ d. either_way (λ e. either_way (λ f. g (row a b c d e f))))))) t a) b) c) d) e) f

implies : (p q : Row → Bool) → T (every_row (λ s. imp (p s) (q s))) → (r : Row) → T (p r) → T (q r)
implies p q t r h = imp_sound (p r) (q r) (every_row_sound (λ s. imp (p s) (q s)) t r) h

pub same_row_refl : (r : Row) → T (same_row r r)
unfolding either_way
same_row_refl = every_row_sound (λ r. same_row r r) tt

-- ---- what is shown of six rows

abbrev pub six : Row → Row → Row → Row → Row → Row → List Row
six r1 r2 r3 r4 r5 r6 = r1 ∷ r2 ∷ r3 ∷ r4 ∷ r5 ∷ r6 ∷ []

abbrev pub nth : List Row → ℕ → Row
nth m i = get_or m i (row false false false false false false)

-- the rows that generator g pairs are equal
unfoldable pub agrees : List Row → ℕ → Bool
agrees m g = every 3 (λ p. same_row (nth m (low g p)) (nth m (high g p)))

-- how many rows of the list are r
abbrev pub size : Row → List Row → ℕ
size r [] = 0
size r (s ∷ rs) = bit (same_row s r) + size r rs

-- of the rows of the first list, how many have a group of n rows in the second
abbrev pub rows_in_groups_of : ℕ → List Row → List Row → ℕ
rows_in_groups_of n [] m = 0
rows_in_groups_of n (r ∷ rs) m = bit (eqb (size r m) n) + rows_in_groups_of n rs m

-- 2 and 4: two rows are in a group of two, four in a group of four
abbrev pub two_and_four : List Row → Bool
two_and_four m = eqb (rows_in_groups_of 2 m m) 2 && eqb (rows_in_groups_of 4 m m) 4

-- 2, 2, 2: all rows are in groups of two; or 2 and 4
unfoldable pub grouped : List Row → Bool
grouped m = eqb (rows_in_groups_of 2 m m) 6 || two_and_four m

-- some row has no bit
abbrev pub has_zero : List Row → Bool
has_zero m = some 6 (λ r. eqb (weight (nth m r)) 0)

-- how many generators pair rows that are equal
abbrev pub agreeing : List Row → ℕ
agreeing m = total (λ g. bit (agrees m g)) 1 15

-- the rows group, as 2 and 4 exactly if some row has no bit, and then three generators fit, and else one
unfoldable pub paired : List Row → Bool
paired m = grouped m && (beq (two_and_four m) (has_zero m) && eqb (agreeing m) (cond (two_and_four m) 3 1))

-- ---- the enumeration

-- all six columns pass
abbrev pub columns : (Row → Bool) → Row → Row → Row → Row → Row → Row → Bool
columns p r1 r2 r3 r4 r5 r6 = every 6 (λ c. p (row (column c r1) (column c r2) (column c r3) (column c r4) (column c r5) (column c r6)))

-- whether a column can still pass when only its first five, four or three bits are known
abbrev first5 : (Row → Bool) → Row → Bool
first5 p (row a b c d e f) = p (row a b c d e true) || p (row a b c d e false)

abbrev first4 : (Row → Bool) → Row → Bool
first4 p (row a b c d e f) = first5 p (row a b c d true f) || first5 p (row a b c d false f)

abbrev first3 : (Row → Bool) → Row → Bool
first3 p (row a b c d e f) = first4 p (row a b c true e f) || first4 p (row a b c false e f)

either : (h : Bool → Bool) (b : Bool) → T (h b) → T (h true || h false)
either h true t = or_left (h true) (h false) t
  where
    or_left : (a b : Bool) → T a → T (a || b)
    or_left true b t = tt
    or_left false b t = absurd t
either h false t = or_right (h true) (h false) t
  where
    or_right : (a b : Bool) → T b → T (a || b)
    or_right true b t = tt
    or_right false b t = t

first5_of : (p : Row → Bool) (r : Row) → T (p r) → T (first5 p r)
first5_of p (row a b c d e f) t = either (λ x. p (row a b c d e x)) f t

first4_of : (p : Row → Bool) (r : Row) → T (p r) → T (first4 p r)
first4_of p (row a b c d e f) t = either (λ x. first5 p (row a b c d x f)) e (first5_of p (row a b c d e f) t)

first3_of : (p : Row → Bool) (r : Row) → T (p r) → T (first3 p r)
first3_of p (row a b c d e f) t = either (λ x. first4 p (row a b c x e f)) d (first4_of p (row a b c d e f) t)

columns_mono : (p q : Row → Bool) → ((r : Row) → T (p r) → T (q r)) → (r1 r2 r3 r4 r5 r6 : Row) → T (columns p r1 r2 r3 r4 r5 r6) → T (columns q r1 r2 r3 r4 r5 r6)
columns_mono p q h r1 r2 r3 r4 r5 r6 t =
    true_T (every_complete 6 _ (λ c l. T_true _ (h _ (true_T (every_sound 6 (λ c. p (row (column c r1) (column c r2) (column c r3) (column c r4) (column c r5) (column c r6))) (T_true _ t) c l)))))

-- the rows that pass a test, as a list
abbrev join : (Bool → List Row) → List Row
join h = h true ++ h false

abbrev pub select : (Row → Bool) → List Row
select p =
    join (λ a. join (λ b. join (λ c. join (λ d. join (λ e. join (λ f. elim (p (row a b c d e f)) [ true ↦ row a b c d e f ∷ [] | false ↦ [] ]))))))

abbrev pub all_in : (Row → Bool) → List Row → Bool
all_in g [] = true
all_in g (r ∷ rs) = g r && all_in g rs

abbrev pub member : Row → List Row → Bool
member r [] = false
member r (s ∷ rs) = same_row r s || member r rs

all_in_sound : (g : Row → Bool) (r : Row) (rs : List Row) → T (member r rs) → T (all_in g rs) → T (g r)
all_in_sound g r [] m t = absurd m
all_in_sound g r (s ∷ rs) m t =
    or_elim (same_row r s) (member r rs) (T (g r)) m
    (λ e. subst (λ x. T (g x)) (sym (same_row_sound r s e)) (left (g s) (all_in g rs) t))
    (λ k. all_in_sound g r rs k (right (g s) (all_in g rs) t))

-- what is asked of a row and of a column, of two rows; the rows that pass; what is to be shown of six rows
pub record Shape : Type 0 where
  pub one : Row → Bool
  pub two : Row → Row → Bool
  pub rows : List Row
  pub good : List Row → Bool

abbrev O : Row
O = row false false false false false false

-- what row 2, .., row 6 must pass
pass2 : Shape → Row → Row → Bool
pass2 s r1 x = s.two r1 x

pass3 : Shape → Row → Row → Row → Bool
pass3 s r1 r2 x = s.two r1 x && (s.two r2 x && columns (first3 s.one) r1 r2 x O O O)

pass4 : Shape → Row → Row → Row → Row → Bool
pass4 s r1 r2 r3 x = s.two r1 x && (s.two r2 x && (s.two r3 x && columns (first4 s.one) r1 r2 r3 x O O))

pass5 : Shape → Row → Row → Row → Row → Row → Bool
pass5 s r1 r2 r3 r4 x = s.two r1 x && (s.two r2 x && (s.two r3 x && (s.two r4 x && columns (first5 s.one) r1 r2 r3 r4 x O)))

pass6 : Shape → Row → Row → Row → Row → Row → Row → Bool
pass6 s r1 r2 r3 r4 r5 x = s.two r1 x && (s.two r2 x && (s.two r3 x && (s.two r4 x && (s.two r5 x && columns s.one r1 r2 r3 r4 r5 x))))

from5 : Shape → Row → Row → Row → Row → Row → Bool
from5 s r1 r2 r3 r4 r5 = all_in (λ x. imp (pass6 s r1 r2 r3 r4 r5 x) (s.good (six r1 r2 r3 r4 r5 x))) s.rows

from4 : Shape → Row → Row → Row → Row → Bool
from4 s r1 r2 r3 r4 = all_in (λ x. imp (pass5 s r1 r2 r3 r4 x) (from5 s r1 r2 r3 r4 x)) s.rows

from3 : Shape → Row → Row → Row → Bool
from3 s r1 r2 r3 = all_in (λ x. imp (pass4 s r1 r2 r3 x) (from4 s r1 r2 r3 x)) s.rows

from2 : Shape → Row → Row → Bool
from2 s r1 r2 = all_in (λ x. imp (pass3 s r1 r2 x) (from3 s r1 r2 x)) s.rows

pub from1 : Shape → Row → Bool
from1 s r1 = all_in (λ x. imp (pass2 s r1 x) (from2 s r1 x)) s.rows

-- the enumeration passes, so six rows that meet the hypotheses are good
module _ (s : Shape) (run : T (all_in (from1 s) s.rows)) (rows : (r : Row) → T (s.one r) → T (member r s.rows)) where
  pub enumerated : (m : ℕ → Row) → ((i : ℕ) → i < 6 → T (s.one (m i))) → ((i j : ℕ) → i < j → j < 6 → T (s.two (m i) (m j)))
      → T (columns s.one (m 0) (m 1) (m 2) (m 3) (m 4) (m 5)) → T (s.good (six (m 0) (m 1) (m 2) (m 3) (m 4) (m 5)))
  unfolding pass2 pass3 pass4 pass5 pass6 from5 from4 from3 from2 from1
  enumerated m a e c =
      let s1 : T (from1 s (m 0)) = all_in_sound (from1 s) (m 0) s.rows (rows (m 0) (a 0 (lit< tt))) run in
      let h2 : T (pass2 s (m 0) (m 1)) = e 0 1 (lit< tt) (lit< tt) in
      let s2 : T (from2 s (m 0) (m 1)) = imp_sound (pass2 s (m 0) (m 1)) _ (all_in_sound (λ x. imp (pass2 s (m 0) x) (from2 s (m 0) x)) (m 1) s.rows (rows (m 1) (a 1 (lit< tt))) s1) h2 in
      let h3 : T (pass3 s (m 0) (m 1) (m 2)) =
      both (s.two (m 0) (m 2)) _ (e 0 2 (lit< tt) (lit< tt)) (both (s.two (m 1) (m 2)) _ (e 1 2 (lit< tt) (lit< tt)) (columns_mono s.one (first3 s.one) (first3_of s.one) (m 0) (m 1) (m 2) (m 3) (m 4) (m 5) c)) in
      let s3 : T (from3 s (m 0) (m 1) (m 2)) = imp_sound (pass3 s (m 0) (m 1) (m 2)) _ (all_in_sound (λ x. imp (pass3 s (m 0) (m 1) x) (from3 s (m 0) (m 1) x)) (m 2) s.rows (rows (m 2) (a 2 (lit< tt))) s2) h3 in
      let h4 : T (pass4 s (m 0) (m 1) (m 2) (m 3)) =
      both (s.two (m 0) (m 3)) _ (e 0 3 (lit< tt) (lit< tt)) (both (s.two (m 1) (m 3)) _ (e 1 3 (lit< tt) (lit< tt)) (both (s.two (m 2) (m 3)) _ (e 2 3 (lit< tt) (lit< tt)) (columns_mono s.one (first4 s.one) (first4_of s.one) (m 0) (m 1) (m 2) (m 3) (m 4) (m 5) c))) in
      let s4 : T (from4 s (m 0) (m 1) (m 2) (m 3)) = imp_sound (pass4 s (m 0) (m 1) (m 2) (m 3)) _ (all_in_sound (λ x. imp (pass4 s (m 0) (m 1) (m 2) x) (from4 s (m 0) (m 1) (m 2) x)) (m 3) s.rows (rows (m 3) (a 3 (lit< tt))) s3) h4 in
      let h5 : T (pass5 s (m 0) (m 1) (m 2) (m 3) (m 4)) =
      both (s.two (m 0) (m 4)) _ (e 0 4 (lit< tt) (lit< tt)) (both (s.two (m 1) (m 4)) _ (e 1 4 (lit< tt) (lit< tt)) (both (s.two (m 2) (m 4)) _ (e 2 4 (lit< tt) (lit< tt)) (both (s.two (m 3) (m 4)) _ (e 3 4 (lit< tt) (lit< tt)) (columns_mono s.one (first5 s.one) (first5_of s.one) (m 0) (m 1) (m 2) (m 3) (m 4) (m 5) c)))) in
      let s5 : T (from5 s (m 0) (m 1) (m 2) (m 3) (m 4)) = imp_sound (pass5 s (m 0) (m 1) (m 2) (m 3) (m 4)) _ (all_in_sound (λ x. imp (pass5 s (m 0) (m 1) (m 2) (m 3) x) (from5 s (m 0) (m 1) (m 2) (m 3) x)) (m 4) s.rows (rows (m 4) (a 4 (lit< tt))) s4) h5 in
      let h6 : T (pass6 s (m 0) (m 1) (m 2) (m 3) (m 4) (m 5)) =
      both (s.two (m 0) (m 5)) _ (e 0 5 (lit< tt) (lit< tt)) (both (s.two (m 1) (m 5)) _ (e 1 5 (lit< tt) (lit< tt)) (both (s.two (m 2) (m 5)) _ (e 2 5 (lit< tt) (lit< tt)) (both (s.two (m 3) (m 5)) _ (e 3 5 (lit< tt) (lit< tt)) (both (s.two (m 4) (m 5)) _ (e 4 5 (lit< tt) (lit< tt)) c)))) in
      imp_sound (pass6 s (m 0) (m 1) (m 2) (m 3) (m 4) (m 5)) _ (all_in_sound (λ x. imp (pass6 s (m 0) (m 1) (m 2) (m 3) (m 4) x) (s.good (six (m 0) (m 1) (m 2) (m 3) (m 4) x))) (m 5) s.rows (rows (m 5) (a 5 (lit< tt))) s5) h6

-- ---- k of at least 2: none or four bits in a row and in a column, and an even number where two rows meet

abbrev pub none_or_four : Row → Bool
none_or_four r = eqb (weight r) 0 || eqb (weight r) 4

abbrev pub meet_evenly : Row → Row → Bool
meet_evenly r s = eqb (weight (meet r s) % 2) 0

abbrev pub not_zero : List Row → Bool
not_zero [] = false
not_zero (r ∷ rs) = not (eqb (weight r) 0) || not_zero rs

unfoldable pub shape4 : Shape
shape4 = record { one = none_or_four; two = meet_evenly; rows = select none_or_four; good = λ m. imp (not_zero m) (paired m) }

pub run4 : T (all_in (from1 shape4) shape4.rows)
unfolding shape4 paired grouped agrees place table every_from first_from total pass2 pass3 pass4 pass5 pass6 from5 from4 from3 from2 from1
run4 = tt

pub rows4 : (r : Row) → T (none_or_four r) → T (member r (select none_or_four))
unfolding either_way
rows4 = implies none_or_four (λ r. member r (select none_or_four)) tt

-- the list of six rows
abbrev pub six_of : (ℕ → Row) → List Row
six_of m = six (m 0) (m 1) (m 2) (m 3) (m 4) (m 5)

abbrev pub column_of : (ℕ → Row) → ℕ → Row
column_of m c = row (column c (m 0)) (column c (m 1)) (column c (m 2)) (column c (m 3)) (column c (m 4)) (column c (m 5))

pub columns_of : (p : Row → Bool) (m : ℕ → Row) → ((c : ℕ) → c < 6 → T (p (column_of m c))) → T (columns p (m 0) (m 1) (m 2) (m 3) (m 4) (m 5))
columns_of p m h = true_T (every_complete 6 (λ c. p (column_of m c)) (λ c l. T_true _ (h c l)))

-- ---- k = 1: two bits in a row and in a column, and two rows meet in both or in none

abbrev pub two : Row → Bool
two r = eqb (weight r) 2

abbrev pub meet_in_two_or_none : Row → Row → Bool
meet_in_two_or_none r s = eqb (weight (meet r s)) 0 || eqb (weight (meet r s)) 2

unfoldable shape2 : Shape
shape2 = record { one = two; two = meet_in_two_or_none; rows = select two; good = paired }

run2 : T (all_in (from1 shape2) shape2.rows)
unfolding shape2 paired grouped agrees place table every_from first_from total pass2 pass3 pass4 pass5 pass6 from5 from4 from3 from2 from1
run2 = tt

rows2 : (r : Row) → T (two r) → T (member r (select two))
unfolding either_way
rows2 = implies two (λ r. member r (select two)) tt

pub grouping_two : (m : ℕ → Row) → ((i : ℕ) → i < 6 → T (two (m i))) → ((i j : ℕ) → i < j → j < 6 → T (meet_in_two_or_none (m i) (m j)))
    → ((c : ℕ) → c < 6 → T (two (column_of m c))) → T (paired (six_of m))
unfolding shape2
grouping_two m a e c = enumerated shape2 run2 rows2 m a e (columns_of two m c)
