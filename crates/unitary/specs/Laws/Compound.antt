-- The minors of a matrix: they multiply (Binet and Cauchy), and those of complementary places pair to the determinant (Laplace).
use Rattle.std.specs.Prelude.{◌≡◌, refl, Bool, true, false, ◌&&◌, List, [], ◌∷◌, ℕ, zero, suc, ◌+◌, ◌*◌, ◌/◌, ◌%◌, ◌<◌, pos, ◌*ℤ◌, get_or}
use Rattle.std.proofs.Common.{sym, ◌∙◌, ap, ap₂, arith}
use Rattle.std.proofs.Math.Path.{fun_ext}
use Rattle.matrix.specs.Range.{every, every_from, tabulate}
use Rattle.matrix.specs.Matrix.{δ}
use Rattle.matrix.specs.Laws.Ring.{Exp, var, num, ◌:+◌, ◌:-◌, ◌:*◌, Poly, nil, term, norm}
use Rattle.matrix.specs.Laws.Range.{every_sound}
use Rattle.matrix.specs.Laws.Test.{and_left, and_right}
use Rattle.gaussian.specs.declared.Gaussian.{Gaussian}
use Rattle.gaussian.specs.Gaussian.{◌⊖◌, ◌⊗◌, conj, sum, Matrix, Same, product, adjoint, transpose, scaled}
use Rattle.unitary.specs.Form.{row_at, column_at, compound}
use Rattle.gaussian.specs.Laws.Gaussian.{lookᴳ, re_of, im_of, ringᴳ, conj-⊖, conj-⊗, ⊗-comm}
use Rattle.gaussian.specs.Laws.Matrix.{product_cong, same_refl}
use Rattle.unitary.specs.Laws.Finite.{dual_signs, dual}

pub row_lt : (p : ℕ) → row_at p < 4
row_lt zero = omega arith
row_lt (suc zero) = omega arith
row_lt (suc (suc zero)) = omega arith
row_lt (suc (suc (suc zero))) = omega arith
row_lt (suc (suc (suc (suc zero)))) = omega arith
row_lt (suc (suc (suc (suc (suc zero))))) = omega arith
row_lt (suc (suc (suc (suc (suc (suc p)))))) = omega arith

pub column_lt : (p : ℕ) → column_at p < 4
column_lt zero = omega arith
column_lt (suc zero) = omega arith
column_lt (suc (suc zero)) = omega arith
column_lt (suc (suc (suc zero))) = omega arith
column_lt (suc (suc (suc (suc zero)))) = omega arith
column_lt (suc (suc (suc (suc (suc zero))))) = omega arith
column_lt (suc (suc (suc (suc (suc (suc p)))))) = omega arith

pub compound_cong : {N M : Matrix} → Same 4 N M → Same 6 (compound N) (compound M)
unfolding compound
compound_cong h p q hp hq =
    ap₂ (λ x y. x ⊖ y)
    (ap₂ (λ x y. x ⊗ y) (h (row_at p) (row_at q) (row_lt p) (row_lt q)) (h (column_at p) (column_at q) (column_lt p) (column_lt q)))
    (ap₂ (λ x y. x ⊗ y) (h (row_at p) (column_at q) (row_lt p) (column_lt q)) (h (column_at p) (row_at q) (column_lt p) (row_lt q)))

pub compound_scaled : (c : Gaussian) (N : Matrix) → compound (scaled c N) ≡ scaled (c ⊗ c) (compound N)
unfolding compound
compound_scaled c N = fun_ext λ p. fun_ext λ q.
    ringᴳ (c ∷ N (row_at p) (row_at q) ∷ N (column_at p) (column_at q) ∷ N (row_at p) (column_at q) ∷ N (column_at p) (row_at q) ∷ [])
    ((var 0 :* var 1) :* (var 0 :* var 2) :- (var 0 :* var 3) :* (var 0 :* var 4)) ((var 0 :* var 0) :* (var 1 :* var 2 :- var 3 :* var 4)) refl refl

pub compound_adjoint : (N : Matrix) → compound (adjoint N) ≡ adjoint (compound N)
unfolding compound
compound_adjoint N = fun_ext λ p. fun_ext λ q.
    let a = N (row_at q) (row_at p) in let b = N (column_at q) (column_at p) in let c = N (column_at q) (row_at p) in let d = N (row_at q) (column_at p) in
    sym (conj-⊖ (a ⊗ b) (d ⊗ c) ∙ ap₂ (λ x y. x ⊖ y) (conj-⊗ a b) (conj-⊗ d c ∙ ⊗-comm (conj d) (conj c)))

-- ---- products

abbrev dotᴱ : ℕ → ℕ → Exp
dotᴱ i j = num (pos 0) :+ var i :* var j :+ var (i + 1) :* var (j + 1) :+ var (i + 2) :* var (j + 2) :+ var (i + 3) :* var (j + 3)

abbrev sixᴱ : (ℕ → Exp) → Exp
sixᴱ f = num (pos 0) :+ f 0 :+ f 1 :+ f 2 :+ f 3 :+ f 4 :+ f 5

-- the minor of rows of variables from a and from b at place p, and of columns
abbrev acrossᴱ : ℕ → ℕ → ℕ → Exp
acrossᴱ a b p = var (a + row_at p) :* var (b + column_at p) :- var (a + column_at p) :* var (b + row_at p)

abbrev downᴱ : ℕ → ℕ → ℕ → Exp
downᴱ c d p = var (c + row_at p) :* var (d + column_at p) :- var (d + row_at p) :* var (c + column_at p)

abbrev four : (ℕ → Gaussian) → List Gaussian → List Gaussian
four f ρ = f 0 ∷ f 1 ∷ f 2 ∷ f 3 ∷ ρ

pub compound_product : (N M : Matrix) → compound (product 4 N M) ≡ product 6 (compound N) (compound M)
unfolding compound sum
compound_product N M = fun_ext λ p. fun_ext λ q.
    ringᴳ (four (N (row_at p)) (four (N (column_at p)) (four (λ j. M j (row_at q)) (four (λ j. M j (column_at q)) []))))
    (dotᴱ 0 8 :* dotᴱ 4 12 :- dotᴱ 0 12 :* dotᴱ 4 8) (sixᴱ (λ l. acrossᴱ 0 4 l :* downᴱ 8 12 l)) refl refl

-- ---- complementary places

-- Σ over the places p of ± C p q C (5 − p) r
abbrev pub pairing : Matrix → Matrix
pairing N = product 6 (transpose (compound N)) (product 6 dual (compound N))

abbrev entryᴱ : ℕ → ℕ → Exp
entryᴱ i j = var (4 * i + j)

abbrev minorᴱ : ℕ → ℕ → Exp
minorᴱ p q = entryᴱ (row_at p) (row_at q) :* entryᴱ (column_at p) (column_at q) :- entryᴱ (row_at p) (column_at q) :* entryᴱ (column_at p) (row_at q)

abbrev dualᴱ : ℕ → ℕ → Exp
dualᴱ p q = num (get_or dual_signs p (pos 0) *ℤ δ (p + q) 5)

abbrev pairingᴱ : ℕ → ℕ → Exp
pairingᴱ q r = sixᴱ (λ p. minorᴱ p q :* sixᴱ (λ s. dualᴱ p s :* minorᴱ s r))

is_nil : Poly → Bool
is_nil nil = true
is_nil (term c m p) = false

nil_sound : (p : Poly) → is_nil p ≡ true → p ≡ nil
unfolding is_nil
nil_sound nil e = refl
nil_sound (term c m p) e = cc

pairs : ℕ → ℕ → Bool
pairs q r =
    is_nil (norm (re_of (pairingᴱ q r) :- re_of (pairingᴱ 0 5 :* dualᴱ q r))) && is_nil (norm (im_of (pairingᴱ q r) :- im_of (pairingᴱ 0 5 :* dualᴱ q r)))

all_pair : every 6 (λ q. every 6 (λ r. pairs q r)) ≡ true
unfolding every_from pairs is_nil δ
all_pair = refl

-- the matrix of sixteen numbers
abbrev of : List Gaussian → Matrix
of ρ = λ i j. lookᴳ ρ (4 * i + j)

pairing_of : (ρ : List Gaussian) → Same 6 (pairing (of ρ)) (scaled (pairing (of ρ) 0 5) dual)
unfolding compound sum dual pairs
pairing_of ρ q r hq hr =
    let t = every_sound 6 (λ r. pairs q r) (every_sound 6 (λ q. every 6 (λ r. pairs q r)) all_pair q hq) r hr in
    ringᴳ ρ (pairingᴱ q r) (pairingᴱ 0 5 :* dualᴱ q r)
    (nil_sound _ (and_left (is_nil (norm (re_of (pairingᴱ q r) :- re_of (pairingᴱ 0 5 :* dualᴱ q r)))) _ t))
    (nil_sound _ (and_right (is_nil (norm (re_of (pairingᴱ q r) :- re_of (pairingᴱ 0 5 :* dualᴱ q r)))) _ t))

look_tabulate : (f : ℕ → Gaussian) (a k n : ℕ) → n < k → lookᴳ (tabulate f a k) n ≡ f (a + n)
unfolding tabulate
look_tabulate f a zero n l = absurd (omega arith)
look_tabulate f a (suc k) zero l = ap f (omega arith)
look_tabulate f a (suc k) (suc n) l = look_tabulate f (suc a) k n (omega arith) ∙ ap f (omega arith)

pub pairing_dual : (N : Matrix) → Same 6 (pairing N) (scaled (pairing N 0 5) dual)
pairing_dual N q r hq hr =
    same q r hq hr ∙ pairing_of ρ q r hq hr ∙ ap (λ x. x ⊗ dual q r) (sym (same 0 5 (omega arith) (omega arith)))
  where
    ρ : List Gaussian
    ρ = tabulate (λ n. N (n / 4) (n % 4)) 0 16

    entries : Same 4 N (of ρ)
    entries i j hi hj =
        sym (look_tabulate (λ n. N (n / 4) (n % 4)) 0 16 (4 * i + j) (omega arith) ∙ ap₂ N (omega arith) (omega arith))

    same : Same 6 (pairing N) (pairing (of ρ))
    same = product_cong (λ i j hi hj. compound_cong entries j i hj hi) (product_cong (same_refl 6 dual) (compound_cong entries))
