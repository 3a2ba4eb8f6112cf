-- The last two bytes, where there are as many, and one more behind them.
use Rattle.std.specs.Prelude.{◌≡◌, cond, List, [], ◌∷◌, ◌++◌, ℕ, suc, ◌+◌, ◌*◌, ◌-◌, ◌≤◌, ◌<◌, ltb, length, get_or, set, take, drop}
use Rattle.std.proofs.Common.{sym, ap, ap₂, ◌∙◌, append_assoc, append-nil, add-one, arith, length-append, length-set, take-suc, drop-cons, get_or-append-add, get_or-set_same, get_or-set_other}
use Rattle.std.proofs.Math.ListN.{get_or-append}
use Rattle.std.proofs.Math.Seq.{drop-length}
use Rattle.bundle.specs.Bundle.{most_sheets, sheet_count, bundle_refusal}
use Rattle.bundle.specs.Laws.Read.{longest_bundle, long_refused}
use Rattle.take_sheet.specs.Output.{last_two}

-- byte by byte
two : (b : List ℕ) → 2 ≤ length b → last_two b ≡ get_or b (length b - 2) 0 ∷ get_or b (length b - 1) 0 ∷ []
two b h =
    let i : suc (length b - 2) ≡ length b - 1 = omega arith in
    let j : suc (length b - 1) ≡ length b = omega arith in
    drop-cons b (length b - 2) 0 (omega arith)
    ∙ ap (λ x. get_or b (length b - 2) 0 ∷ x) (ap (λ k. drop k b) i ∙ drop-cons b (length b - 1) 0 (omega arith) ∙ ap (λ k. get_or b (length b - 1) 0 ∷ drop k b) j ∙ ap (λ x. get_or b (length b - 1) 0 ∷ x) (drop-length b))

-- with one more behind them
two_more : (b : List ℕ) (x : ℕ) → 2 ≤ length b → last_two (b ++ x ∷ []) ≡ get_or b (length b - 1) 0 ∷ x ∷ []
two_more b x h =
    let l = length-append b (x ∷ []) in
    let i : length (b ++ x ∷ []) - 2 ≡ length b - 1 = omega arith in
    let j : length (b ++ x ∷ []) - 1 ≡ length b + 0 = omega arith in
    two (b ++ x ∷ []) (omega arith)
    ∙ ap₂ (λ y z. y ∷ z ∷ [])
    (ap (λ k. get_or (b ++ x ∷ []) k 0) i ∙ get_or-append b (x ∷ []) 0 (length b - 1) (omega arith))
    (ap (λ k. get_or (b ++ x ∷ []) k 0) j ∙ get_or-append-add b (x ∷ []) 0 0)

-- they follow from the last two of the bytes
last_more : (b c : List ℕ) (x : ℕ) → 2 ≤ length b → 2 ≤ length c → last_two b ≡ last_two c → last_two (b ++ x ∷ []) ≡ last_two (c ++ x ∷ [])
last_more b c x h k e =
    let f = ap (λ l. get_or l 1 0) (sym (two b h) ∙ e ∙ two c k) in
    two_more b x h ∙ ap (λ y. y ∷ x ∷ []) f ∙ sym (two_more c x k)

-- and so with any bytes behind them
pub last_append : (b c more : List ℕ) → 2 ≤ length b → 2 ≤ length c → last_two b ≡ last_two c → last_two (b ++ more) ≡ last_two (c ++ more)
last_append b c [] h k e = ap last_two (append-nil b) ∙ e ∙ sym (ap last_two (append-nil c))
last_append b c (x ∷ more) h k e =
    let m = length-append b (x ∷ []) in
    let n = length-append c (x ∷ []) in
    sym (ap last_two (append_assoc b (x ∷ []) more))
    ∙ last_append (b ++ x ∷ []) (c ++ x ∷ []) more (omega arith) (omega arith) (last_more b c x h k e)
    ∙ ap last_two (append_assoc c (x ∷ []) more)

-- what the two stores leave
pub last_pushed : (b : List ℕ) (x : ℕ) → 2 ≤ length b
    → last_two (set (set b (length b - 2) (get_or b (length b - 1) 0)) (length b - 1) x) ≡ last_two (b ++ x ∷ [])
last_pushed b x h =
    let y = get_or b (length b - 1) 0 in
    let c = set b (length b - 2) y in
    let d = set c (length b - 1) x in
    let m = length-set b (length b - 2) y in
    let n = length-set c (length b - 1) x in
    let i : length d - 2 ≡ length b - 2 = omega arith in
    let j : length d - 1 ≡ length b - 1 = omega arith in
    two d (omega arith)
    ∙ ap₂ (λ y z. y ∷ z ∷ [])
    (ap (λ k. get_or d k 0) i ∙ get_or-set_other c (length b - 1) (length b - 2) x 0 (λ z. omega arith) ∙ get_or-set_same b (length b - 2) y 0 (omega arith))
    (ap (λ k. get_or d k 0) j ∙ get_or-set_same c (length b - 1) x 0 (omega arith))
    ∙ sym (two_more b x h)

-- a byte of those that come behind
pub last_next : (old more b : List ℕ) (i : ℕ) → i < length more → 2 ≤ length old → 2 ≤ length b → last_two b ≡ last_two (old ++ take i more)
    → last_two (b ++ get_or more i 0 ∷ []) ≡ last_two (old ++ take (i + 1) more)
last_next old more b i l h k e =
    last_more b (old ++ take i more) (get_or more i 0) k (let m = length-append old (take i more) in omega arith) e
    ∙ ap last_two (append_assoc old (take i more) (get_or more i 0 ∷ []) ∙ ap (λ x. old ++ x) (sym (take-suc more i 0 l) ∙ ap (λ j. take j more) (sym (add-one i))))

-- ---- what is longer than any bundle

count_last : (b : List ℕ) → 2 ≤ length b → sheet_count b ≡ get_or (last_two b) 0 0 + 256 * get_or (last_two b) 1 0
count_last b h =
    let i : length b - 2 + 1 ≡ length b - 1 = omega arith in
    ap (λ k. get_or b (length b - 2) 0 + 256 * get_or b k 0) i ∙ ap (λ l. get_or l 0 0 + 256 * get_or l 1 0) (sym (two b h))

-- the bytes that are kept of such an input earn the refusal that the whole of it earns
pub last_refused : (b c : List ℕ) → ((i : ℕ) → get_or b i 0 < 256) → ((i : ℕ) → get_or c i 0 < 256) → longest_bundle < length b → longest_bundle < length c
    → last_two b ≡ last_two c → (n : ℕ) → bundle_refusal b n ≡ bundle_refusal c n
last_refused b c x y h k e n =
    let s : sheet_count b ≡ sheet_count c = count_last b (omega arith) ∙ ap (λ l. get_or l 0 0 + 256 * get_or l 1 0) e ∙ sym (count_last c (omega arith)) in
    long_refused b x h n ∙ ap (λ k. cond (ltb most_sheets k) 20 21) s ∙ sym (long_refused c y k n)
