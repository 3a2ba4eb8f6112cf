-- Buffers with new bytes at their front, and with bytes written one after the other.
use Rattle.std.specs.Prelude.{◌≡◌, refl, List, [], ◌∷◌, ◌++◌, ℕ, suc, ◌+◌, ◌-◌, ◌<◌, ◌≤◌, length, get_or, set, take, drop}
use Rattle.std.proofs.Common.{sym, ap, ap₂, subst, ◌∙◌, append_assoc, add-one, arith, length-append, length-drop, ext_get_or, drop-set-lt, get_or-append-add, get_or-drop, drop-drop}
use Rattle.std.proofs.Math.Decide.{dec_lt}
use Rattle.std.proofs.Math.ListN.{get_or-append}
use Rattle.std.proofs.Math.Seq.{paste, paste-zero, take-length, append_snoc}
use Rattle.std.proofs.lemmas.List.Edits.{length-paste, take-paste, drop-paste}
use Rattle.std.proofs.lemmas.List.{set_split}
use Rattle.std.proofs.lemmas.Slice.{put_mid-paste}
use borrow.Rule.Slice.PartMut.{put_mid}
use Rattle.matrix.specs.Range.{tabulate}
use Rattle.matrix.specs.Laws.Range.{Filled, length_tabulate, get_d_tabulate, tabulate_is}
use Rattle.file.specs.File.{written, Appended}

-- a table and what continues it
pub tabulate_more : (f : ℕ → ℕ) (n : ℕ) (bs : List ℕ) → ((i : ℕ) → i < length bs → get_or bs i 0 ≡ f (n + i)) → tabulate f 0 n ++ bs ≡ tabulate f 0 (n + length bs)
tabulate_more f n bs h =
    tabulate_is f (n + length bs) 0 (tabulate f 0 n ++ bs) (length-append (tabulate f 0 n) bs ∙ ap (λ x. x + length bs) (length_tabulate f 0 n)) (λ i l. at i l (dec_lt i n))
  where
    at : (i : ℕ) → i < n + length bs → Dec (i < n) → get_or (tabulate f 0 n ++ bs) i 0 ≡ f i
    at i l (yes p) = get_or-append (tabulate f 0 n) bs 0 i (rw (length_tabulate f 0 n) p) ∙ get_d_tabulate f 0 n i 0 p ∙ ap f (omega arith)
    at i l (no p) =
        let e : n + (i - n) ≡ i = omega arith in
        let k : length (tabulate f 0 n) + (i - n) ≡ i = ap (λ x. x + (i - n)) (length_tabulate f 0 n) ∙ e in
        ap (λ x. get_or (tabulate f 0 n ++ bs) x 0) (sym k) ∙ get_or-append-add (tabulate f 0 n) bs (i - n) 0 ∙ h (i - n) (omega arith) ∙ ap f e

-- what a loop that fills the front leaves
pub filled_written : (f : ℕ → ℕ) (b₀ : List ℕ) (n : ℕ) (b : List ℕ) → Filled 0 f b₀ n b → n ≤ length b₀ → b ≡ written b₀ (tabulate f 0 n)
unfolding written
filled_written f b₀ n b w h = rw (length_tabulate f 0 n) whole
  where
    long : length (tabulate f 0 n ++ drop n b₀) ≡ length b₀
    long = length-append (tabulate f 0 n) (drop n b₀) ∙ rw (length_tabulate f 0 n, length-drop n b₀) (omega arith)

    at : (i : ℕ) → Dec (i < n) → get_or b i 0 ≡ get_or (tabulate f 0 n ++ drop n b₀) i 0
    at i (yes p) =
        w.front i p ∙ sym (get_or-append (tabulate f 0 n) (drop n b₀) 0 i (rw (length_tabulate f 0 n) p) ∙ get_d_tabulate f 0 n i 0 p ∙ ap f (omega arith))
    at i (no p) =
        let e : n + (i - n) ≡ i = omega arith in
        let l : length (tabulate f 0 n) + (i - n) ≡ i = ap (λ x. x + (i - n)) (length_tabulate f 0 n) ∙ e in
        w.back i (omega arith) ∙ sym (
        ap (λ x. get_or (tabulate f 0 n ++ drop n b₀) x 0) (sym l)
        ∙ get_or-append-add (tabulate f 0 n) (drop n b₀) (i - n) 0
        ∙ get_or-drop n b₀ (i - n) 0 ∙ ap (λ x. get_or b₀ x 0) e)

    whole : b ≡ tabulate f 0 n ++ drop n b₀
    whole = ext_get_or 0 b (tabulate f 0 n ++ drop n b₀) (w.long ∙ sym long) (λ i u. at i (dec_lt i n))

-- what stood where the new bytes go does not count
pub written_over : (old new : List ℕ) (i x : ℕ) → i < length new → written (set old i x) new ≡ written old new
unfolding written
written_over old new i x h = ap (λ t. new ++ t) (drop-set-lt (length new) old i x h)

-- ---- bytes one after the other

pub appended_as : {bs cs : List ℕ} {at r : ℕ} {old new : List ℕ} → bs ≡ cs → Appended bs at old new r → Appended cs at old new r
appended_as {at = at} {r = r} {old = old} {new = new} e h = subst (λ bs. Appended bs at old new r) e h

pub appended_none : (at : ℕ) (old : List ℕ) → Appended [] at old old at
appended_none at old = record { next = omega arith; buffer = paste-zero old at [] }

-- bytes at the front of a buffer
pub appended_front : {bs old new : List ℕ} {r : ℕ} → Appended bs 0 old new r → new ≡ written old bs
unfolding written
appended_front {bs} {old} a = let e : 0 + length bs ≡ length bs = omega arith in a.buffer ∙ ap (λ k. bs ++ drop k old) e

pub appended_one : (b at : ℕ) (old : List ℕ) → at < length old → Appended (b ∷ []) at old (set old at b) (at + 1)
appended_one b at old h = record {
  next = refl;
  buffer = set_split old at b h ∙ sym (append_snoc (take at old) b (drop (suc at) old)) ∙ ap (λ k. take at old ++ (b ∷ []) ++ drop k old) (sym (add-one at));
}

-- bytes copied into the buffer
pub appended_copied : (bs : List ℕ) (at k : ℕ) (old ys : List ℕ) → ys ≡ bs → length bs ≡ k → Appended bs at old (put_mid at k old ys) (at + length bs)
appended_copied bs at k old ys e l = record {
  next = refl;
  buffer = put_mid-paste at k old ys bs (length bs) e l refl ∙ ap (λ b. take at old ++ b ++ drop (at + length bs) old) (take-length bs);
}

module _ {bs : List ℕ} {at r : ℕ} {old new : List ℕ} (h : Appended bs at old new r) (fits : at + length bs ≤ length old) where
  -- the buffer, as a copy of all the bytes
  copied : new ≡ paste old at bs (length bs)
  copied = h.buffer ∙ ap (λ l. take at old ++ l ++ drop (at + length bs) old) (sym (take-length bs))

  pub appended_length : length new ≡ length old
  appended_length = ap length copied ∙ length-paste old at bs (length bs) fits (omega arith)

  -- the bytes up to the place after them
  pub appended_take : take r new ≡ take at old ++ bs
  appended_take =
      ap₂ take h.next copied ∙ take-paste old at bs (length bs) (omega arith) (omega arith)
      ∙ ap (λ l. take at old ++ l) (take-length bs)

  rest : drop r new ≡ drop (at + length bs) old
  rest = ap₂ drop h.next copied ∙ drop-paste old at bs (length bs) (omega arith) (omega arith)

  -- more bytes, right after the first
  pub appended_append : {cs : List ℕ} {s : ℕ} {last : List ℕ} → Appended cs r new last s → Appended (bs ++ cs) at old last s
  appended_append {cs} {s} {last} k =
      let n : at + length bs + length cs ≡ at + length (bs ++ cs) = simp length-append (omega arith) in
      record {
        next = let e = h.next in let f = k.next in omega arith;
        buffer =
            k.buffer
            ∙ ap₂ (λ x y. x ++ cs ++ y) appended_take (sym (drop-drop (length cs) r new) ∙ ap (drop (length cs)) rest ∙ drop-drop (length cs) (at + length bs) old)
            ∙ ap₂ (λ x m. x ++ drop m old) (append_assoc (take at old) bs cs) n;
      }
