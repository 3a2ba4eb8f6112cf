-- Words written into a buffer one after the other: their letters are bytes.
use Rattle.std.specs.Prelude.{◌≡◌, refl, List, [], ◌∷◌, ◌++◌, map, ℕ, ◌+◌, ◌≤◌, ◌<◌, length, take, drop, set}
use Rattle.std.proofs.Common.{sym, ap, subst, ◌∙◌, arith}
use Rattle.std.proofs.lemmas.List.{length-map}
use Rattle.file.specs.File.{Appended}
use Rattle.file.specs.Laws.Written.{appended_as, appended_none, appended_one, appended_length, appended_append}
use Rattle.letter.specs.declared.Gate.{Gate}
use Rattle.letter.specs.Gate.{letter}
use Rattle.letter.specs.Written.{Written}

map_append : (u v : List Gate) → map letter (u ++ v) ≡ map letter u ++ map letter v
map_append [] v = refl
map_append (x ∷ u) v = ap (λ l. letter x ∷ l) (map_append u v)

pub appended_written : {w : List Gate} {at r : ℕ} {old new : List ℕ} → Appended (map letter w) at old new r → Written w at old new r
appended_written {w} {at} {r} {old} a =
    let n = length-map w letter in
    record { next = a.next ∙ ap (λ k. at + k) n; buffer = a.buffer ∙ ap (λ k. take at old ++ map letter w ++ drop (at + k) old) n }

pub written_appended : {w : List Gate} {at r : ℕ} {old new : List ℕ} → Written w at old new r → Appended (map letter w) at old new r
written_appended {w} {at} {r} {old} h =
    let n = sym (length-map w letter) in
    record { next = h.next ∙ ap (λ k. at + k) n; buffer = h.buffer ∙ ap (λ k. take at old ++ map letter w ++ drop (at + k) old) n }

pub written_as : {u w : List Gate} {at r : ℕ} {old new : List ℕ} → u ≡ w → Written u at old new r → Written w at old new r
written_as {at = at} {r = r} {old = old} {new = new} e h = subst (λ w. Written w at old new r) e h

pub written_none : (at : ℕ) (old : List ℕ) → Written [] at old old at
written_none at old = appended_written (appended_none at old)

pub written_one : (g : Gate) (at : ℕ) (old : List ℕ) → at < length old → Written (g ∷ []) at old (set old at (letter g)) (at + 1)
written_one g at old h = appended_written (appended_one (letter g) at old h)

module _ {w : List Gate} {at r : ℕ} {old new : List ℕ} (h : Written w at old new r) (fits : at + length w ≤ length old) where
  room : at + length (map letter w) ≤ length old
  room = let n = length-map w letter in omega arith

  pub written_length : length new ≡ length old
  written_length = appended_length (written_appended h) room

  -- a second word, right after the first
  pub written_append : {v : List Gate} {s : ℕ} {last : List ℕ} → Written v r new last s → Written (w ++ v) at old last s
  written_append {v} k = appended_written (appended_as (sym (map_append w v)) (appended_append (written_appended h) room (written_appended k)))
