use mathlib.Core.Path.{◌≡◌, refl, sym, ap, subst, ◌∙◌}
use mathlib.Core.List.{List}
use Prim.Native.Nat.{ℕ, ◌+◌, ◌*◌, ◌<◌, ◌≤◌}
use native.Mathlib.Omega.{arith}
use lib.IntN.{ℤ, pos}
use lib.ListN.{length, get_or, take, length-set}
use borrow.Rule.Slice.PartMut.{put_mid}
use Rattle.matrix.specs.Range.{tabulate}
use Rattle.matrix.specs.Laws.Range.{length_tabulate}
use Rattle.file.specs.File.{length_of, width_of, highest_of, kind_for, bits_of, byte_of, Appended}
use Rattle.file.specs.Laws.Written.{appended_copied}
use Rattle.file.specs.Laws.Encoding.{Begun, begun_none, begun_more, begun_all, stored_bytes}
use Rattle.file.proofs.encode_as.Goals as goal

-- the bytes of entry n, copied to its place
module _ (k p : ℕ) (s : p ≡ width_of (kind_for k)) (m : List ℤ) (n : ℕ) (old new : List ℕ) (w : Begun (kind_for k) k m n old new) (l : length_of (kind_for k) ≤ length old) (h : n < 36) where
  abbrev number : ℕ
  number = bits_of (highest_of (kind_for k)) (get_or m n (pos 0))

  abbrev bytes : List ℕ
  bytes = tabulate (byte_of number) 0 (width_of (kind_for k))

  turn : (r : ℕ) (ys : List ℕ) → r ≡ p → ys ≡ bytes → Begun (kind_for k) k m (n + 1) old (put_mid (1 + p * n) r new ys)
  turn r ys e f =
      let last = put_mid (1 + p * n) r new ys in
      let x = length_tabulate (byte_of number) 0 (width_of (kind_for k)) in
      let v = subst (λ z. Appended bytes (1 + p * n) new last (1 + p * n + z)) x (appended_copied bytes (1 + p * n) r new ys f (x ∙ sym s ∙ sym e)) in
      begun_more (kind_for k) k m n old new w l number refl h last (subst (λ z. Appended bytes (1 + z * n) new last (1 + z * n + width_of (kind_for k))) s v)

pub loop-n-init : goal.loop-n-init
loop-n-init g c =
    let a = c.args in
    let k = a.operator.now.exponent in
    (rw (length-set a.out.now 0 k) c.requires.1, begun_none (kind_for k) k a.operator.now.matrix a.out.now c.requires.1)

pub loop-n-preserved : goal.loop-n-preserved
loop-n-preserved g c =
    let o = c.args.operator.now in
    let l = c.loop-n in
    let s = c.requires.0 in
    let b = c.copy_from_slice.ensures.after ∙ ap (take g.row.W) c.to_le_bytes-bits.ensures in
    (l.invariant.0, turn o.exponent g.row.W s o.matrix l.n _ _ l.invariant.1 l.invariant.0 c.loop-n-test.true _ _ (omega arith) (b ∙ stored_bytes (kind_for o.exponent) g.row.W s o.matrix c.requires.2 l.n (omega arith)))

pub returns : goal.returns
returns g c = let o = c.args.operator.now in begun_all (kind_for o.exponent) o.exponent o.matrix c.loop-n.n c.args.out.now _ (omega arith) c.loop-n.invariant.1
