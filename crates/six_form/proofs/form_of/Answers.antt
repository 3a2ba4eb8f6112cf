-- Each way out is a phase of the form.
use mathlib.Core.Path.{◌≡◌, sym, ap, ◌∙◌}
use mathlib.Core.Bool.{true, false}
use mathlib.Core.List.{List}
use Prim.Native.Nat.{◌+◌, ◌*◌}
use native.Mathlib.Omega.{arith}
use lib.IntN.{ℤ}
use Rattle.matrix.specs.Matrix.{listed}
use Rattle.matrix.specs.Laws.Array.{length_listed}
use Rattle.gaussian.specs.declared.Gaussian.{Gaussian}
use Rattle.unitary.specs.Unitary.{Quotient, Unitary}
use Rattle.unitary.specs.Form.{six_form}
use Rattle.unitary_file.specs.Reading.{unitary_in}
use Rattle.six_form.specs.Places.{form_entries, real_parts, imaginary_parts, is_zero, FormAs}
use Rattle.six_form.specs.Laws.Form.{imaginary_form, real_form_lem, diagonal_form}
use Rattle.six_form.proofs.Parts.{real_listed, imaginary_listed}
use Rattle.six_form.proofs.form_of.Goals as goal

module _ (U : Quotient) (o : Unitary U) (r : List Gaussian) (p : r ≡ form_entries U.matrix) where
  re : real_parts r ≡ listed (λ i j. (six_form U.matrix i j).re)
  re = ap real_parts p ∙ real_listed U.matrix

  im : imaginary_parts r ≡ listed (λ i j. (six_form U.matrix i j).im)
  im = ap imaginary_parts p ∙ imaginary_listed U.matrix

  module _ {m : List ℤ} where
    imaginary : m ≡ imaginary_parts r → is_zero (real_parts r) ≡ true → FormAs U (record { exponent = 2 * U.exponent + 2; matrix = m })
    imaginary l e = record { small = omega arith; long = rw (l, im) (length_listed _); same = rw (l, im) (imaginary_form U o (ap is_zero (sym re) ∙ e)) }

    whole : m ≡ real_parts r → is_zero (imaginary_parts r) ≡ true → FormAs U (record { exponent = 2 * U.exponent + 2; matrix = m })
    whole l e = record { small = omega arith; long = rw (l, re) (length_listed _); same = rw (l, re) (real_form_lem U o (ap is_zero (sym im) ∙ e)) }

    diagonal : m ≡ real_parts r → is_zero (real_parts r) ≡ false → is_zero (imaginary_parts r) ≡ false → FormAs U (record { exponent = 2 * U.exponent + 1; matrix = m })
    diagonal l e f = record { small = omega arith; long = rw (l, re) (length_listed _); same = rw (l, re) (diagonal_form U o (ap is_zero (sym re) ∙ e) (ap is_zero (sym im) ∙ f)) }

pub returns-then-is_imaginary : goal.returns-then-is_imaginary
returns-then-is_imaginary c =
    imaginary (unitary_in c.args.u.now) c.requires _ c.form_entries-entries.ensures (cc) (sym c.is_imaginary.ensures ∙ c.if-is_imaginary.true)

pub returns-then-is_real : goal.returns-then-is_real
returns-then-is_real c =
    whole (unitary_in c.args.u.now) c.requires _ c.form_entries-entries.ensures (cc) (sym c.is_real.ensures ∙ c.if-is_real.true)

pub returns : goal.returns
returns c =
    diagonal (unitary_in c.args.u.now) c.requires _ c.form_entries-entries.ensures (cc)
    (sym c.is_imaginary.ensures ∙ c.if-is_imaginary.false) (sym c.is_real.ensures ∙ c.if-is_real.false)
