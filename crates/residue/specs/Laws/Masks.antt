-- The masks of six rows, as an array holds them: what is asked of them is asked of the rows.
use Rattle.std.specs.Prelude.{◌≡◌, ℕ, ◌<◌}
use Rattle.std.proofs.Math.Path.{ap}
use Rattle.std.proofs.Common.{ap₂, ◌∙◌, zero-add, arith}
use Rattle.std.specs.Int.Count.{ones}
use Rattle.std.proofs.Math.Dec.{eqb, ltb}
use Rattle.matrix.specs.Range.{tabulate}
use Rattle.matrix.specs.Laws.Range.{first_cong, get_d_tabulate}
use Rattle.residue.specs.Generator.{first_fit}
use Rattle.residue.specs.Masks.{mask_at, has_even_row}
use Rattle.residue.specs.Laws.Generator.{first_fit_cong}

module _ (f : ℕ → ℕ) where
  mask_held : (r : ℕ) → r < 6 → mask_at (tabulate f 0 6) r ≡ f r
  mask_held r h = get_d_tabulate f 0 6 r 0 h ∙ ap f (zero-add r)

  pub first_fit_held : first_fit (mask_at (tabulate f 0 6)) ≡ first_fit f
  first_fit_held = first_fit_cong (mask_at (tabulate f 0 6)) f (λ r s hr hs. ap₂ eqb (mask_held r hr) (mask_held s hs))

  pub even_row_held : has_even_row (mask_at (tabulate f 0 6)) ≡ has_even_row f
  unfolding has_even_row
  even_row_held = ap (λ n. ltb n 6) (first_cong _ _ 0 6 (λ r l u. ap (λ x. eqb (ones x) 0) (mask_held r (omega arith))))
