-- What `make_bundle` writes: the bundle of the sheets, or the one line `refused N`.
use Rattle.std.specs.Prelude.{cond, List, ℕ, eqb}
use Rattle.text.specs.Text.{refused_line}
use Rattle.bundle_write.specs.Writing.{sheets_refusal, sheets_bundle}

-- for the bytes s
unfoldable pub output_of : List ℕ → List ℕ
output_of s = cond (eqb (sheets_refusal s) 0) (sheets_bundle s) (refused_line (sheets_refusal s))
