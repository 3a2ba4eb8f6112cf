-- Operator files handed in (document 01, "The maker of an operator file").
use Rattle.std.specs.Prelude.{Bool, not, cond, List, ℕ, ltb, pos, length}
use Rattle.std.specs.Int.Signed.{lt_z}
use Rattle.matrix.specs.Matrix.{Matrix}
use Rattle.matrix.specs.Determinant.{det}
use Rattle.matrix.specs.Operator.{Operator}
use Rattle.matrix.specs.Array.{is_within, is_orthogonal}
use Rattle.file.specs.File.{exponent_of, is_length, kind_of, file_exponent, file_operator}

-- "It is proper if the determinant of M is positive"
abbrev pub is_proper : Matrix → Bool
is_proper M = lt_z (pos 0) (det 6 M)

-- the refusals for a file's entries, in their order: "3: an entry whose square exceeds 2 to the power k", "4: not orthogonal", "5: orthogonal,
-- not proper". 0 is none
abbrev pub entries_refusal : Operator → ℕ
entries_refusal A =
    cond (not (is_within A.exponent A.matrix)) 3
    (cond (not (is_orthogonal A.exponent A.matrix)) 4
    (cond (not (is_proper A.matrix)) 5 0))

-- all of a file's refusals: "Number 1 now allows both lengths; 2 says 28 for the short file and 60 for the long one" (document 02, P10), then
-- those for its entries. "An operator is accepted if its file earns none of 1 to 5"
unfoldable pub file_refusal : List ℕ → ℕ
file_refusal b =
    cond (not (is_length (length b))) 1
    (cond (ltb (exponent_of (kind_of (length b))) (file_exponent b)) 2 (entries_refusal (file_operator b)))
