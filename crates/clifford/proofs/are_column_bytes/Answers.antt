use mathlib.Core.Path.{refl, ◌∙◌}
use mathlib.Core.Bool.{◌&&◌}
use borrow.Author.Rules.{rules}
use borrow.Author.Tests.{tests}
use Rattle.std.specs.List.{list_all}
use Rattle.std.proofs.lemmas.List.Recursion.{same_from_clauses}
use Rattle.std.proofs.lemmas.Iterator.{YieldsList-from_slice}
use Rattle.std.proofs.lemmas.Iterator.Search.{all_from_yields_List}
use Rattle.clifford.specs.Columns.{is_column_byte, are_column_bytes}
use Rattle.clifford.proofs.are_column_bytes.Goals as goal

pub returns : goal.returns
returns c =
    let bs = c.args.columns in
    all_from_yields_List is_column_byte _ _ _ c.all.ensures.ran (YieldsList-from_slice bs cc) (λ x b q k. search (rules, tests))
    ∙ same_from_clauses (list_all is_column_byte) are_column_bytes (λ b t. is_column_byte b && t) refl (λ _ _. refl) (λ _ _. refl) bs
