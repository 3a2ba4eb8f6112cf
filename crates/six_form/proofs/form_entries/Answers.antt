use Prim.Native.Nat.{◌/◌, ◌%◌}
use borrow.Author.Rules.{rules}
use borrow.Author.Tests.{tests}
use lib.IntN.{pos}
use Rattle.matrix.proofs.Chains.{made}
use Rattle.gaussian.specs.Gaussian.{real}
use Rattle.unitary.specs.Unitary.{matrix_of}
use Rattle.unitary.specs.Form.{six_form}
use Rattle.six_form.specs.Places.{form_entries}
use Rattle.six_form.proofs.form_entries.Goals as goal

pub returns : goal.returns
unfolding form_entries
returns c =
    made _ (λ i. six_form (matrix_of c.args.u.now.entries) (i / 6) (i % 6)) (real (pos 0)) c.from_fn.result (λ x y q k. search (rules, tests)) 36 c.from_fn.ensures.items
