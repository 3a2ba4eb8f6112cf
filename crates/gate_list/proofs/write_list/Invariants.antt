-- The invariant: the stretches before this number are written, and their signs are added.
use Rattle.std.proofs.Common.{◌≡◌}
use Rattle.gate_list.specs.Laws.Listing.{Listing}
use Rattle.gate_list.proofs.write_list.Given as goal

abbrev pub invariant-loop-number : goal.invariant-loop-number
invariant-loop-number l = record {
  listing : Listing l.number-items l.cut.columns l.initial.writer.out.now l.writer.out.now l.before l.writer.at l.signs l.number-index;
  lent : l.writer.out.ghost_name ≡ l.initial.writer.out.ghost_name;
}
