-- The invariant: of every word that the number stands for, i letters are written and the rest of the number is that of the others.
use Rattle.std.proofs.Common.{◌≡◌, ◌+◌, List, length}
use Rattle.letter.specs.declared.Gate.{Gate}
use Rattle.word_code.specs.Code.{encoded}
use Rattle.word_code.specs.Laws.Code.{Begun}
use Rattle.word_code.proofs.write_code.Given as goal

abbrev pub invariant-loop : goal.invariant-loop
invariant-loop l = record {
  place : l.writer.at ≡ l.initial.writer.at + l.counter;
  long : length l.writer.out.now ≡ length l.initial.writer.out.now;
  word : (w : List Gate) → l.code ≡ encoded w → Begun w l.initial.writer l.writer l.rest;
}
