use Rattle.std.proofs.Common.{◌≡◌, ◌<◌, false, ◌++◌, string_bytes, length}
use Rattle.locale_numbers_lines.specs.Progress.{Progress}
use Rattle.locale_numbers_lines.specs.declared.writing.TheConstants.{PIECE}
use Rattle.locale_numbers_lines.proofs.feeding.gather.Given as goal

abbrev pub invariant-line : goal.invariant-line
invariant-line g l = record {
  came : Progress (g.A.Answerer.answer_of l.initial.answerer) (l.initial.held.items ++ l.initial.left) l.held.items l.left (string_bytes l.ready)
      (g.W.ByteWriter.contents l.initial.writer) (g.W.ByteWriter.contents l.writer) l.initial.count l.count
      (g.A.Answerer.made_over l.initial.answerer) (g.A.Answerer.made_over l.answerer);
  same : g.A.Answerer.answer_of l.answerer ≡ g.A.Answerer.answer_of l.initial.answerer;
  can_answer : g.A.Answerer.is_ready l.answerer;
  well : g.W.ByteWriter.failed l.writer ≡ false;
  short : length (string_bytes l.ready) < PIECE;
}

abbrev pub decreases-line : goal.decreases-line
decreases-line g l = length l.left
