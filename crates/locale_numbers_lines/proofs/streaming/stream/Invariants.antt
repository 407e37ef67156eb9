use Rattle.std.proofs.Common.{◌≡◌, ℕ, List, [], false, string_bytes}
use Rattle.std.specs.Io.KnownBytes.{Consumes}
use Rattle.locale_numbers_lines.specs.Progress.{Progress}
use Rattle.locale_numbers_lines.proofs.streaming.stream.Given as goal

abbrev pub invariant-read : goal.invariant-read
invariant-read g l = record {
  told : List ℕ;
  gave : Consumes (g.R.ByteReader.remaining l.initial.reader) (g.R.ByteReader.remaining l.reader) told;
  came : Progress (g.A.Answerer.answer_of l.initial.answerer) told l.held.items [] [] (g.W.ByteWriter.contents l.initial.writer) (g.W.ByteWriter.contents l.writer) 0 l.lines
      (g.A.Answerer.made_over l.initial.answerer) (g.A.Answerer.made_over l.answerer);
  nothing : string_bytes l.ready ≡ [];
  same : g.A.Answerer.answer_of l.answerer ≡ g.A.Answerer.answer_of l.initial.answerer;
  can_answer : g.A.Answerer.is_ready l.answerer;
  reader_well : g.R.ByteReader.failed l.reader ≡ false;
  writer_well : g.W.ByteWriter.failed l.writer ≡ false;
}

abbrev pub decreases-read : goal.decreases-read
decreases-read g l = g.R.ByteReader.reads_left l.reader
