use Rattle.writeable.specs.AnnotatedText.{bytes}
use Rattle.writeable.specs.Taking.{IsWriting}
use Rattle.locale_numbers_formats.specs.NormalText.{marks}
use Rattle.locale_numbers_formats.proofs.normal_text.write_marks.Given as goal

abbrev pub invariant-loop-left : goal.invariant-loop-left
invariant-loop-left g l = record {
  writing : IsWriting g.S.Sink.takes g.S.Sink.refused l.initial.sink (bytes (marks l.fn.count l.mark)) l.sink (bytes (marks l.left l.mark));
}

abbrev pub decreases-loop-left : goal.decreases-loop-left
decreases-loop-left g l = l.left
