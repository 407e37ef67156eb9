use Rattle.writeable.specs.AnnotatedText.{bytes}
use Rattle.writeable.specs.Taking.{on_err}
use Rattle.writeable.proofs.WritingLemmas.{writing_ends, writing_goes_on, writing_stops}
use Rattle.locale_numbers_formats.proofs.NormalLemmas.{marks_next, no_marks}
use Rattle.locale_numbers_formats.proofs.normal_text.write_marks.Goals as goal

pub loop-left-preserved : goal.loop-left-preserved
loop-left-preserved g c =
    let next = marks_next c.loop-left.left c.args.mark.now c.loop-left-test.true in
    record {
      writing = writing_goes_on g.S.Sink.takes g.S.Sink.refused g.met.S.Sink.joins _ _ _ _ (bytes c.args.mark.now) _
          (rw next at c.loop-left.invariant.writing) c.in_ok-write_str.ensures.ok c.in_ok-write_str.ensures.refused;
    }

pub returns-in_err-write_str-clause-begun : goal.returns-in_err-write_str-clause-begun
returns-in_err-write_str-clause-begun g c =
    let next = marks_next c.loop-left.left c.args.mark.now c.loop-left-test.true in
    on_err c.from_residual.result
    (writing_stops g.S.Sink.takes g.S.Sink.refused g.met.S.Sink.joins g.S.Sink.lacks_room g.met.S.Sink.lacks_more _ _ _ _ (bytes c.args.mark.now) _
    (rw next at c.loop-left.invariant.writing) c.in_err-write_str.ensures.begun)

pub returns-clause-ok : goal.returns-clause-ok
returns-clause-ok g c =
    writing_ends g.S.Sink.takes g.S.Sink.refused _ _ _
    (rw (no_marks c.loop-left.left c.args.mark.now c.loop-left-test.false) at c.loop-left.invariant.writing)
