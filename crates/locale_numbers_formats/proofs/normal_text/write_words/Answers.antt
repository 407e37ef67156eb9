use Rattle.writeable.specs.Taking.{on_err}
use Rattle.writeable.proofs.WritingLemmas.{writing_ends}
use Rattle.locale_numbers_formats.proofs.NormalLemmas.{no_words_left, words_go_on, words_stop}
use Rattle.locale_numbers_formats.proofs.normal_text.write_words.Goals as goal

pub loop-word-preserved : goal.loop-word-preserved
loop-word-preserved g c = record {
  writing = words_go_on g.S.Sink.takes g.S.Sink.refused g.met.S.Sink.joins _ _ _ _ c.loop-word.spaced c.args.words.now c.loop-word.word-index _ c.loop-word-test.true
      c.loop-word.invariant.writing _ c.in_ok-write_optional.ensures.ok c.in_ok-write_optional.ensures.refused c.is_spaced-spaced.ensures;
}

pub returns-in_err-write_optional-clause-begun : goal.returns-in_err-write_optional-clause-begun
returns-in_err-write_optional-clause-begun g c =
    on_err c.from_residual.result
    (words_stop g.S.Sink.takes g.S.Sink.refused g.met.S.Sink.joins _ _ _ _ c.loop-word.spaced c.args.words.now c.loop-word.word-index _ c.loop-word-test.true
    c.loop-word.invariant.writing g.S.Sink.lacks_room g.met.S.Sink.lacks_more c.in_err-write_optional.ensures.begun)

pub returns-clause-ok : goal.returns-clause-ok
returns-clause-ok g c =
    writing_ends g.S.Sink.takes g.S.Sink.refused _ _ _
    (rw (no_words_left c.loop-word.spaced c.args.words.now c.loop-word.word-index c.loop-word-test.false) at c.loop-word.invariant.writing)
