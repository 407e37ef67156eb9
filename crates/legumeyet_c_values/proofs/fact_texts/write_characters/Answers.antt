use Rattle.std.proofs.Common.{encode_utf8}
use Rattle.writeable.specs.AnnotatedText.{bytes}
use Rattle.writeable.specs.Taking.{on_err}
use Rattle.writeable.proofs.WritingLemmas.{writing_ends, writing_goes_on, writing_stops}
use Rattle.legumeyet_c_values.proofs.FactLemmas.{next_character, no_character}
use Rattle.legumeyet_c_values.proofs.fact_texts.write_characters.Goals as goal

pub loop-character-preserved : goal.loop-character-preserved
loop-character-preserved g c =
    let next = next_character c.args.characters.now c.loop-character.character-index c.character-item.result c.loop-character-test.true c.character-item.is in
    record {
      writing = writing_goes_on g.S.Sink.takes g.S.Sink.refused g.met.S.Sink.joins _ _ _ _ (bytes (encode_utf8 c.character-item.result)) _
          (rw next at c.loop-character.invariant.writing) c.in_ok-write_char.ensures.ok c.in_ok-write_char.ensures.refused;
    }

pub returns-in_err-write_char-clause-begun : goal.returns-in_err-write_char-clause-begun
returns-in_err-write_char-clause-begun g c =
    let next = next_character c.args.characters.now c.loop-character.character-index c.character-item.result c.loop-character-test.true c.character-item.is in
    on_err c.from_residual.result
    (writing_stops g.S.Sink.takes g.S.Sink.refused g.met.S.Sink.joins g.S.Sink.lacks_room g.met.S.Sink.lacks_more _ _ _ _ (bytes (encode_utf8 c.character-item.result)) _
    (rw next at c.loop-character.invariant.writing) c.in_err-write_char.ensures.begun)

pub returns-clause-ok : goal.returns-clause-ok
returns-clause-ok g c =
    writing_ends g.S.Sink.takes g.S.Sink.refused _ _ _
    (rw (no_character c.args.characters.now c.loop-character.character-index c.loop-character-test.false) at c.loop-character.invariant.writing)
