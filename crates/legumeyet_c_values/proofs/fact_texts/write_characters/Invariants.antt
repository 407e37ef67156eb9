use Rattle.std.proofs.Common.{drop, encode_utf8_all}
use Rattle.writeable.specs.AnnotatedText.{bytes}
use Rattle.writeable.specs.Taking.{IsWriting}
use Rattle.legumeyet_c_values.proofs.fact_texts.write_characters.Given as goal

abbrev pub invariant-loop-character : goal.invariant-loop-character
invariant-loop-character g l = record {
  writing : IsWriting g.S.Sink.takes g.S.Sink.refused l.initial.sink (bytes (encode_utf8_all l.characters)) l.sink (bytes (encode_utf8_all (drop l.character-index l.characters)));
}
