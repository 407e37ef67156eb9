use Rattle.std.proofs.Common.{drop, false, map, option_map}
use Rattle.writeable.specs.AnnotatedText.{bytes}
use Rattle.writeable.specs.Taking.{IsWriting}
use Rattle.locale_numbers_formats.specs.NormalText.{joined, word_of}
use Rattle.locale_numbers_formats.proofs.normal_text.write_words.Given as goal

abbrev pub invariant-loop-word : goal.invariant-loop-word
invariant-loop-word g l = record {
  writing : IsWriting g.S.Sink.takes g.S.Sink.refused l.initial.sink (bytes (joined false (map (option_map word_of) l.words)))
      l.sink (bytes (joined l.spaced (map (option_map word_of) (drop l.word-index l.words))));
}
