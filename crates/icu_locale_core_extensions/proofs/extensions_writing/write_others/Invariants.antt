use Rattle.std.proofs.Common.{◌≡◌, ◌&&◌, drop}
use Rattle.writeable.specs.AnnotatedText.{bytes}
use Rattle.writeable.specs.Taking.{IsWriting}
use Rattle.icu_locale_core_grammar.specs.NormalText.{other_blocks, block_pieces}
use Rattle.icu_locale_core_grammar.specs.TagStages.{has_none}
use Rattle.icu_locale_core_extensions.specs.ExtensionText.{placed}
use Rattle.icu_locale_core_extensions.proofs.extensions_writing.write_others.Given as goal

abbrev pub invariant-loop-other : goal.invariant-loop-other
invariant-loop-other g l = record {
  writing : IsWriting g.S.Sink.takes g.S.Sink.refused l.initial.sink (bytes (placed l.initial.begins (block_pieces (other_blocks l.others)))) l.sink
      (bytes (placed l.begins (block_pieces (other_blocks (drop l.other-index l.others)))));
  still : (l.begins && has_none (block_pieces (other_blocks (drop l.other-index l.others)))) ≡ (l.initial.begins && has_none (block_pieces (other_blocks l.others)));
}
