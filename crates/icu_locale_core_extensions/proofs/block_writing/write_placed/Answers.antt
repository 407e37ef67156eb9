use Rattle.std.proofs.Common.{sym, ap, ◌∙◌, List, subst}
use Rattle.writeable.specs.AnnotatedText.{Event, bytes}
use Rattle.icu_locale_core_extensions.specs.ExtensionText.{placed}
use Rattle.icu_locale_core_extensions.proofs.BlockLemmas.{unshown, nothing_placed}
use Rattle.icu_locale_core_extensions.proofs.block_writing.write_placed.Goals as goal

pub returns-then-has_no_piece-clause-ok : goal.returns-then-has_no_piece-clause-ok
returns-then-has_no_piece-clause-ok g c =
    let none = unshown (g.B.Block.first c.args.block.now) (g.B.Block.behind c.args.block.now) (g.B.Block.part c.args.block.now) (sym c.has_no_piece.ensures ∙ c.if-has_no_piece.true) in
    subst (λ (es : List Event). g.S.Sink.takes c.args.sink.now es c.args.sink.now) (sym (ap (λ ps. bytes (placed c.args.begins ps)) none ∙ nothing_placed c.args.begins)) (g.met.S.Sink.nothing c.args.sink.now)
