use Rattle.std.proofs.Common.{sym, subst, List}
use Rattle.writeable.specs.AnnotatedText.{Event}
use Rattle.locale_numbers_formats.proofs.NormalLemmas.{no_word}
use Rattle.locale_numbers_formats.proofs.normal_text.write_optional.Goals as goal

pub returns-in-None-clause-ok : goal.returns-in-None-clause-ok
returns-in-None-clause-ok g c =
    subst (λ (es : List Event). g.S.Sink.takes c.args.sink.now es c.args.sink.now) (sym (no_word c.args.spaced c.args.word.now c.in-None.is)) (g.met.S.Sink.nothing c.args.sink.now)
