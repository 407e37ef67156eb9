use Rattle.std.proofs.Common.{OnOk, OnErr, List, sym, subst}
use Rattle.writeable.specs.AnnotatedText.{Event}
use Rattle.writeable.specs.Taking.{HasBegun}
use Rattle.icu_locale_core_locale.proofs.LocaleTextLemmas.{locale_joined}
use Rattle.icu_locale_core_locale.proofs.printing.LocaleWriteable.write_to.Goals as goal

pub returns-clause-ok : goal.returns-clause-ok
returns-clause-ok g c =
    subst (λ (events : List Event). OnOk c.write_parts.result (g.S.Sink.takes c.args.sink.now events c.write_parts.new.sink)) (sym (locale_joined c.args.self.now)) c.write_parts.ensures.ok

pub returns-clause-begun : goal.returns-clause-begun
returns-clause-begun g c =
    subst (λ (events : List Event). OnErr c.write_parts.result (HasBegun g.S.Sink.takes g.S.Sink.lacks_room c.args.sink.now events c.write_parts.new.sink)) (sym (locale_joined c.args.self.now))
    c.write_parts.ensures.begun
