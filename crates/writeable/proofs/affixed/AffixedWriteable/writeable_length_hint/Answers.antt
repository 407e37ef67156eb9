use Rattle.std.proofs.Common.{length, subst}
use Rattle.writeable.specs.Affixed.{affixed}
use Rattle.writeable.specs.AnnotatedText.{text_of}
use Rattle.writeable.specs.LengthHint.{IsWithinHint}
use Rattle.writeable.proofs.AnnotatedTextLemmas.{affixed_length}
use Rattle.writeable.proofs.affixed.AffixedWriteable.writeable_length_hint.Goals as goal

-- the length of the value, and those of the two texts
pub returns-clause-within : goal.returns-clause-within
returns-clause-within g c =
    let inside = c.self.inside in
    let events = g.T.Writeable.events in
    subst (λ between. IsWithinHint c.longer_by-2.result (length (text_of (affixed events between)))) c.self.view_is
    (subst (λ n. IsWithinHint c.longer_by-2.result n) (affixed_length inside.before.now inside.behind.now (events inside.value))
    (c.longer_by-2.ensures.within _ (c.longer_by.ensures.within _ c.writeable_length_hint.ensures)))
