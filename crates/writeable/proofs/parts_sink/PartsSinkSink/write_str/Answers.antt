use Rattle.std.proofs.Common.{◌∙◌, refl, ap, arith, sym, subst}
use Rattle.std.proofs.lemmas.Str.{IsUtf8-had}
use Rattle.writeable.specs.HeldParts.{HeldParts}
use Rattle.writeable.specs.ListedParts.{FitTogether}
use Rattle.writeable.proofs.CutOutLemmas.{fit_with_more}
use Rattle.writeable.proofs.HeldLemmas.{holds_bytes}
use Rattle.writeable.proofs.ListedPartsLemmas.{holds_same, refused_bytes}
use Rattle.writeable.proofs.parts_sink.PartsSinkSink.write_str.Goals as goal

-- the text grew, and nothing else
pub returns-in-Ok-clause-ok : goal.returns-in-Ok-clause-ok
returns-in-Ok-clause-ok c = λ before is.
    holds_bytes _ _ before c.args.text.now (ap (λ (s : HeldParts). s.held) c.self.view_is ∙ is) c.in-Ok.ensures.bytes refl refl

-- nothing changed, and there was something to take
pub returns-in-Err-clause-begun : goal.returns-in-Err-clause-begun
returns-in-Err-clause-begun c = refused_bytes _ _ c.args.text.now (omega (arith, c.in-Err.ensures.full, c.self.inside.text.bytes.ok.1)) (λ before is.
    holds_same _ _ before (ap (λ (s : HeldParts). s.held) c.self.view_is ∙ is) c.in-Err.ensures.bytes refl refl)

-- the parts keep their characters
pub invariant_of-self : goal.invariant_of-self
invariant_of-self c =
    let inside = c.self.inside in
    subst (λ text. FitTogether text inside.parts.items inside.open_parts.items) (sym c.in-Ok.ensures.bytes)
    (fit_with_more _ _ inside.parts.items inside.open_parts.items (IsUtf8-had _ inside.text.ok) c.utf8.text c.self.invariant)
