use Rattle.std.proofs.Common.{rules, List, [], ap, ◌∙◌}
use Rattle.writeable.specs.AnnotatedText.{AnnotatedText, Event, annotated}
use Rattle.writeable.specs.HeldParts.{Held, HeldParts}
use Rattle.legumeyet_c.proofs.formatting.number_in_parts.Goals as goal

pub returns-in-Ok-write_to-clause-value : goal.returns-in-Ok-write_to-clause-value
returns-in-Ok-write_to-clause-value c =
    let held = c.in-Ok-write_to.ensures.ok [] (ap (λ (s : HeldParts). s.held) c.new-sink.ensures) in
    let text : Held → AnnotatedText = λ h. record { text = h.text; parts = h.parts } in
    record { can = search rules; is = ap text held ∙ ap (λ (es : List Event). annotated es) c.in-Ok.ensures.parts }
