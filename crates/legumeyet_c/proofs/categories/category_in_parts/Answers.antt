use Rattle.std.proofs.Common.{List, [], ap, ◌∙◌}
use Rattle.writeable.specs.AnnotatedText.{AnnotatedText, Event, annotated}
use Rattle.writeable.specs.HeldParts.{Held, HeldParts}
use Rattle.writeable.proofs.AnnotatedTextLemmas.{text_of_bytes}
use Rattle.icu_plurals.specs.Categories.{word}
use Rattle.legumeyet_c.proofs.CategoryLemmas.{no_parts, word_shown}
use Rattle.legumeyet_c.proofs.categories.category_in_parts.Goals as goal

pub returns-in-Ok-clause-value : goal.returns-in-Ok-clause-value
returns-in-Ok-clause-value c =
    let held = c.in-Ok.ensures.ok [] (ap (λ (s : HeldParts). s.held) c.new-sink.ensures) in
    record {
      is = word_shown c.args.rules.now c.args.formatter.now c.args.value.now c.in_ok-operands.operands _ c.in_ok-operands.ensures.value
          (ap (λ (h : Held). h.text) held ∙ text_of_bytes _ ∙ c.as_str-text.ensures ∙ ap word c.category_for.ensures);
      parts = ap (λ (h : Held). h.parts) held ∙ no_parts _ 0;
    }
