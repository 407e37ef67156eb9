use Rattle.std.proofs.Common.{option_map, subst, sym, ap, ◌∙◌}
use Rattle.std.specs.Prelude.{string_bytes}
use Rattle.locale_numbers_answers.specs.AnswerSink.{HasRoom}
use Rattle.locale_numbers_book.specs.FoundRules.{rules_held}
use Rattle.locale_numbers_formats.specs.Changed.{MayGrowBy, changed}
use Rattle.locale_numbers_formatter.specs.FormatText.{MayLengthen, fractions_in}
use Rattle.locale_numbers.specs.KeptFormatters.{Kept}
use Rattle.locale_numbers.proofs.AnsweringLemmas.{on_ok_same}
use Rattle.locale_numbers.proofs.CategoryLemmas.{told_by}
use Rattle.locale_numbers.proofs.category_line.write_category_by_formatter.Goals as goal

pub returns-in-Ok-clause-text : goal.returns-in-Ok-clause-text
returns-in-Ok-clause-text c =
    let format = ap (λ (k : Kept). k.formatter) c.kept.view_is in
    let value = c.in-Ok.ensures.value ∙ ap (λ f. changed c.args.options f c.args.value.now) (c.fractions.ensures ∙ ap fractions_in format) in
    on_ok_same c.write_category_answer.result _ (string_bytes c.args.out.now) _ _
    (told_by c.kept.inside.formatter c.args.kept.now.formatter (rules_held c.in-Some.rules) c.args.kept.now.rules c.change.new.value _ format (sym (ap (λ (k : Kept). k.rules) c.kept.view_is) ∙ ap (option_map rules_held) c.in-Some.is) value)
    c.write_category_answer.ensures.text

pub returns-in-Ok-clause-room : goal.returns-in-Ok-clause-room
returns-in-Ok-clause-room c = λ room small short.
    let format = ap (λ (k : Kept). k.formatter) c.kept.view_is in
    let value = c.in-Ok.ensures.value ∙ ap (λ f. changed c.args.options f c.args.value.now) (c.fractions.ensures ∙ ap fractions_in format) in
    c.write_category_answer.ensures.room
    (subst (λ answer. HasRoom c.args.out.now answer)
    (sym (told_by c.kept.inside.formatter c.args.kept.now.formatter (rules_held c.in-Some.rules) c.args.kept.now.rules c.change.new.value _ format (sym (ap (λ (k : Kept). k.rules) c.kept.view_is) ∙ ap (option_map rules_held) c.in-Some.is) value)) room)
    (subst (λ f. ¬ (MayLengthen f)) (sym format) short)

pub returns-in-Err-clause-room : goal.returns-in-Err-clause-room
returns-in-Err-clause-room c = λ room small short.
    absurd (small (subst (λ f. MayGrowBy c.args.options.rounding f c.args.value.now) (c.fractions.ensures ∙ ap fractions_in (ap (λ (k : Kept). k.formatter) c.kept.view_is)) c.in-Err.ensures.room))
