use Rattle.std.proofs.Common.{option_map, subst, sym, ap, ◌∙◌}
use Rattle.std.specs.Prelude.{string_bytes}
use Rattle.locale_numbers_answers.specs.AnswerSink.{HasRoom}
use Rattle.locale_numbers_book.specs.FoundRules.{rules_held}
use Rattle.locale_numbers_formats.specs.Changed.{MayGrowBy, changed}
use Rattle.locale_numbers_formatter.specs.FormatText.{MayLengthen, fractions_in}
use Rattle.locale_numbers.specs.KeptFormatters.{Kept}
use Rattle.locale_numbers.proofs.AnsweringLemmas.{on_ok_same}
use Rattle.locale_numbers.proofs.CategoryLemmas.{range_told_by}
use Rattle.locale_numbers.proofs.range_line.write_range_by_formatter.Goals as goal

pub returns-in-Ok-change-clause-text : goal.returns-in-Ok-change-clause-text
returns-in-Ok-change-clause-text c =
    let format = ap (λ (k : Kept). k.formatter) c.kept.view_is in
    let fractions = c.fractions-fractions.ensures ∙ ap fractions_in format in
    let first = c.in-Ok.ensures.value ∙ ap (λ f. changed c.args.options f c.args.first.now) fractions in
    let second = c.in-Ok-change.ensures.value ∙ ap (λ f. changed c.args.options f c.args.second.now) fractions in
    on_ok_same c.write_range_category_answer.result _ (string_bytes c.args.out.now) _ _ (range_told_by c.kept.inside.formatter c.args.kept.now.formatter (rules_held c.in-Some.rules) c.args.kept.now.rules c.change.new.value c.change-in-Ok.new.value _ _ format (sym (ap (λ (k : Kept). k.rules) c.kept.view_is) ∙ ap (option_map rules_held) c.in-Some.is) first second)
    c.write_range_category_answer.ensures.text

pub returns-in-Ok-change-clause-room : goal.returns-in-Ok-change-clause-room
returns-in-Ok-change-clause-room c = λ room small less short.
    let format = ap (λ (k : Kept). k.formatter) c.kept.view_is in
    let fractions = c.fractions-fractions.ensures ∙ ap fractions_in format in
    let first = c.in-Ok.ensures.value ∙ ap (λ f. changed c.args.options f c.args.first.now) fractions in
    let second = c.in-Ok-change.ensures.value ∙ ap (λ f. changed c.args.options f c.args.second.now) fractions in
    c.write_range_category_answer.ensures.room (subst (λ answer. HasRoom c.args.out.now answer) (sym (range_told_by c.kept.inside.formatter c.args.kept.now.formatter (rules_held c.in-Some.rules) c.args.kept.now.rules c.change.new.value c.change-in-Ok.new.value _ _ format (sym (ap (λ (k : Kept). k.rules) c.kept.view_is) ∙ ap (option_map rules_held) c.in-Some.is) first second)) room)
    (subst (λ f. ¬ (MayLengthen f)) (sym format) short)

pub returns-in-Err-change-clause-room : goal.returns-in-Err-change-clause-room
returns-in-Err-change-clause-room c = λ room small less short.
    absurd (less (subst (λ f. MayGrowBy c.args.options.rounding f c.args.second.now) (c.fractions-fractions.ensures ∙ ap fractions_in (ap (λ (k : Kept). k.formatter) c.kept.view_is)) c.in-Err-change.ensures.room))

pub returns-in-Err-clause-room : goal.returns-in-Err-clause-room
returns-in-Err-clause-room c = λ room small less short.
    absurd (small (subst (λ f. MayGrowBy c.args.options.rounding f c.args.first.now) (c.fractions-fractions.ensures ∙ ap fractions_in (ap (λ (k : Kept). k.formatter) c.kept.view_is)) c.in-Err.ensures.room))
