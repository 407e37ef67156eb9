use Rattle.std.proofs.Common.{ap, sym, ◌∙◌}
use Rattle.writeable.specs.AnnotatedText.{text_of}
use Rattle.icu_decimal.specs.HeldTables.{tables_of}
use Rattle.icu_decimal.specs.PlainText.{decimal_events}
use Rattle.icu_decimal.proofs.TextLemmas.{decimal_is_text}
use Rattle.locale_numbers_answers.proofs.AnswerLineLemmas.{put_as, room_as}
use Rattle.locale_numbers_answers.proofs.number_answer.write_plain.Goals as goal

pub returns-clause-text : goal.returns-clause-text
returns-clause-text c =
    put_as c.write_ok.result _ _
    (ap (λ shown. text_of (decimal_events shown)) c.format.ensures ∙ decimal_is_text (tables_of c.args.formatter.now) c.args.value.now ∙ sym (c.plain_is_layered.ensures.text (tables_of c.args.formatter.now) c.args.value.now))
    _ _ c.write_ok.ensures.text

pub returns-clause-room : goal.returns-clause-room
returns-clause-room c =
    room_as c.write_ok.result _ _
    (ap (λ shown. text_of (decimal_events shown)) c.format.ensures ∙ decimal_is_text (tables_of c.args.formatter.now) c.args.value.now ∙ sym (c.plain_is_layered.ensures.text (tables_of c.args.formatter.now) c.args.value.now))
    _ _ c.write_ok.ensures.room
