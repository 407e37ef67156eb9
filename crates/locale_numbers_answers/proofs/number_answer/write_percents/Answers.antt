use Rattle.std.proofs.Common.{ap, sym, ◌∙◌}
use Rattle.writeable.specs.AnnotatedText.{text_of}
use Rattle.icu_dimension.specs.HeldFormatters.{settings_of_percent, sign_of}
use Rattle.icu_dimension.specs.UnitText.{unit_decimal_events}
use Rattle.locale_numbers_formatter.specs.HeldFormats.{percent_format}
use Rattle.locale_numbers_answers.proofs.AnswerLineLemmas.{put_as, room_as}
use Rattle.locale_numbers_answers.proofs.number_answer.write_percents.Goals as goal

pub returns-in-None-clause-text : goal.returns-in-None-clause-text
returns-in-None-clause-text c =
    put_as c.write_ok.result _ _
    (ap (λ shown. text_of (unit_decimal_events shown)) c.format.ensures ∙ c.text_law.ensures.text (settings_of_percent c.args.formatter.now) c.args.value.now
    ∙ sym (c.unit_is_layered.ensures.text (percent_format (sign_of c.args.formatter.now) (settings_of_percent c.args.formatter.now)) c.args.value.now))
    _ _ c.write_ok.ensures.text

pub returns-in-None-clause-room : goal.returns-in-None-clause-room
returns-in-None-clause-room c =
    room_as c.write_ok.result _ _
    (ap (λ shown. text_of (unit_decimal_events shown)) c.format.ensures ∙ c.text_law.ensures.text (settings_of_percent c.args.formatter.now) c.args.value.now
    ∙ sym (c.unit_is_layered.ensures.text (percent_format (sign_of c.args.formatter.now) (settings_of_percent c.args.formatter.now)) c.args.value.now))
    _ _ c.write_ok.ensures.room
