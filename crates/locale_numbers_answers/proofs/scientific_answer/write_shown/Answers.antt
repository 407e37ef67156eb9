use Rattle.std.proofs.Common.{◌∷◌}
use Rattle.std.specs.Prelude.{string_bytes, string_capacity}
use Rattle.std.proofs.lemmas.Bool.{false≢true}
use Rattle.writeable.specs.AnnotatedText.{text_of}
use Rattle.writeable.specs.Taking.{on_err_by}
use Rattle.fixed_decimal.specs.ScientificText.{scientific_text_of}
use Rattle.icu_decimal_scientific.specs.ExponentialText.{scientific_events}
use Rattle.locale_numbers_formatter.specs.HeldScientific.{scientific_held}
use Rattle.locale_numbers_answers.specs.AnswerLine.{written}
use Rattle.locale_numbers_requests.specs.Request.{tab}
use Rattle.locale_numbers_answers.proofs.AnswerLineLemmas.{on_ok_by}
use Rattle.locale_numbers_answers.proofs.ValueLemmas.{first_fits, grows_after, put_after, scientific_put, second_fits}
use Rattle.locale_numbers_answers.proofs.scientific_answer.write_shown.Goals as goal

pub returns-clause-text : goal.returns-clause-text
returns-clause-text c =
    on_ok_by c.write_tab_and_scientific.result
    (put_after _ _ _ (string_bytes c.args.out.now)
    (scientific_put c.text_law.ensures (scientific_held c.args.formatter.now).settings (record { significand = c.args.significand.now; exponent = c.args.exponent.now })
    c.format_shown.result c.format_shown.ensures)
    _ _ c.in_ok-write_ok.ensures.text)
    c.write_tab_and_scientific.ensures.text

pub returns-in_err-write_ok-clause-room : goal.returns-in_err-write_ok-clause-room
returns-in_err-write_ok-clause-room c = λ room.
    absurd (false≢true (c.in_err-write_ok.ensures.room
    (first_fits (written (text_of (scientific_events c.format_shown.result)))
    (tab ∷ scientific_text_of (record { significand = c.args.significand.now; exponent = c.args.exponent.now })) _ (string_bytes c.args.out.now)
    (scientific_put c.text_law.ensures (scientific_held c.args.formatter.now).settings (record { significand = c.args.significand.now; exponent = c.args.exponent.now })
    c.format_shown.result c.format_shown.ensures)
    (string_capacity c.args.out.now) room)))

pub returns-clause-room : goal.returns-clause-room
returns-clause-room c = λ room.
    c.write_tab_and_scientific.ensures.room
    (second_fits _ _ _ (string_bytes c.args.out.now)
    (scientific_put c.text_law.ensures (scientific_held c.args.formatter.now).settings (record { significand = c.args.significand.now; exponent = c.args.exponent.now })
    c.format_shown.result c.format_shown.ensures)
    _ (string_capacity c.args.out.now) _ c.in_ok-write_ok.ensures.text c.in_ok-write_ok.ensures.capacity room)

pub returns-clause-err : goal.returns-clause-err
returns-clause-err c =
    on_err_by c.write_tab_and_scientific.result
    (grows_after (string_bytes c.args.out.now) (string_bytes c.write_ok.new.out) (string_bytes c.write_tab_and_scientific.new.out)
    (written (text_of (scientific_events c.format_shown.result))) c.in_ok-write_ok.ensures.text)
    c.write_tab_and_scientific.ensures.err
