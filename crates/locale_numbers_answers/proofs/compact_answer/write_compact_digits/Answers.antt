use Rattle.std.proofs.Common.{true, rules, ◌≡◌}
use Rattle.std.specs.Prelude.{string_bytes, string_capacity}
use Rattle.writeable.specs.Taking.{on_err_by}
use Rattle.locale_numbers_formatter.specs.FormatText.{format_text}
use Rattle.locale_numbers_formatter.specs.HeldDigits.{compact_held, digits_format, options_held}
use Rattle.locale_numbers_answers.specs.AnswerLine.{written}
use Rattle.locale_numbers_answers.proofs.AnswerLineLemmas.{on_ok_by}
use Rattle.locale_numbers_answers.proofs.ValueLemmas.{digits_whole, grows_after, put_after, second_fits}
use Rattle.locale_numbers_answers.proofs.compact_answer.write_compact_digits.Goals as goal

pub returns-clause-text : goal.returns-clause-text
returns-clause-text c =
    let can : c.can_show.result ≡ true = search rules in
    on_ok_by c.write_tab_and_value_shown.result
    (put_after _ _ _ (string_bytes c.args.out.now) (digits_whole (compact_held c.args.formatter.now) (options_held c.args.formatter.now) c.args.value.now _ (c.can_show.ensures.0 can) c.in_ok-exponent.ensures.value) _ _ c.in_ok-exponent.ensures.text)
    c.write_tab_and_value_shown.ensures.text

pub returns-clause-room : goal.returns-clause-room
returns-clause-room c = λ room never.
    let can : c.can_show.result ≡ true = search rules in
    c.write_tab_and_value_shown.ensures.room
    (second_fits _ _ _ (string_bytes c.args.out.now) (digits_whole (compact_held c.args.formatter.now) (options_held c.args.formatter.now) c.args.value.now _ (c.can_show.ensures.0 can) c.in_ok-exponent.ensures.value) _ (string_capacity c.args.out.now) _ c.in_ok-exponent.ensures.text c.in_ok-exponent.ensures.capacity room)

pub returns-clause-err : goal.returns-clause-err
returns-clause-err c =
    on_err_by c.write_tab_and_value_shown.result
    (grows_after (string_bytes c.args.out.now) (string_bytes c.write_ok_and_digits.new.out) (string_bytes c.write_tab_and_value_shown.new.out) (written (format_text (digits_format c.args.formatter.now) c.args.value.now)) c.in_ok-exponent.ensures.text)
    c.write_tab_and_value_shown.ensures.err
