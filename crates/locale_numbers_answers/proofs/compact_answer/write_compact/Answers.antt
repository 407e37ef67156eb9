use Rattle.std.proofs.Common.{true, rules, ◌≡◌}
use Rattle.std.specs.Prelude.{string_bytes, string_capacity}
use Rattle.writeable.specs.Taking.{on_err_by}
use Rattle.icu_decimal.specs.CompactText.{compact_decimal_text}
use Rattle.icu_decimal.specs.HeldCompact.{compact_tables_of}
use Rattle.locale_numbers_answers.specs.AnswerLine.{written}
use Rattle.locale_numbers_answers.proofs.AnswerLineLemmas.{on_ok_by}
use Rattle.locale_numbers_answers.proofs.ValueLemmas.{compact_whole, grows_after, put_after, second_fits}
use Rattle.locale_numbers_answers.proofs.compact_answer.write_compact.Goals as goal

pub returns-clause-text : goal.returns-clause-text
returns-clause-text c =
    let can : c.can_format.result ≡ true = search rules in
    on_ok_by c.write_tab_and_value_shown.result
    (put_after _ _ _ (string_bytes c.args.out.now) (compact_whole c.compact_is_layered.ensures.text c.compact_is_layered.ensures.value (compact_tables_of c.args.formatter.now) c.args.value.now _ (c.can_format.ensures.0 can) c.in_ok-exponent.ensures.value) _ _ c.in_ok-exponent.ensures.text)
    c.write_tab_and_value_shown.ensures.text

pub returns-clause-room : goal.returns-clause-room
returns-clause-room c = λ room.
    let can : c.can_format.result ≡ true = search rules in
    c.write_tab_and_value_shown.ensures.room
    (second_fits _ _ _ (string_bytes c.args.out.now) (compact_whole c.compact_is_layered.ensures.text c.compact_is_layered.ensures.value (compact_tables_of c.args.formatter.now) c.args.value.now _ (c.can_format.ensures.0 can) c.in_ok-exponent.ensures.value) _ (string_capacity c.args.out.now) _ c.in_ok-exponent.ensures.text c.in_ok-exponent.ensures.capacity room)

pub returns-clause-err : goal.returns-clause-err
returns-clause-err c =
    on_err_by c.write_tab_and_value_shown.result
    (grows_after (string_bytes c.args.out.now) (string_bytes c.write_ok_and_number_shown.new.out) (string_bytes c.write_tab_and_value_shown.new.out) (written (compact_decimal_text (compact_tables_of c.args.formatter.now) c.args.value.now)) c.in_ok-exponent.ensures.text)
    c.write_tab_and_value_shown.ensures.err
