use Rattle.std.proofs.Common.{◌≡◌, ◌+◌, ◌≤◌, ◌++◌, length, ap, subst, sym, ◌∙◌}
use Rattle.std.specs.Prelude.{string_bytes, string_capacity}
use Rattle.std.proofs.lemmas.Bool.{false≢true}
use Rattle.writeable.specs.AnnotatedText.{text_of}
use Rattle.icu_decimal.specs.ExactText.{exact_events}
use Rattle.locale_numbers_formatter.specs.FormatText.{format_text}
use Rattle.locale_numbers_formatter.specs.HeldDigits.{compact_held, digits_format, options_held}
use Rattle.locale_numbers_formatter.proofs.CompactDigitsLemmas.{digits_parts}
use Rattle.locale_numbers_answers.specs.AnswerLine.{written}
use Rattle.locale_numbers_answers.proofs.compact_answer.write_ok_and_digits.Goals as goal

pub returns-in_err-write_ok-clause-room : goal.returns-in_err-write_ok-clause-room
returns-in_err-write_ok-clause-room c = λ room never.
    let f = digits_format c.args.formatter.now in
    let text : text_of (exact_events c.format_shown.result) ≡ format_text f c.args.value.now =
    ap text_of (ap exact_events c.format_shown.ensures
    ∙ digits_parts (compact_held c.args.formatter.now) (options_held c.args.formatter.now) c.args.value.now c.show.new.value c.in_ok-under.under.entry c.in_ok-under.ensures.value)
    ∙ c.format_is_text.ensures.number f c.args.value.now in
    absurd (false≢true (c.in_err-write_ok.ensures.room
    (subst (λ shown. length (string_bytes c.args.out.now) + length (written shown) ≤ string_capacity c.args.out.now) (sym text) room)))

pub returns-clause-text : goal.returns-clause-text
returns-clause-text c =
    let f = digits_format c.args.formatter.now in
    let text : text_of (exact_events c.format_shown.result) ≡ format_text f c.args.value.now =
    ap text_of (ap exact_events c.format_shown.ensures
    ∙ digits_parts (compact_held c.args.formatter.now) (options_held c.args.formatter.now) c.args.value.now c.show.new.value c.in_ok-under.under.entry c.in_ok-under.ensures.value)
    ∙ c.format_is_text.ensures.number f c.args.value.now in
    c.in_ok-write_ok.ensures.text ∙ ap (λ shown. string_bytes c.args.out.now ++ written shown) text
