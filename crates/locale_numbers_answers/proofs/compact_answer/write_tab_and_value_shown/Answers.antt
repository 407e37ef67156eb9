use Rattle.std.proofs.Common.{◌∷◌, map, refl}
use Rattle.std.specs.Int.Digits.{digits_of}
use Rattle.std.specs.Prelude.{string_bytes, string_capacity}
use Rattle.std.proofs.lemmas.Bool.{false≢true}
use Rattle.fixed_decimal.specs.CompactText.{after_compact_mark}
use Rattle.fixed_decimal.specs.NumberText.{character}
use Rattle.fixed_decimal.specs.SignedText.{signed_text_of}
use Rattle.locale_numbers_requests.specs.Request.{tab}
use Rattle.locale_numbers_answers.proofs.AnswerLineLemmas.{on_ok_by}
use Rattle.locale_numbers_answers.proofs.ValueLemmas.{first_fits, put_after, second_fits}
use Rattle.locale_numbers_answers.proofs.compact_answer.write_tab_and_value_shown.Goals as goal

pub returns-clause-text : goal.returns-clause-text
returns-clause-text c =
    on_ok_by c.write_exponent.result (put_after _ _ _ (string_bytes c.args.out.now) refl _ _ c.in_ok-write_tab_and_decimal.ensures.text) c.write_exponent.ensures.text

pub returns-in_err-write_tab_and_decimal-clause-room : goal.returns-in_err-write_tab_and_decimal-clause-room
returns-in_err-write_tab_and_decimal-clause-room c = λ room.
    absurd (false≢true (c.in_err-write_tab_and_decimal.ensures.room (first_fits (tab ∷ signed_text_of c.args.significand.now) (after_compact_mark (map character (digits_of 10 c.args.exponent))) _ (string_bytes c.args.out.now) refl (string_capacity c.args.out.now) room)))

pub returns-clause-room : goal.returns-clause-room
returns-clause-room c = λ room.
    c.write_exponent.ensures.room
    (second_fits _ _ _ (string_bytes c.args.out.now) refl _ (string_capacity c.args.out.now) _ c.in_ok-write_tab_and_decimal.ensures.text c.in_ok-write_tab_and_decimal.ensures.capacity room)
