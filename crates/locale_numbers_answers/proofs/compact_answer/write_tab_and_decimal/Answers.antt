use Rattle.std.proofs.Common.{◌∷◌, ◌++◌, map, arith}
use Rattle.std.specs.Prelude.{string_bytes, string_capacity}
use Rattle.std.proofs.lemmas.Bool.{false≢true}
use Rattle.writeable.specs.AnnotatedText.{bytes, text_of}
use Rattle.fixed_decimal.specs.Number.{fraction_digits, whole_digits}
use Rattle.fixed_decimal.specs.NumberText.{after_point, character}
use Rattle.fixed_decimal.specs.SignedText.{sign_text}
use Rattle.locale_numbers_requests.specs.Request.{tab}
use Rattle.locale_numbers_answers.proofs.AnswerLineLemmas.{on_ok_by}
use Rattle.locale_numbers_answers.proofs.ValueLemmas.{first_fits, put_after, second_fits, signed_whole}
use Rattle.locale_numbers_answers.proofs.compact_answer.write_tab_and_decimal.Goals as goal

pub returns-clause-text : goal.returns-clause-text
returns-clause-text c =
    on_ok_by c.write_text_of.result
    (put_after _ _ _ (string_bytes c.args.out.now) (signed_whole _ c.args.value.now c.value.view_is) _ _ c.in_ok-write_tab_and_sign.ensures.text)
    c.write_text_of.ensures.text

pub returns-in_err-write_tab_and_sign-clause-room : goal.returns-in_err-write_tab_and_sign-clause-room
returns-in_err-write_tab_and_sign-clause-room c = λ room.
    absurd (false≢true (c.in_err-write_tab_and_sign.ensures.room
    (first_fits (tab ∷ sign_text c.value.inside.sign) (text_of (bytes (map character (whole_digits c.value.inside.absolute)) ++ bytes (after_point (map character (fraction_digits c.value.inside.absolute))))) _
    (string_bytes c.args.out.now) (signed_whole _ c.args.value.now c.value.view_is) (string_capacity c.args.out.now) room)))

pub returns-clause-room : goal.returns-clause-room
returns-clause-room c = λ room.
    c.write_text_of.ensures.room
    (second_fits _ _ _ (string_bytes c.args.out.now) (signed_whole _ c.args.value.now c.value.view_is) _ (string_capacity c.args.out.now) _ c.in_ok-write_tab_and_sign.ensures.text c.in_ok-write_tab_and_sign.ensures.capacity room)

pub returns-clause-capacity : goal.returns-clause-capacity
returns-clause-capacity c = on_ok_by c.write_text_of.result (λ more. omega (arith, more, c.in_ok-write_tab_and_sign.ensures.capacity)) c.write_text_of.ensures.capacity
