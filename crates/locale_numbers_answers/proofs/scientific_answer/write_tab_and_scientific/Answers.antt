use Rattle.std.proofs.Common.{◌∷◌, refl}
use Rattle.std.specs.Prelude.{string_bytes, string_capacity}
use Rattle.std.proofs.lemmas.Bool.{false≢true}
use Rattle.fixed_decimal.specs.NumberText.{small_mark}
use Rattle.fixed_decimal.specs.SignedText.{signed_text_of}
use Rattle.locale_numbers_requests.specs.Request.{tab}
use Rattle.locale_numbers_answers.proofs.AnswerLineLemmas.{on_ok_by}
use Rattle.locale_numbers_answers.proofs.ValueLemmas.{first_fits, put_after, second_fits}
use Rattle.locale_numbers_answers.proofs.scientific_answer.write_tab_and_scientific.Goals as goal

pub returns-clause-text : goal.returns-clause-text
returns-clause-text c =
    on_ok_by c.write_marked-2.result (put_after _ _ _ (string_bytes c.args.out.now) refl _ _ c.in_ok-write_marked.ensures.text) c.write_marked-2.ensures.text

pub returns-in_err-write_marked-clause-room : goal.returns-in_err-write_marked-clause-room
returns-in_err-write_marked-clause-room c = λ room.
    absurd (false≢true (c.in_err-write_marked.ensures.room
    (first_fits (tab ∷ signed_text_of c.args.significand.now) (small_mark ∷ signed_text_of c.args.exponent.now) _ (string_bytes c.args.out.now) refl (string_capacity c.args.out.now) room)))

pub returns-clause-room : goal.returns-clause-room
returns-clause-room c = λ room.
    c.write_marked-2.ensures.room
    (second_fits _ _ _ (string_bytes c.args.out.now) refl _ (string_capacity c.args.out.now) _ c.in_ok-write_marked.ensures.text c.in_ok-write_marked.ensures.capacity room)
