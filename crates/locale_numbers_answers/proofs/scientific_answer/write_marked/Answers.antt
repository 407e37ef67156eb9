use Rattle.std.proofs.Common.{◌++◌, ap, arith}
use Rattle.std.specs.Prelude.{string_bytes, string_capacity}
use Rattle.writeable.specs.AnnotatedText.{bytes, text_of}
use Rattle.writeable.specs.Taking.{on_err_by}
use Rattle.writeable.proofs.AnnotatedTextLemmas.{text_of_bytes}
use Rattle.fixed_decimal.specs.SignedText.{signed_text_of}
use Rattle.locale_numbers_answers.proofs.AnswerLineLemmas.{on_ok_by}
use Rattle.locale_numbers_answers.proofs.ValueLemmas.{grows_after, put_after, second_fits}
use Rattle.locale_numbers_answers.proofs.scientific_answer.write_marked.Goals as goal

pub returns-clause-text : goal.returns-clause-text
returns-clause-text c =
    on_ok_by c.write_text_of.result
    (put_after c.args.mark.now (text_of (bytes (signed_text_of c.args.value.now))) (c.args.mark.now ++ signed_text_of c.args.value.now) (string_bytes c.args.out.now)
    (ap (λ text. c.args.mark.now ++ text) (text_of_bytes (signed_text_of c.args.value.now))) _ _ c.in_ok-push_str.ensures.bytes)
    c.write_text_of.ensures.text

pub returns-clause-room : goal.returns-clause-room
returns-clause-room c = λ room.
    c.write_text_of.ensures.room
    (second_fits c.args.mark.now (text_of (bytes (signed_text_of c.args.value.now))) (c.args.mark.now ++ signed_text_of c.args.value.now) (string_bytes c.args.out.now)
    (ap (λ text. c.args.mark.now ++ text) (text_of_bytes (signed_text_of c.args.value.now))) _ (string_capacity c.args.out.now) _ c.in_ok-push_str.ensures.bytes c.in_ok-push_str.ensures.capacity room)

pub returns-clause-capacity : goal.returns-clause-capacity
returns-clause-capacity c = on_ok_by c.write_text_of.result (λ more. omega (arith, more, c.in_ok-push_str.ensures.capacity)) c.write_text_of.ensures.capacity

pub returns-clause-err : goal.returns-clause-err
returns-clause-err c =
    on_err_by c.write_text_of.result
    (grows_after (string_bytes c.args.out.now) (string_bytes c.push_str.new.self) (string_bytes c.write_text_of.new.out) c.args.mark.now c.in_ok-push_str.ensures.bytes)
    c.write_text_of.ensures.err
