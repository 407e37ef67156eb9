use Rattle.std.specs.Prelude.{string_bytes, string_capacity}
use Rattle.locale_numbers_answers.proofs.AnswerLineLemmas.{answer_fits, answer_put, on_ok_by}
use Rattle.locale_numbers_answers.proofs.answer_line.write_joined.Goals as goal

pub returns-clause-text : goal.returns-clause-text
returns-clause-text c =
    on_ok_by c.write_between.result
    (answer_put _ (string_bytes c.args.out.now) _ _ c.in_ok-push_str.ensures.bytes)
    c.write_between.ensures.text

pub returns-clause-room : goal.returns-clause-room
returns-clause-room c = λ room.
    c.write_between.ensures.room
    (answer_fits _ (string_bytes c.args.out.now) _ (string_capacity c.args.out.now) _ c.in_ok-push_str.ensures.bytes c.in_ok-push_str.ensures.capacity room)
