use Rattle.std.proofs.Common.{[], ◌∷◌, ◌++◌, codes, arith}
use Rattle.std.specs.Prelude.{string_bytes, string_capacity}
use Rattle.writeable.specs.Taking.{on_err_by}
use Rattle.locale_numbers_requests.specs.Request.{tab}
use Rattle.locale_numbers_answers.proofs.ValueLemmas.{grows_after}
use Rattle.locale_numbers_answers.proofs.AnswerLineLemmas.{answer_fits, answer_put, on_ok_by}
use Rattle.locale_numbers_answers.proofs.compact_answer.write_ok_and_number_shown.Goals as goal

pub returns-clause-text : goal.returns-clause-text
returns-clause-text c =
    on_ok_by c.write_number_shown.result
    (answer_put _ (string_bytes c.args.out.now) _ _ c.in_ok-push_str.ensures.bytes)
    c.write_number_shown.ensures.text

pub returns-clause-room : goal.returns-clause-room
returns-clause-room c = λ room.
    c.write_number_shown.ensures.room
    (answer_fits _ (string_bytes c.args.out.now) _ (string_capacity c.args.out.now) _ c.in_ok-push_str.ensures.bytes c.in_ok-push_str.ensures.capacity room)

pub returns-clause-capacity : goal.returns-clause-capacity
returns-clause-capacity c = on_ok_by c.write_number_shown.result (λ more. omega (arith, more, c.in_ok-push_str.ensures.capacity)) c.write_number_shown.ensures.capacity

pub returns-clause-err : goal.returns-clause-err
returns-clause-err c =
    on_err_by c.write_number_shown.result
    (grows_after (string_bytes c.args.out.now) (string_bytes c.push_str.new.self) (string_bytes c.write_number_shown.new.out) (codes "ok" ++ tab ∷ []) c.in_ok-push_str.ensures.bytes)
    c.write_number_shown.ensures.err
