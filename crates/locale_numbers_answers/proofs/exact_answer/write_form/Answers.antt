use Rattle.std.proofs.Common.{ap, ◌∙◌, ◌++◌, ◌+◌, ◌≤◌, length, subst, sym}
use Rattle.std.specs.Prelude.{string_bytes, string_capacity}
use Rattle.locale_numbers_answers.proofs.AnswerLineLemmas.{on_ok_by}
use Rattle.locale_numbers_answers.proofs.CompactAnswerLemmas.{exact_put}
use Rattle.locale_numbers_answers.proofs.exact_answer.write_form.Goals as goal

pub returns-in-Ok-clause-text : goal.returns-in-Ok-clause-text
returns-in-Ok-clause-text c =
    on_ok_by c.write_ok.result
    (λ put. put ∙ ap (λ answer. string_bytes c.args.out.now ++ answer)
    (exact_put c.format_is_text.ensures.exact c.args.formatter.now c.args.form.now _ (λ beyond. let refused = c.in-Ok.ensures.range.1 beyond in cc) c.in-Ok.ensures.parts))
    c.write_ok.ensures.text

pub returns-in-Ok-clause-room : goal.returns-in-Ok-clause-room
returns-in-Ok-clause-room c = λ room.
    c.write_ok.ensures.room
    (subst (λ answer. length (string_bytes c.args.out.now) + length answer ≤ string_capacity c.args.out.now)
    (sym (exact_put c.format_is_text.ensures.exact c.args.formatter.now c.args.form.now _ (λ beyond. let refused = c.in-Ok.ensures.range.1 beyond in cc) c.in-Ok.ensures.parts)) room)
