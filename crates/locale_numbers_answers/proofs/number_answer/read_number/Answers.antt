use Rattle.locale_numbers_answers.proofs.AnswerLineLemmas.{on_ok_by}
use Rattle.locale_numbers_answers.proofs.NumberReadingLemmas.{signed_number, signed_beyond, signed_nothing}
use Rattle.locale_numbers_answers.proofs.TextLemmas.{beyond_is_text, number_is_text}
use Rattle.locale_numbers_answers.proofs.number_answer.read_number.Goals as goal

pub returns-clause-value : goal.returns-clause-value
returns-clause-value c = on_ok_by c.assign_from_utf8.result (signed_number c.args.text.now _) c.assign_from_utf8.ensures.value

pub returns-clause-limit : goal.returns-clause-limit
returns-clause-limit c = λ limit. signed_beyond c.args.text.now (c.assign_from_utf8.ensures.limit limit)

pub returns-clause-syntax : goal.returns-clause-syntax
returns-clause-syntax c = λ syntax. signed_nothing c.args.text.now (c.assign_from_utf8.ensures.syntax syntax)

pub returns-clause-text : goal.returns-clause-text
returns-clause-text c = on_ok_by c.assign_from_utf8.result (λ reads. number_is_text c.args.text.now _ (signed_number c.args.text.now _ reads)) c.assign_from_utf8.ensures.value

pub returns-clause-limit_text : goal.returns-clause-limit_text
returns-clause-limit_text c = λ limit. beyond_is_text c.args.text.now (signed_beyond c.args.text.now (c.assign_from_utf8.ensures.limit limit))
