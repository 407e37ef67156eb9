use Rattle.locale_numbers_answers.specs.AnswerSinkLaws.{puts_opening}
use Rattle.locale_numbers_answers.proofs.answer_sink.AnswerSinkSink.open_part.Goals as goal

pub returns-clause-ok : goal.returns-clause-ok
returns-clause-ok c = puts_opening c.args.self.now.out _
