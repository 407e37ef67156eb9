use Rattle.locale_numbers_answers.specs.AnswerSinkLaws.{puts_closing}
use Rattle.locale_numbers_answers.proofs.answer_sink.AnswerSinkSink.close_part.Goals as goal

pub returns-clause-ok : goal.returns-clause-ok
returns-clause-ok c = puts_closing c.args.self.now.out
