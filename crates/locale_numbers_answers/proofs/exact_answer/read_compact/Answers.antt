use Rattle.locale_numbers_answers.proofs.CompactReadingLemmas.{compact_value, reads_compact_beyond, reads_compact_nothing}
use Rattle.locale_numbers_answers.proofs.exact_answer.read_compact.Goals as goal

pub returns-clause-value : goal.returns-clause-value
returns-clause-value c = compact_value c.args.text.now c.try_from_str.result c.try_from_str.ensures.value

pub returns-clause-limit : goal.returns-clause-limit
returns-clause-limit c = λ limit. reads_compact_beyond c.args.text.now (c.try_from_str.ensures.limit limit)

pub returns-clause-syntax : goal.returns-clause-syntax
returns-clause-syntax c = λ syntax. reads_compact_nothing c.args.text.now (c.try_from_str.ensures.syntax syntax)
