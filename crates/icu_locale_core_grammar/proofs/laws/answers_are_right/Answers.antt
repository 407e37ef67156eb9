use Rattle.icu_locale_core_grammar.proofs.AnswerLemmas.{answer_right}
use Rattle.icu_locale_core_grammar.proofs.laws.answers_are_right.Goals as goal

pub returns : goal.returns
returns c = answer_right
