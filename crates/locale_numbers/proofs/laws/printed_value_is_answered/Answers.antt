use Rattle.locale_numbers.proofs.PrintedLemmas.{printed_is_answered}
use Rattle.locale_numbers.proofs.laws.printed_value_is_answered.Goals as goal

pub returns : goal.returns
returns c = printed_is_answered c.compact_is_layered.ensures.exact c.shown_values_are_compact.ensures.compact c.shown_forms_are_answered.ensures.in_range c.shown_forms_are_answered.ensures.answer
