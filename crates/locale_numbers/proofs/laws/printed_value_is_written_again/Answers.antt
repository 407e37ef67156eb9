use Rattle.locale_numbers.proofs.PrintedLemmas.{printed_is_written_again}
use Rattle.locale_numbers.proofs.laws.printed_value_is_written_again.Goals as goal

pub returns : goal.returns
returns c = printed_is_written_again c.compact_is_layered.ensures.text c.compact_is_layered.ensures.exact c.shown_values_are_compact.ensures.compact c.shown_forms_are_answered.ensures.in_range c.shown_forms_are_answered.ensures.same c.exact_forms_of_shown_values.ensures.kept c.exact_forms_of_shown_values.ensures.flat
