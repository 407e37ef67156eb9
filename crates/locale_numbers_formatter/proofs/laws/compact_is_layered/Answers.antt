use Rattle.locale_numbers_formatter.proofs.ExactFormLemmas.{exact_parts_are, exact_text_is}
use Rattle.locale_numbers_formatter.proofs.LayerLemmas.{compact_parts_are, compact_text_is}
use Rattle.locale_numbers_formatter.proofs.laws.compact_is_layered.Goals as goal

pub returns-clause-text : goal.returns-clause-text
returns-clause-text c = compact_text_is

pub returns-clause-parts : goal.returns-clause-parts
returns-clause-parts c = compact_parts_are c.text_law.ensures.unsigned

pub returns-clause-exact : goal.returns-clause-exact
returns-clause-exact c = exact_text_is

pub returns-clause-exact_parts : goal.returns-clause-exact_parts
returns-clause-exact_parts c = exact_parts_are
