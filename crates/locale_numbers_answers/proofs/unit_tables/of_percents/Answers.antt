use Rattle.locale_numbers_answers.proofs.UnitFractionsLemmas.{percents_put}
use Rattle.locale_numbers_answers.proofs.unit_tables.of_percents.Goals as goal

pub returns-in-Ok-clause-digits : goal.returns-in-Ok-clause-digits
returns-in-Ok-clause-digits c = percents_put c.with_affixes.result c.with_affixes.ensures.least
