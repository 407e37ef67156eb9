use Rattle.locale_numbers_formatter.proofs.ReadBackLemmas.{form_is_written, scientific_back}
use Rattle.locale_numbers_formatter.proofs.laws.scientific_reads_back.Goals as goal

pub returns-clause-back : goal.returns-clause-back
returns-clause-back c = scientific_back c.shown_is_read_back.ensures.any

pub returns-clause-form : goal.returns-clause-form
returns-clause-form c = form_is_written c.decimal_trips.ensures.again
