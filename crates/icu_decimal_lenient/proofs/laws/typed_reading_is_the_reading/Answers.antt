use Rattle.icu_decimal_lenient.proofs.TypedLemmas.{typed_is_number, typed_is_unreadable, typed_misses}
use Rattle.icu_decimal_lenient.proofs.laws.typed_reading_is_the_reading.Goals as goal

pub returns-clause-decimal : goal.returns-clause-decimal
returns-clause-decimal c = typed_is_number

pub returns-clause-none : goal.returns-clause-none
returns-clause-none c = typed_misses

pub returns-clause-unreadable : goal.returns-clause-unreadable
returns-clause-unreadable c = typed_is_unreadable
