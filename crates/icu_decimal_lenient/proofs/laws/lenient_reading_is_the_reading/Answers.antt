use Rattle.icu_decimal_lenient.proofs.LenientLemmas.{lenient_is_typed, lenient_is_unreadable, lenient_misses}
use Rattle.icu_decimal_lenient.proofs.laws.lenient_reading_is_the_reading.Goals as goal

pub returns-clause-decimal : goal.returns-clause-decimal
returns-clause-decimal c = lenient_is_typed

pub returns-clause-none : goal.returns-clause-none
returns-clause-none c = lenient_misses

pub returns-clause-unreadable : goal.returns-clause-unreadable
returns-clause-unreadable c = lenient_is_unreadable
