use Rattle.icu_decimal_lenient.proofs.TypedLemmas.{both_are_numbers, typed_both_miss}
use Rattle.icu_decimal_lenient.proofs.laws.typed_by_both_is_the_reading.Goals as goal

pub returns-clause-decimal : goal.returns-clause-decimal
returns-clause-decimal c = both_are_numbers

pub returns-clause-none : goal.returns-clause-none
returns-clause-none c = typed_both_miss
