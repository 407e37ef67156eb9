use Rattle.icu_decimal.proofs.CompactLawLemmas.{shown_is_compact, significand_is_number}
use Rattle.icu_decimal.proofs.laws.compact.shown_values_are_compact.Goals as goal

pub returns-clause-significand : goal.returns-clause-significand
returns-clause-significand c = significand_is_number

pub returns-clause-compact : goal.returns-clause-compact
returns-clause-compact c = shown_is_compact
