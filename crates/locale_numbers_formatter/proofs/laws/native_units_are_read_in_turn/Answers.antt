use Rattle.locale_numbers_formatter.proofs.LenientUnitLemmas.{in_turn_first, in_turn_in_ascii, in_turn_others}
use Rattle.locale_numbers_formatter.proofs.laws.native_units_are_read_in_turn.Goals as goal

pub returns-clause-same : goal.returns-clause-same
returns-clause-same c = in_turn_first

pub returns-clause-others : goal.returns-clause-others
returns-clause-others c = in_turn_others

pub returns-clause-ascii : goal.returns-clause-ascii
returns-clause-ascii c = in_turn_in_ascii
