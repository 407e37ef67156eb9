use Rattle.icu_decimal_compact_value.proofs.ShownLemmas.{shows_itself}
use Rattle.icu_decimal_compact_value.proofs.laws.showable_numbers_show_themselves.Goals as goal

pub returns : goal.returns
returns c = shows_itself
