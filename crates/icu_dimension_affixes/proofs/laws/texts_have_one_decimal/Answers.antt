use Rattle.icu_dimension_affixes.proofs.UnitReadingLemmas.{readers_read_what_is_written, unit_texts_have_one_decimal}
use Rattle.icu_dimension_affixes.proofs.laws.texts_have_one_decimal.Goals as goal

pub returns : goal.returns
returns c = record { one = unit_texts_have_one_decimal; written = readers_read_what_is_written }
