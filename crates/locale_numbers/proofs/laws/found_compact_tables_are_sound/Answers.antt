use Rattle.locale_numbers.proofs.FoundSound.{found_tables_are_sound}
use Rattle.locale_numbers.proofs.laws.found_compact_tables_are_sound.Goals as goal

pub returns : goal.returns
returns c = found_tables_are_sound c.tables_are_sound.ensures
