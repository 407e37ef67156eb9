use Rattle.locale_numbers_book.proofs.SoundLemmas.{tables_sound}
use Rattle.locale_numbers_book.proofs.laws.tables_are_sound.Goals as goal

pub returns : goal.returns
returns c = tables_sound
