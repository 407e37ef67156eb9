use Rattle.locale_numbers.proofs.FoundTexts.{found_tables_are_texts}
use Rattle.locale_numbers.proofs.laws.found_plain_tables_are_texts.Goals as goal

pub returns : goal.returns
returns c = found_tables_are_texts
