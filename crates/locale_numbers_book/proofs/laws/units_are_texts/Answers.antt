use Rattle.locale_numbers_book.proofs.FoundUnitTexts.{amounts_texts, percents_texts}
use Rattle.locale_numbers_book.proofs.laws.units_are_texts.Goals as goal

pub returns : goal.returns
returns c = record { percents = percents_texts; amounts = amounts_texts }
