use Rattle.locale_numbers_book.proofs.FoundLocaleLemmas.{of_found_locale}
use Rattle.locale_numbers_book.proofs.laws.symbols_are_of_found_locales.Goals as goal

pub returns : goal.returns
returns c = of_found_locale
