use Rattle.locale_numbers.proofs.SelectionLemmas.{selected_formatters}
use Rattle.locale_numbers.proofs.laws.selected_books_have_the_formatters.Goals as goal

pub returns : goal.returns
returns c = selected_formatters
