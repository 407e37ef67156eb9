use Rattle.locale_numbers.proofs.SelectionLemmas.{located_alike}
use Rattle.locale_numbers.proofs.laws.selected_books_find_alike.Goals as goal

pub returns : goal.returns
returns c = located_alike
