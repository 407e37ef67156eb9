use Rattle.locale_numbers.proofs.SelectionLemmas.{selected_alike}
use Rattle.locale_numbers.proofs.laws.selected_books_answer_alike.Goals as goal

pub returns : goal.returns
returns c = selected_alike
