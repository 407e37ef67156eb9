use Rattle.legumeyet_c.proofs.SmallBookLemmas.{small_formatters}
use Rattle.legumeyet_c.proofs.laws.small_books_have_the_formatters.Goals as goal

pub returns : goal.returns
returns c = small_formatters c.is_one_book.ensures c.selected_books_have_the_formatters.ensures
