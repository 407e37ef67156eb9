use Rattle.locale_numbers_book.proofs.texts.small_book.put_preferred.Goals as goal

pub returns-in-None : goal.returns-in-None
returns-in-None c = rw c.in-None.is c.put_selected-in-None.ensures
