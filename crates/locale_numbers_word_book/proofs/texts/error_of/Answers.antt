use Rattle.locale_numbers_word_book.proofs.texts.error_of.Goals as goal

pub returns-in-Shape : goal.returns-in-Shape
returns-in-Shape c = rw c.in-Shape.is c.error_of_form.ensures
