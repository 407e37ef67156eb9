use Rattle.locale_numbers_word_book.proofs.WordTextLemmas.{refused_book, told_shape}
use Rattle.locale_numbers_word_book.proofs.word_book.fault_of_form.Goals as goal

pub returns-in_default : goal.returns-in_default
returns-in_default c = λ before file reads shape.
    told_shape before c.args.text.now file reads shape
    (refused_book c.args.text.now file c.in-Err.fault reads c.in_default.not-Memory c.in-Err.ensures.refused)
