use Rattle.std.proofs.Common.{map}
use Rattle.locale_numbers_word_book.proofs.texts.from_texts.Goals as goal

pub returns-in-Err-clause-refused : goal.returns-in-Err-clause-refused
returns-in-Err-clause-refused c = c.error_of.ensures c.in-Err.ensures.refused (map (λ text. text.now) c.args.files.now)
