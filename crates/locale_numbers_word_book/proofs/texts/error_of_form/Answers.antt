use Rattle.std.proofs.lemmas.Bool.{false≢true}
use Rattle.locale_numbers_word_book.proofs.BookTextLemmas.{told_form}
use Rattle.locale_numbers_word_book.proofs.texts.error_of_form.Goals as goal

pub returns-else-is_memory : goal.returns-else-is_memory
returns-else-is_memory c = λ refused files.
    told_form c.args.text.now files c.in-Err.fault refused (λ same. false≢true (c.if-is_memory.ensures.1 same)) c.in-Err.ensures.refused
