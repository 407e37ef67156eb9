use Rattle.serde_json.specs.View.{view}
use Rattle.locale_numbers_word_book.proofs.word_book.add_text.Goals as goal

pub returns-in-Err-add_file-clause-refused : goal.returns-in-Err-add_file-clause-refused
returns-in-Err-add_file-clause-refused c = c.fault_of.ensures c.args.words.now (view c.in-Ok.file) c.in-Ok.ensures.value c.in-Err-add_file.ensures.fault
