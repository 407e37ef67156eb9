use Rattle.icu_dimension_words.proofs.AgreementLemmas.{one_words_reading, read_words_are_written_again, written_words_read_back}
use Rattle.icu_dimension_words.proofs.laws.both_words_trips.Goals as goal

pub returns : goal.returns
returns c = record { one = one_words_reading; back = written_words_read_back; again = read_words_are_written_again }
