use Rattle.icu_dimension_words.proofs.LenientWordLemmas.{exact_words_are_lenient, written_words_read_leniently}
use Rattle.icu_dimension_words.proofs.lenient_laws.exact_is_lenient.Goals as goal

pub returns-clause-exact : goal.returns-clause-exact
returns-clause-exact c = exact_words_are_lenient

pub returns-clause-written : goal.returns-clause-written
returns-clause-written c = written_words_read_leniently
