use Rattle.icu_dimension_words.proofs.LenientWordLemmas.{one_way_is_read, words_are_not_unreadable}
use Rattle.icu_dimension_words.proofs.lenient_laws.any_category_is_read.Goals as goal

pub returns-clause-read : goal.returns-clause-read
returns-clause-read c = one_way_is_read

pub returns-clause-readable : goal.returns-clause-readable
returns-clause-readable c = words_are_not_unreadable
