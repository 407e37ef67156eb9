use Rattle.icu_dimension_words.proofs.LenientWordLemmas.{lenient_words_miss, word_ways_agree}
use Rattle.icu_dimension_words.proofs.NativeWordLemmas.{lenient_words_are_typed}
use Rattle.icu_dimension_words.proofs.lenient_laws.lenient_reading_agrees.Goals as goal

pub returns-clause-typed : goal.returns-clause-typed
returns-clause-typed c = lenient_words_are_typed

pub returns-clause-agree : goal.returns-clause-agree
returns-clause-agree c = word_ways_agree

pub returns-clause-misses : goal.returns-clause-misses
returns-clause-misses c = lenient_words_miss
