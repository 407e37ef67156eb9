use Rattle.icu_dimension_words.proofs.NativeWordLemmas.{arabic_is_read, native_is_ascii, only_arabic_differs}
use Rattle.icu_dimension_words.proofs.lenient_laws.native_digits_are_ascii.Goals as goal

pub returns-clause-same : goal.returns-clause-same
returns-clause-same c = native_is_ascii

pub returns-clause-others : goal.returns-clause-others
returns-clause-others c = only_arabic_differs

pub returns-clause-arabic : goal.returns-clause-arabic
returns-clause-arabic c = arabic_is_read
