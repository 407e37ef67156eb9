use Rattle.icu_decimal_lenient.specs.Folding.{folded_symbols}
use Rattle.icu_dimension_words.proofs.WordSteps.{AreLeft}
use Rattle.icu_dimension_words.proofs.typed.agree_words.Given as goal

abbrev pub invariant-loop-word : goal.invariant-loop-word
invariant-loop-word l = AreLeft (folded_symbols l.kept) l.words l.text l.fn.found l.found l.word-index
