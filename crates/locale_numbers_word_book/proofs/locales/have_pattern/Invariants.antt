use Rattle.std.proofs.Common.{◌≡◌, drop}
use Rattle.locale_numbers_words.specs.FoundWords.{patterns_for}
use Rattle.locale_numbers_word_book.proofs.locales.have_pattern.Given as goal

abbrev pub invariant-loop-locale : goal.invariant-loop-locale
invariant-loop-locale l = patterns_for l.words (drop l.locale-index l.locales) ≡ patterns_for l.words l.locales
