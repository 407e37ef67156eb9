use Rattle.std.proofs.Common.{◌≡◌, drop}
use Rattle.locale_numbers_words.specs.FoundWords.{patterns_for}
use Rattle.locale_numbers_words.proofs.words.Words.patterns_for.Given as goal

abbrev pub invariant-loop-locale : goal.invariant-loop-locale
invariant-loop-locale l = patterns_for l.self (drop l.locale-index l.locales) ≡ patterns_for l.self l.locales
