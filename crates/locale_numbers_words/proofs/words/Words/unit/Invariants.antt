use Rattle.std.proofs.Common.{◌≡◌, drop}
use Rattle.locale_numbers_words.specs.FoundWords.{unit_for}
use Rattle.locale_numbers_words.proofs.words.Words.unit.Given as goal

abbrev pub invariant-loop-locale : goal.invariant-loop-locale
invariant-loop-locale l = unit_for l.self l.width l.unit (drop l.locale-index l.locales) ≡ unit_for l.self l.width l.unit l.locales
