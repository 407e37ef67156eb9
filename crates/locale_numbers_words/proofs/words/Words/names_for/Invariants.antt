use Rattle.std.proofs.Common.{◌≡◌, drop}
use Rattle.locale_numbers_words.specs.FoundWords.{names_for}
use Rattle.locale_numbers_words.proofs.words.Words.names_for.Given as goal

abbrev pub invariant-loop-locale : goal.invariant-loop-locale
invariant-loop-locale l = names_for l.self l.attributes (drop l.locale-index l.locales) ≡ names_for l.self l.attributes l.locales
