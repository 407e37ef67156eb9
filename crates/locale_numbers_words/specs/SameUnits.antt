-- When the words of two units are the same: `specs/Entries.antt`.
-- Defined in docs/words.md, "Tables of words".
-- Cited by `==` of `UnitWords`.
use Rattle.std.specs.Cmp.{IsEquivalence, and_equiv, on_equiv}
use Rattle.std.specs.Cmp.Lexicographic.{options_equiv}
use Rattle.locale_numbers_words.specs.Entries.{same_unit}
use Rattle.locale_numbers_words.specs.SameValues.{same_values_equiv}
use Rattle.locale_numbers_words.specs.SlotTexts.{same_pair_equiv, same_word, same_word_equiv}

pub same_unit_equiv : IsEquivalence same_unit
same_unit_equiv =
    and_equiv (on_equiv (λ u. u.words) (same_values_equiv same_word same_word_equiv)) (on_equiv (λ u. u.behind) (options_equiv same_pair_equiv))
