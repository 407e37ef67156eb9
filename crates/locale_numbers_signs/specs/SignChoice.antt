-- Which signs are taken: those of the system asked for along all locales, and then those of none.
-- Defined in docs/books.md, "More", and docs/units.md, "Choosing units".
-- Cited by `load_number_signs`.
use Rattle.std.specs.Prelude.{List, Option, Result}
use Rattle.icu_decimal.specs.Choice.{first_found}
use Rattle.icu_decimal.specs.Identifiers.{Identifier, identifiers_along}
use Rattle.icu_decimal.specs.declared.error.DataError.{DataError}
use Rattle.icu_locale_core.specs.Subtags.{Text}
use Rattle.icu_locale_core.specs.TagPreferences.{DataLocaleMeaning}
use Rattle.locale_numbers_signs.specs.NumberSigns.{SignTexts}

abbrev pub signs_found : (Identifier → Result SignTexts DataError) → List DataLocaleMeaning → Option Text → Result SignTexts DataError
signs_found signs locales system = first_found signs (identifiers_along system locales)
