-- Which table of compact amounts is taken: that of the system asked for along all locales, and then that of none.
-- Defined in docs/units.md, "Choosing units".
-- Cited by `load_compact_amounts`.
use Rattle.std.specs.Prelude.{List, Option, Result}
use Rattle.icu_decimal.specs.Choice.{first_found}
use Rattle.icu_decimal.specs.Identifiers.{Identifier, identifiers_along}
use Rattle.icu_decimal.specs.declared.error.DataError.{DataError}
use Rattle.icu_locale_core.specs.Subtags.{Text}
use Rattle.icu_locale_core.specs.TagPreferences.{DataLocaleMeaning}
use Rattle.icu_dimension_compact.specs.AmountTables.{AmountTable}

abbrev pub amounts_found : (Identifier → Result AmountTable DataError) → List DataLocaleMeaning → Option Text → Result AmountTable DataError
amounts_found amounts locales system = first_found amounts (identifiers_along system locales)
