-- Which preferences find the same tables.
-- Defined in docs/formatters.md, "Formatters".
-- Cited by `laws::same_tables`.
use Rattle.std.specs.Prelude.{◌≡◌, ℕ, List, Option, Result}
use Rattle.icu_decimal.specs.Identifiers.{Identifier}
use Rattle.icu_locale_core.specs.TagPreferences.{DataLocaleMeaning, Preferences}
use Rattle.icu_decimal_symbols.specs.Symbols.{Symbols}
use Rattle.icu_decimal_symbols.specs.declared.error.DataError.{DataError}
use Rattle.icu_decimal_symbols.specs.declared.options.GroupingStrategy.{GroupingStrategy}
use Rattle.icu_decimal.specs.FoundTables.{found_tables}

-- both find the same tables, of every provider, along every chain and with every option
abbrev pub FindTheSameTables : Preferences → Preferences → Type 0
FindTheSameTables p q = (chain : DataLocaleMeaning → List DataLocaleMeaning) (symbols : Identifier → Result Symbols DataError) (digits : Identifier → Result (List ℕ) DataError) (option : Option GroupingStrategy)
    → found_tables chain symbols digits p option ≡ found_tables chain symbols digits q option
