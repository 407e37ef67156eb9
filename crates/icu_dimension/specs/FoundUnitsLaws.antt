-- Which preferences find the same units.
-- Defined in docs/units.md, "Laws".
-- Cited by the functions of `laws`.
use Rattle.std.specs.Prelude.{◌≡◌}
use Rattle.icu_locale_core.specs.Subtags.{Text}
use Rattle.icu_locale_core.specs.TagPreferences.{Preferences}
use Rattle.icu_dimension.specs.FoundUnits.{found_currency, found_percent}
use Rattle.icu_dimension.specs.UnitSources.{CurrencySource, PercentSource}
use Rattle.icu_dimension.specs.declared.options.CurrencyFormatterOptions.{CurrencyFormatterOptions}
use Rattle.icu_dimension.specs.declared.options.PercentFormatterOptions.{PercentFormatterOptions}

-- of every provider, and with every option
abbrev pub FindTheSamePercents : Preferences → Preferences → Type 0
FindTheSamePercents p q = (s : PercentSource) (options : PercentFormatterOptions) → found_percent s p options ≡ found_percent s q options

abbrev pub FindTheSameAmounts : Preferences → Preferences → Type 0
FindTheSameAmounts p q = (s : CurrencySource) (code : Text) (options : CurrencyFormatterOptions)
    → found_currency s p code options ≡ found_currency s q code options
