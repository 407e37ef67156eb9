-- Which table of units is taken: each key along all locales, and then the next key; the digits of a currency under `und` alone.
-- Defined in docs/units.md, "Choosing units".
-- Cited by the loading of each table, and by what formatters find.
use Rattle.std.specs.Prelude.{ℕ, ◌==◌, cond, List, [], ◌∷◌, ◌++◌, Option, None, Result, Ok}
use Rattle.icu_locale_core.specs.Subtags.{Text}
use Rattle.icu_locale_core.specs.TagPreferences.{DataLocaleMeaning}
use Rattle.icu_locale_core.specs.DataLocales.{unknown_data}
use Rattle.icu_decimal.specs.Chains.{chain}
use Rattle.icu_decimal.specs.Choice.{first_found, or_next}
use Rattle.icu_decimal.specs.Identifiers.{Identifier, identifiers_along, of_system, under_each}
use Rattle.icu_decimal.specs.declared.error.DataError.{DataError}
use Rattle.icu_dimension_fractions.specs.declared.fraction.FractionInfo.{FractionInfo}
use Rattle.icu_dimension.specs.ProvidedUnits.{AmountTexts, PercentTexts, SymbolText, usual_fractions, written_as}
use Rattle.icu_dimension_fractions.specs.declared.CurrencyStyle.{CurrencyStyle}
use Rattle.icu_dimension_fractions.specs.declared.CurrencyStyle.TheVariants.{Standard, Accounting}
use Rattle.icu_dimension_fractions.specs.declared.CurrencyWidth.{CurrencyWidth}
use Rattle.icu_dimension_fractions.specs.declared.CurrencyWidth.TheVariants.{Short, IsoCode}

-- ---- along the locales

-- `und`, where there are parents
abbrev pub unknown_last : ℕ → List DataLocaleMeaning
unknown_last limit = cond (limit == 0) [] (unknown_data ∷ [])

-- the chain of a locale, and after it `und`
abbrev pub unit_chain : (DataLocaleMeaning → Option DataLocaleMeaning) → ℕ → DataLocaleMeaning → List DataLocaleMeaning
unit_chain next limit locale = chain next limit locale ++ unknown_last limit

-- ---- what is taken

-- percents: under the system asked for, where one is, and then under none
abbrev pub percent_found : (Identifier → Result PercentTexts DataError) → List DataLocaleMeaning → Option Text → Result PercentTexts DataError
percent_found percents locales system = first_found percents (identifiers_along system locales)

-- amounts in a currency without an entry of its own: as percents, in accounting of accounts and then of currencies
abbrev pub usual_amounts : CurrencyStyle → (Identifier → Result AmountTexts DataError) → (Identifier → Result AmountTexts DataError) → List DataLocaleMeaning → Option Text → Result AmountTexts DataError
usual_amounts Standard currencies accounts locales system = first_found currencies (identifiers_along system locales)
usual_amounts Accounting currencies accounts locales system =
    or_next (first_found accounts (identifiers_along system locales)) (first_found currencies (identifiers_along system locales))

-- amounts: of currencies under the code, and then the usual ones
abbrev pub amounts_found : CurrencyStyle → (Identifier → Result AmountTexts DataError) → (Identifier → Result AmountTexts DataError) → List DataLocaleMeaning → Option Text → Text → Result AmountTexts DataError
amounts_found style currencies accounts locales system code =
    or_next (first_found currencies (under_each code locales)) (usual_amounts style currencies accounts locales system)

-- what is answered, or this where nothing is there
abbrev pub or_usual : {T : Type 0} → Result T DataError → T → Result T DataError
or_usual answer usual = or_next answer (Ok usual)

-- the symbol: that of the code, else the code itself
abbrev pub name_found : CurrencyWidth → (Identifier → Result SymbolText DataError) → List DataLocaleMeaning → Text → Result SymbolText DataError
name_found Short symbols locales code = or_usual (first_found symbols (under_each code locales)) (written_as None code)
name_found IsoCode symbols locales code = Ok (written_as None code)

-- the digits: those of the code, else two
abbrev pub fractions_found : (Identifier → Result FractionInfo DataError) → Text → Result FractionInfo DataError
fractions_found fractions code = or_usual (fractions (of_system code)) usual_fractions
