-- Rows of docs/books.md, "Formatters of a tag": what is around digits in the format that a shape finds in the sample book with units, and what
-- is before exponents where it has signs too.
use Rattle.std.proofs.Common.{◌≡◌, ℕ, List, [], ◌∷◌, ◌++◌, Option, None, Some, codes, Result, Ok, Err, refl}
use Rattle.fixed_decimal.specs.declared.Sign.{Sign}
use Rattle.fixed_decimal.specs.declared.Sign.TheVariants.{None as NoSign, Negative}
use Rattle.icu_decimal.specs.Identifiers.{of_both, of_locale}
use Rattle.icu_decimal.specs.declared.error.DataError.{DataError}
use Rattle.icu_decimal.specs.declared.options.GroupingStrategy.{GroupingStrategy}
use Rattle.icu_decimal.specs.declared.options.GroupingStrategy.TheVariants.{Auto, Never}
use Rattle.icu_dimension.specs.declared.CurrencyStyle.{CurrencyStyle}
use Rattle.icu_dimension.specs.declared.CurrencyStyle.TheVariants as style
use Rattle.icu_dimension.specs.declared.CurrencyWidth.TheVariants as width
use Rattle.icu_dimension.specs.declared.PercentSign.TheVariants as sign
use Rattle.icu_locale_core.specs.DataLocales.{unknown_data}
use Rattle.icu_locale_core.specs.TagPreferences.{Preferences}
use Rattle.locale_numbers_book.specs.Book.{BookTables}
use Rattle.locale_numbers_book.specs.FoundFormats.{found_for, in_latin, mapped}
use Rattle.locale_numbers_book.specs.SampleBook.{sample_tables}
use Rattle.locale_numbers_book.specs.SampleUnitsBook.{euro, german, sample_units_tables, space}
use Rattle.locale_numbers_formats.specs.declared.CompactWidth.TheVariants as patterns
use Rattle.locale_numbers_formats.specs.declared.Notation.TheVariants.{Standard, Compact, CompactDigits, Scientific}
use Rattle.locale_numbers_formats.specs.declared.NumberOptions.{NumberOptions}
use Rattle.locale_numbers_formats.specs.declared.NumberShape.{NumberShape}
use Rattle.locale_numbers_formats.specs.declared.NumberUnit.{NumberUnit}
use Rattle.locale_numbers_formats.specs.declared.NumberUnit.TheVariants as unit
use Rattle.locale_numbers_formats.specs.declared.ScientificStyle.{ScientificStyle}
use Rattle.locale_numbers_formatter.specs.FormatText.{FormatTables, compact_tables, digits_tables, layers_in, plain_tables, scientific_tables, unit_tables}
use Rattle.locale_numbers_formatter.specs.Layers.{layered}
use Rattle.locale_numbers_signs.specs.NumberSigns.{SignTexts}

abbrev preferring : List ℕ → Option (List ℕ) → Preferences
preferring language region = record {
  locale = record { language = language; script = None; region = region; variant = None; subdivision = None; region_override = None };
  numbering_system = None;
}

abbrev around : NumberShape → Preferences → Sign → List ℕ → Result (List ℕ) DataError
around shape preferences sign digits = mapped (λ f. layered (layers_in f sign None) digits) (found_for shape sample_units_tables preferences)

abbrev of_unit : NumberUnit → NumberShape
of_unit beside = record { notation = Standard; unit = beside; grouping = Auto }

abbrev of_amounts : List ℕ → CurrencyStyle → NumberShape
of_amounts code how = of_unit (unit.Currency (record { code = code; style = how; width = width.Short }))

plain : around (of_unit unit.None) (preferring (codes "de") None) Negative (codes "1.234,5") ≡ Ok (codes "-1.234,5")
plain = refl

german_percents : around (of_unit (unit.Percent sign.Percent)) (preferring (codes "de") (Some (codes "AT"))) NoSign (codes "0,5") ≡ Ok (codes "0,5" ++ space ++ codes "%")
german_percents = refl

turkish_percents : around (of_unit (unit.Percent sign.Percent)) (preferring (codes "tr") None) Negative (codes "12,5") ≡ Ok (codes "-%12,5")
turkish_percents = refl

francs : around (of_amounts (codes "CHF") style.Standard) (preferring (codes "de") (Some (codes "CH"))) Negative (codes "5.00") ≡ Ok (codes "CHF-5.00")
francs = refl

accounted_euros : around (of_amounts (codes "EUR") style.Accounting) (preferring (codes "en") None) Negative (codes "5.00") ≡ Ok (codes "(" ++ euro ++ codes "5.00)")
accounted_euros = refl

no_locale : around (of_unit (unit.Percent sign.Percent)) (preferring (codes "fr") None) NoSign (codes "1") ≡ Err DataError.IdentifierNotFound
no_locale = refl

-- no patterns have a unit
short_percents : (preferences : Preferences) → around (record { notation = Compact patterns.Short; unit = unit.Percent sign.Percent; grouping = Auto }) preferences NoSign (codes "1K") ≡ Err DataError.IdentifierNotFound
short_percents preferences = refl

short_percents_with_digits : (preferences : Preferences) (options : NumberOptions)
    → around (record { notation = CompactDigits patterns.Short options; unit = unit.Percent sign.Percent; grouping = Auto }) preferences NoSign (codes "1.00K") ≡ Err DataError.IdentifierNotFound
short_percents_with_digits preferences options = refl

-- the digits of compact and of scientific numbers go by the options of the shape
abbrev options_in : FormatTables → Option NumberOptions
options_in (plain_tables t) = None
options_in (compact_tables t) = None
options_in (digits_tables t options) = Some options
options_in (unit_tables u) = None
options_in (scientific_tables s) = Some s.options

short_with_digits : (options : NumberOptions)
    → mapped options_in (found_for (record { notation = CompactDigits patterns.Short options; unit = unit.None; grouping = Auto }) sample_tables (preferring (codes "en") None)) ≡ Ok (Some options)
short_with_digits options = refl

-- ---- scientific numbers

abbrev signs_with : List ℕ → SignTexts
signs_with exponent = record {
  exponent = exponent;
  multiplication = codes "x";
  permille = codes "o/oo";
  about = codes "~";
  range = record { before = []; between = codes "-"; after = [] };
  at_least = record { before = []; after = codes "+" };
  at_most = record { before = codes "<="; after = [] };
}

-- the sample book, and beside it signs of German, of all others, and of all with the digits of `arab`
abbrev signed_tables : BookTables
signed_tables = record sample_units_tables {
  signs = (of_locale german, signs_with (codes "E")) ∷ (of_locale unknown_data, signs_with (codes "e")) ∷ (of_both (codes "arab") unknown_data, signs_with (codes "^")) ∷ [];
}

abbrev scientific : ScientificStyle → NumberOptions → NumberUnit → GroupingStrategy → NumberShape
scientific exponents options beside grouping = record { notation = Scientific exponents options; unit = beside; grouping = grouping }

-- the text before exponents, and the strategies of both tables
abbrev separator_in : FormatTables → Option (List ℕ)
separator_in (plain_tables t) = None
separator_in (compact_tables t) = None
separator_in (digits_tables t options) = None
separator_in (unit_tables u) = None
separator_in (scientific_tables s) = Some s.settings.separator

abbrev strategies_in : FormatTables → List GroupingStrategy
strategies_in (plain_tables t) = []
strategies_in (compact_tables t) = []
strategies_in (digits_tables t options) = []
strategies_in (unit_tables u) = []
strategies_in (scientific_tables s) = s.settings.tables.strategy ∷ s.settings.exponents.strategy ∷ []

module _ (exponents : ScientificStyle) (options : NumberOptions) where
  abbrev separator : NumberUnit → BookTables → Preferences → Result (Option (List ℕ)) DataError
  separator beside book preferences = mapped separator_in (found_for (scientific exponents options beside Auto) book preferences)

  austrian_exponents : separator unit.None signed_tables (preferring (codes "de") (Some (codes "AT"))) ≡ Ok (Some (codes "E"))
  austrian_exponents = refl

  -- signs are looked for under `und` too, and with a system before any without it
  turkish_exponents : separator unit.None signed_tables (preferring (codes "tr") None) ≡ Ok (Some (codes "e"))
  turkish_exponents = refl

  german_exponents_with_arab : separator unit.None signed_tables (record (preferring (codes "de") None) { numbering_system = Some (codes "arab") }) ≡ Ok (Some (codes "^"))
  german_exponents_with_arab = refl

  german_exponents_with_thai : separator unit.None signed_tables (record (preferring (codes "de") None) { numbering_system = Some (codes "thai") }) ≡ Ok (Some (codes "E"))
  german_exponents_with_thai = refl

  scientific_by_options : mapped options_in (found_for (scientific exponents options unit.None Auto) signed_tables (preferring (codes "de") None)) ≡ Ok (Some options)
  scientific_by_options = refl

  -- significands have groups, and exponents have none
  groups : mapped strategies_in (found_for (scientific exponents options unit.None Auto) signed_tables (preferring (codes "de") None)) ≡ Ok (Auto ∷ Never ∷ [])
  groups = refl

  negative : mapped (λ f. layered (layers_in f Negative None) (codes "1,2E6")) (found_for (scientific exponents options unit.None Auto) signed_tables (preferring (codes "de") None)) ≡ Ok (codes "-1,2E6")
  negative = refl

  -- without symbols, without signs, and with a unit nothing is found
  no_symbols : separator unit.None signed_tables (preferring (codes "fr") None) ≡ Err DataError.IdentifierNotFound
  no_symbols = refl

  no_signs : separator unit.None sample_units_tables (preferring (codes "de") None) ≡ Err DataError.IdentifierNotFound
  no_signs = refl

  scientific_percents : separator (unit.Percent sign.Percent) signed_tables (preferring (codes "de") None) ≡ Err DataError.IdentifierNotFound
  scientific_percents = refl

latin : in_latin (record { locale = (preferring (codes "ar") (Some (codes "EG"))).locale; numbering_system = Some (codes "arab") })
    ≡ record { locale = (preferring (codes "ar") (Some (codes "EG"))).locale; numbering_system = Some (codes "latn") }
latin = refl
