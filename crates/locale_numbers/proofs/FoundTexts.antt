-- What a request finds in a book, for plain numbers or for a unit, is made of texts: `specs/Laws.antt` and `specs/UnitLaws.antt`.
use Rattle.std.proofs.Common.{◌≡◌, Some, Result, Ok, Err, refl, subst}
use Rattle.icu_decimal.specs.PlainText.{Tables}
use Rattle.icu_decimal.specs.declared.error.DataError.{DataError}
use Rattle.icu_dimension.specs.UnitReading.{AreReaderTexts, reader_texts}
use Rattle.locale_numbers_book.specs.FoundFormats.{amount_options, mapped, percent_options}
use Rattle.locale_numbers_book.specs.Laws.{FoundAmountsAreTexts, FoundPercentsAreTexts}
use Rattle.locale_numbers_book.specs.TagFormatters.{currency_found_in, found_plain, percent_found_in}
use Rattle.locale_numbers_book.proofs.FoundTexts.{plain_texts}
use Rattle.locale_numbers_formats.specs.declared.NumberUnit.TheVariants as unit
use Rattle.locale_numbers_formatter.specs.FormatText.{UnitFormat, plain_tables, unit_tables}
use Rattle.locale_numbers_formatter.specs.HeldFormats.{currency_format, percent_format}
use Rattle.locale_numbers.specs.Laws.{FoundTablesAreTexts}
use Rattle.locale_numbers.specs.UnitLaws.{FoundUnitsAreTexts}

-- tables in a format
pub in_plain : (found : Result Tables DataError) (tables : Tables) → mapped plain_tables found ≡ Ok (plain_tables tables) → found ≡ Ok tables
in_plain (Ok one) tables is = let same : one ≡ tables = cc in let whole : ◌≡◌ {A = Result Tables DataError} (Ok one) (Ok tables) = cc in whole
in_plain (Err error) tables is = absurd (cc)

pub found_tables_are_texts : FoundTablesAreTexts
found_tables_are_texts value book is preferences grouping tables found =
    plain_texts value book is preferences (Some grouping) tables (in_plain (found_plain book preferences (Some grouping)) tables found)

-- the texts of what is found
abbrev HasTexts : UnitFormat → Type 0
HasTexts found = AreReaderTexts (reader_texts found.settings)

units_by : {T : Type 0} (f : T → UnitFormat) (r : Result T DataError) (found : UnitFormat) → ((settings : T) → r ≡ Ok settings → HasTexts (f settings))
    → mapped (λ settings. unit_tables (f settings)) r ≡ Ok (unit_tables found) → HasTexts found
units_by f (Ok settings) found texts is = let one : f settings ≡ found = cc in subst HasTexts one (texts settings refl)
units_by f (Err error) found texts is = absurd (cc)

pub found_units_are_texts : FoundPercentsAreTexts → FoundAmountsAreTexts → FoundUnitsAreTexts
found_units_are_texts percents amounts value book is unit.None preferences grouping found coded same = none (found_plain book preferences (Some grouping)) same
  where
    none : (r : Result Tables DataError) → mapped plain_tables r ≡ Ok (unit_tables found) → HasTexts found
    none (Ok tables) same = absurd (cc)
    none (Err error) same = absurd (cc)
found_units_are_texts percents amounts value book is (unit.Percent sign) preferences grouping found coded same =
    units_by (percent_format sign) (percent_found_in book preferences (percent_options sign grouping)) found
    (λ settings there. percents value book is preferences (percent_options sign grouping) settings there) same
found_units_are_texts percents amounts value book is (unit.Currency currency) preferences grouping found coded same =
    units_by (currency_format currency.code) (currency_found_in book preferences currency.code (amount_options currency grouping)) found
    (λ settings there. amounts value book is preferences currency.code (amount_options currency grouping) settings coded there) same
