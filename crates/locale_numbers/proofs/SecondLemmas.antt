-- What typed texts are read with beside what is found, where what it is made of is the same: `second_for` of `locale_numbers_book`.
use Rattle.std.proofs.Common.{◌≡◌, Option, Result, ap₂, if◌then◌else◌}
use Rattle.std.specs.Prelude.{Some, option_and_then}
use Rattle.std.specs.Result.{result_ok}
use Rattle.std.specs.Str.{bytes_eq}
use Rattle.icu_decimal.specs.Folding.{plain_digits}
use Rattle.icu_decimal.specs.PlainText.{Tables}
use Rattle.icu_decimal.specs.declared.error.DataError.{DataError}
use Rattle.icu_locale_core.specs.TagPreferences.{Preferences}
use Rattle.locale_numbers_book.specs.Book.{BookTables}
use Rattle.locale_numbers_book.specs.FoundFormats.{amounts_by, found_for, in_latin, second_for}
use Rattle.locale_numbers_book.specs.TagFormatters.{found_plain}
use Rattle.locale_numbers_formats.specs.declared.NumberShape.{NumberShape}
use Rattle.locale_numbers_formatter.specs.FormatText.{FormatTables, digit_tables}

-- by the tables of plain numbers, and by what is found for the system `latn`
abbrev second_by : Result Tables DataError → Result FormatTables DataError → FormatTables → Option FormatTables
second_by plain latin f =
    if bytes_eq (digit_tables f).digits plain_digits
    then option_and_then (λ tables. amounts_by tables f) (result_ok plain)
    else result_ok latin

-- where both are the same, so is the second
pub second_same : (small whole : BookTables) (p q : Preferences) (shape : NumberShape) → found_plain small p (Some shape.grouping) ≡ found_plain whole q (Some shape.grouping)
    → found_for shape small (in_latin p) ≡ found_for shape whole (in_latin q) → second_for shape small p ≡ second_for shape whole q
second_same small whole p q shape plain latin = ap₂ second_by plain latin
