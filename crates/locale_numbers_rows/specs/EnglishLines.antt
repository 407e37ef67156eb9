-- What a line with the tag `en` asks a book for, where it asks for a number with a unit.
-- Defined in docs/requests.md, "Units" and "Answer line".
-- Cited by `english_book`.
use Rattle.std.specs.Prelude.{◌≡◌, ℕ, List, Some, None, Ok, codes}
use Rattle.icu_locale_core.specs.TagPreferences.{Preferences}
use Rattle.locale_numbers.specs.Book.{BookTables}
use Rattle.locale_numbers.specs.AskedFormats.{grouping_in, shape_with}
use Rattle.locale_numbers.specs.FormatText.{UnitFormat, unit_tables}
use Rattle.locale_numbers.specs.FoundFormats.{found_for}
use Rattle.locale_numbers.specs.Request.{Asked, request_of}
use Rattle.locale_numbers.specs.UnitLaws.{FindsUnit}
use Rattle.locale_numbers.specs.declared.NumberUnit.{NumberUnit}

-- what `en` prefers
abbrev pub english : Preferences
english = record {
  locale = record { language = codes "en"; script = None; region = None; variant = None; subdivision = None; region_override = None };
  numbering_system = None;
}

-- each line with the tag `en` and a unit, of which the book has the tables, is one that the laws of units are about
abbrev pub FindsEnglishUnits : BookTables → Type 0
FindsEnglishUnits book = (line : List ℕ) (asked : Asked) (unit : NumberUnit) (tables : UnitFormat)
    → request_of line ≡ Some asked → asked.tag ≡ codes "en" → asked.format.shape ≡ shape_with unit (grouping_in asked)
    → found_for (shape_with unit (grouping_in asked)) book english ≡ Ok (unit_tables tables) → FindsUnit book asked unit tables
