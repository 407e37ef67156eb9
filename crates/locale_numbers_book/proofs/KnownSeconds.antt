-- Rows of docs/books.md, "Formatters of a tag": the second that typed texts are read with, in a book where amounts have symbols of their own.
use Rattle.std.proofs.Common.{◌≡◌, ℕ, List, [], ◌∷◌, Option, None, Some, option_and_then, option_map, codes, refl}
use Rattle.std.specs.Result.{result_ok}
use Rattle.icu_decimal.specs.Identifiers.{of_locale}
use Rattle.icu_decimal.specs.declared.options.GroupingStrategy.TheVariants.{Auto}
use Rattle.icu_dimension.specs.declared.CurrencyStyle.TheVariants as style
use Rattle.icu_dimension.specs.declared.CurrencyWidth.TheVariants as width
use Rattle.icu_dimension.specs.declared.PercentSign.TheVariants as sign
use Rattle.icu_locale_core.specs.TagPreferences.{DataLocaleMeaning, Preferences}
use Rattle.locale_numbers_book.specs.Book.{BookTables}
use Rattle.locale_numbers_book.specs.FoundFormats.{found_for, second_for}
use Rattle.locale_numbers_book.specs.SampleUnitsBook.{after, alone, before, german, latin_symbols, sample_units, sample_units_tables, space, units_book_symbols}
use Rattle.locale_numbers_formats.specs.declared.Notation.TheVariants.{Standard}
use Rattle.locale_numbers_formats.specs.declared.NumberShape.{NumberShape}
use Rattle.locale_numbers_formats.specs.declared.NumberUnit.{NumberUnit}
use Rattle.locale_numbers_formats.specs.declared.NumberUnit.TheVariants as unit
use Rattle.locale_numbers_formatter.specs.FormatText.{FormatTables, digit_tables}

abbrev austrian : DataLocaleMeaning
austrian = record german { region = Some (codes "AT") }

-- the sample book, and beside it what CLDR has for `de-AT`: a space between groups, and in amounts a point
abbrev book : BookTables
book = record sample_units_tables {
  symbols = (of_locale austrian, latin_symbols (codes "-") (codes "+") (codes ",") space) ∷ units_book_symbols;
  digits = (codes "latn", codes "0123456789") ∷ (codes "thai", 3664 ∷ 3665 ∷ 3666 ∷ 3667 ∷ 3668 ∷ 3669 ∷ 3670 ∷ 3671 ∷ 3672 ∷ 3673 ∷ []) ∷ [];
  units = Some (record sample_units {
    currencies = (
      of_locale austrian,
      record {
        symbols = Some (latin_symbols (codes "-") (codes "+") (codes ",") (codes "."));
        patterns = record { standard = alone (before [] space []); alpha_next_to_number = None };
      },
    ) ∷ (
      of_locale german,
      record {
        symbols = None;
        patterns = record { standard = alone (after [] space []); alpha_next_to_number = None };
      },
    ) ∷ [];
  });
}

abbrev preferring : List ℕ → Option (List ℕ) → Option (List ℕ) → Preferences
preferring language region system = record {
  locale = record { language = language; script = None; region = region; variant = None; subdivision = None; region_override = None };
  numbering_system = system;
}

abbrev of_unit : NumberUnit → NumberShape
of_unit beside = record { notation = Standard; unit = beside; grouping = Auto }

abbrev euros : NumberShape
euros = of_unit (unit.Currency (record { code = codes "EUR"; style = style.Standard; width = width.Short }))

-- the separator between groups of the first, and that of the second beside it
abbrev group_of : FormatTables → List ℕ
group_of f = (digit_tables f).symbols.strings.grouping_separator

abbrev first_group : NumberShape → Preferences → Option (List ℕ)
first_group shape preferences = option_map group_of (result_ok (found_for shape book preferences))

abbrev second_group : NumberShape → Preferences → Option (List ℕ)
second_group shape preferences = option_map group_of (option_and_then (second_for shape book preferences) (result_ok (found_for shape book preferences)))

first_euros : first_group euros (preferring (codes "de") (Some (codes "AT")) None) ≡ Some (codes ".")
first_euros = refl

second_euros : second_group euros (preferring (codes "de") (Some (codes "AT")) None) ≡ Some space
second_euros = refl

-- amounts in German have the symbols of plain numbers, and plain numbers and percents have no second
german_euros : second_group euros (preferring (codes "de") None None) ≡ None
german_euros = refl

plain : second_group (of_unit unit.None) (preferring (codes "de") (Some (codes "AT")) None) ≡ None
plain = refl

percents : second_group (of_unit (unit.Percent sign.Percent)) (preferring (codes "de") (Some (codes "AT")) None) ≡ None
percents = refl

-- in Thai digits the second is the one in those of ASCII, with symbols of its own too
thai_euros : second_group euros (preferring (codes "de") (Some (codes "AT")) (Some (codes "thai"))) ≡ Some (codes ".")
thai_euros = refl

thai_plain : second_group (of_unit unit.None) (preferring (codes "de") (Some (codes "AT")) (Some (codes "thai"))) ≡ Some space
thai_plain = refl
