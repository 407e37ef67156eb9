-- The locale that a book has symbols of for preferences and for a tag: which one of its chain a tag falls back to.
-- Defined in docs/books.md, "The locales of a book".
-- Cited by `Book::found_locale` and the law `symbols_are_of_found_locales`.
use Rattle.std.specs.Prelude.{◌≡◌, Option, Result, Ok}
use Rattle.std.specs.List.{Contains}
use Rattle.icu_decimal.specs.Choice.{first_found}
use Rattle.icu_decimal.specs.Identifiers.{Identifier, of_both, symbols_identifiers}
use Rattle.icu_decimal.specs.PlainText.{Tables}
use Rattle.icu_decimal.specs.Symbols.{Symbols}
use Rattle.icu_decimal.specs.declared.error.DataError.{DataError}
use Rattle.icu_decimal.specs.declared.options.GroupingStrategy.{GroupingStrategy}
use Rattle.icu_locale_core.specs.Subtags.{Text}
use Rattle.icu_locale_core.specs.TagPreferences.{DataLocaleMeaning, Preferences, language_priority}
use Rattle.locale_numbers_book.specs.Book.{BookTables}
use Rattle.locale_numbers_book.specs.FoundFormats.{mapped}
use Rattle.locale_numbers_book.specs.TagFormatters.{found_by, found_plain}
use Rattle.locale_numbers_book.specs.Tables.{chain_in, symbols_under}
use Rattle.locale_numbers_book.specs.Wanted.{wanted_of}
use Rattle.locale_numbers_book.specs.declared.formatter_error.FormatterError.{FormatterError}

-- the locale of an identifier that symbols are under
abbrev pub locale_under : BookTables → Identifier → Result DataLocaleMeaning DataError
locale_under book id = mapped (λ symbols. id.locale) (symbols_under book id)

-- that of the first one that preferences ask for
abbrev pub found_locale : BookTables → Preferences → Result DataLocaleMeaning DataError
found_locale book preferences = first_found (locale_under book) (symbols_identifiers (chain_in book) preferences)

abbrev pub locale_for : BookTables → Text → Result DataLocaleMeaning FormatterError
locale_for book tag = found_by (found_locale book) (wanted_of tag)

-- ---- a law

-- a locale of the chain is found, and these symbols are under it
pub record AreOfFoundLocale (book : BookTables) (preferences : Preferences) (symbols : Symbols) : Type 0 where
  pub locale : DataLocaleMeaning
  pub found : found_locale book preferences ≡ Ok locale
  pub along : Contains (chain_in book (language_priority preferences.locale)) locale
  pub system : Text
  pub under : symbols_under book (of_both system locale) ≡ Ok symbols

abbrev pub SymbolsAreOfFoundLocales : Type 0
SymbolsAreOfFoundLocales = (book : BookTables) (preferences : Preferences) (option : Option GroupingStrategy) (tables : Tables)
    → found_plain book preferences option ≡ Ok tables → AreOfFoundLocale book preferences tables.symbols
