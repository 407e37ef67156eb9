-- The tables of plain numbers that are found in a book are ten digits and symbols that are texts: `specs/Laws.antt`.
use Rattle.std.proofs.Common.{◌≡◌, ℕ, List, Option, Result, Ok, Err, refl, subst}
use Rattle.icu_decimal.specs.Choice.{first_found}
use Rattle.icu_decimal.specs.FoundTables.{with_digits, with_symbols}
use Rattle.icu_decimal.specs.Identifiers.{Identifier, digits_identifiers, symbols_identifiers}
use Rattle.icu_decimal.specs.Options.{strategy_in}
use Rattle.icu_decimal.specs.PlainText.{Tables}
use Rattle.icu_decimal.specs.ReadingLaws.{AreTables}
use Rattle.icu_decimal.specs.Symbols.{Symbols}
use Rattle.icu_decimal.specs.declared.error.DataError.{DataError}
use Rattle.icu_decimal.specs.declared.options.GroupingStrategy.{GroupingStrategy}
use Rattle.icu_locale_core.specs.TagPreferences.{Preferences}
use Rattle.serde_json.specs.Data.{Data}
use Rattle.locale_numbers_book.specs.Book.{BookTables, IsBook}
use Rattle.locale_numbers_book.specs.TagFormatters.{found_plain}
use Rattle.locale_numbers_book.specs.Tables.{chain_in, digits_under, symbols_under}
use Rattle.locale_numbers_book.proofs.ReadTables.{first_holds}
use Rattle.locale_numbers_book.proofs.TextTables.{tables_texts}

-- these symbols are in the book, and these digits
record SymbolsStand (book : BookTables) (symbols : Symbols) : Type 0 where
  id : Identifier
  is : symbols_under book id ≡ Ok symbols

record DigitsStand (book : BookTables) (digits : List ℕ) : Type 0 where
  id : Identifier
  is : digits_under book id ≡ Ok digits

symbols_found : (book : BookTables) (ids : List Identifier) (symbols : Symbols) → first_found (symbols_under book) ids ≡ Ok symbols → SymbolsStand book symbols
symbols_found book ids symbols found =
    first_holds (SymbolsStand book) (symbols_under book) (λ id v e. record { id = id; is = e }) DataError.InvalidRequest ids symbols found

digits_found : (book : BookTables) (ids : List Identifier) (digits : List ℕ) → first_found (digits_under book) ids ≡ Ok digits → DigitsStand book digits
digits_found book ids digits found =
    first_holds (DigitsStand book) (digits_under book) (λ id v e. record { id = id; is = e }) DataError.InvalidRequest ids digits found

-- what the law of books says of this one
abbrev AreTextsThere : BookTables → GroupingStrategy → Type 0
AreTextsThere book strategy = (symbols : Symbols) (digits : List ℕ) → SymbolsStand book symbols → DigitsStand book digits
    → AreTables (record { symbols = symbols; digits = digits; strategy = strategy })

with_both : (book : BookTables) (strategy : GroupingStrategy) → AreTextsThere book strategy → (symbols : Symbols) (ids : List Identifier) (r : Result (List ℕ) DataError) (tables : Tables)
    → SymbolsStand book symbols → first_found (digits_under book) ids ≡ r → with_digits strategy symbols r ≡ Ok tables → AreTables tables
with_both book strategy texts symbols ids (Ok digits) tables stand found is =
    let one : ◌≡◌ {A = Tables} (record { symbols = symbols; digits = digits; strategy = strategy }) tables = cc in
    subst AreTables one (texts symbols digits stand (digits_found book ids digits found))
with_both book strategy texts symbols ids (Err error) tables stand found is = absurd (cc)

with_first : (book : BookTables) (strategy : GroupingStrategy) → AreTextsThere book strategy → (p : Preferences) (ids : List Identifier) (r : Result Symbols DataError) (tables : Tables)
    → first_found (symbols_under book) ids ≡ r → with_symbols strategy (digits_under book) p r ≡ Ok tables → AreTables tables
with_first book strategy texts p ids (Ok symbols) tables found is =
    with_both book strategy texts symbols (digits_identifiers p.numbering_system symbols.strings.numsys)
    (first_found (digits_under book) (digits_identifiers p.numbering_system symbols.strings.numsys)) tables (symbols_found book ids symbols found) refl is
with_first book strategy texts p ids (Err error) tables found is = absurd (cc)

-- what preferences find in a book
pub plain_texts : (value : Data) (book : BookTables) → IsBook value book → (preferences : Preferences) (option : Option GroupingStrategy) (tables : Tables)
    → found_plain book preferences option ≡ Ok tables → AreTables tables
plain_texts value book is preferences option tables found =
    with_first book (strategy_in option)
    (λ symbols digits first second. tables_texts value book is symbols digits (strategy_in option) first.id second.id first.is second.is)
    preferences (symbols_identifiers (chain_in book) preferences) (first_found (symbols_under book) (symbols_identifiers (chain_in book) preferences)) tables refl found
