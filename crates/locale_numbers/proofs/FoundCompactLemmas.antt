-- The patterns in what preferences find for compact numbers.
use Rattle.std.proofs.Common.{◌≡◌, Some, Result, Ok, Err, ap}
use Rattle.icu_locale_core.specs.TagPreferences.{Preferences}
use Rattle.icu_decimal.specs.declared.error.DataError.{DataError}
use Rattle.icu_decimal.specs.declared.options.GroupingStrategy.{GroupingStrategy}
use Rattle.icu_decimal.specs.Choice.{first_found}
use Rattle.icu_decimal.specs.CompactTables.{CompactTables}
use Rattle.icu_decimal.specs.FoundCompactTables.{patterns_identifiers, rules_identifiers, with_plain}
use Rattle.icu_decimal.specs.FoundTables.{found_tables}
use Rattle.icu_decimal.specs.KeptEntries.{CompactTable}
use Rattle.icu_decimal.specs.PlainText.{Tables}
use Rattle.icu_decimal.specs.Rules.{Rules}
use Rattle.locale_numbers_book.specs.Book.{BookTables}
use Rattle.locale_numbers_book.specs.Tables.{chain_in, digits_under, rules_under, symbols_under}
use Rattle.locale_numbers_book.specs.FoundFormats.{found_for, mapped}
use Rattle.locale_numbers_book.specs.TagFormatters.{found_beside, patterns_under}
use Rattle.locale_numbers_formats.specs.declared.CompactWidth.{CompactWidth}
use Rattle.locale_numbers_formatter.specs.FormatText.{compact_tables}
use Rattle.locale_numbers.specs.AskedFormats.{compact_shape}

patterns_in : (plain : Result Tables DataError) (rules : Result Rules DataError) (patterns : Result CompactTable DataError) (tables : CompactTables) → with_plain plain rules patterns ≡ Ok tables → patterns ≡ Ok tables.patterns
patterns_in (Ok plain) (Ok rules) (Ok patterns) tables is =
    let one : ◌≡◌ {A = CompactTables} (record { plain = plain; rules = rules; patterns = patterns }) tables = cc in
    ap (λ (t : CompactTables). Ok t.patterns) one
patterns_in (Ok plain) (Ok rules) (Err e) tables is = absurd (cc)
patterns_in (Ok plain) (Err e) patterns tables is = absurd (cc)
patterns_in (Err e) rules patterns tables is = absurd (cc)

-- the patterns that preferences find in a book
abbrev pub found_patterns : CompactWidth → BookTables → Preferences → Result CompactTable DataError
found_patterns width book p = first_found (patterns_under width book) (patterns_identifiers (chain_in book) p)

-- tables in a format
pub in_compact : (found : Result CompactTables DataError) (tables : CompactTables) → mapped compact_tables found ≡ Ok (compact_tables tables) → found ≡ Ok tables
in_compact (Ok one) tables is = let same : one ≡ tables = cc in ap (λ (t : CompactTables). Ok t) same
in_compact (Err error) tables is = absurd (cc)

pub patterns_of_found : (width : CompactWidth) (book : BookTables) (p : Preferences) (grouping : GroupingStrategy) (tables : CompactTables)
    → found_for (compact_shape width grouping) book p ≡ Ok (compact_tables tables) → found_patterns width book p ≡ Ok tables.patterns
patterns_of_found width book p grouping tables found =
    patterns_in (found_tables (chain_in book) (symbols_under book) (digits_under book) p (Some grouping)) (first_found (rules_under book) (rules_identifiers (chain_in book) p)) (found_patterns width book p) tables
    (in_compact (found_beside (patterns_under width book) book p (Some grouping)) tables found)
