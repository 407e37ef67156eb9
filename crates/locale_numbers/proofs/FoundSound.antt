-- What is found in a book whose tables are sound is sound: `specs/PrintedLaws.antt`.
use Rattle.std.proofs.Common.{◌≡◌, Ok}
use Rattle.icu_decimal.specs.CompactTables.{CompactTables}
use Rattle.icu_decimal.specs.FoundCompactTables.{patterns_identifiers}
use Rattle.icu_decimal.specs.Identifiers.{Identifier}
use Rattle.icu_decimal.specs.KeptEntries.{CompactTable}
use Rattle.icu_decimal.specs.declared.error.DataError.{DataError}
use Rattle.locale_numbers_book.specs.Book.{BookTables}
use Rattle.locale_numbers_book.specs.Keys.{same_key, table_at}
use Rattle.locale_numbers_book.specs.Laws.{AreSoundTables, BookTablesAreSound, IsSoundTable}
use Rattle.locale_numbers_book.specs.Tables.{chain_in}
use Rattle.locale_numbers_book.specs.TagFormatters.{patterns_under}
use Rattle.locale_numbers.specs.PrintedLaws.{FoundTablesAreSound}
use Rattle.locale_numbers_formats.specs.declared.CompactWidth.{CompactWidth}
use Rattle.locale_numbers_formats.specs.declared.CompactWidth.TheVariants.{Short, Long}
use Rattle.locale_numbers.proofs.FoundCompactLemmas.{patterns_of_found}
use Rattle.locale_numbers_book.proofs.ReadTables.{first_holds, is_there, under_holds}

table_is_sound : (length : CompactWidth) (book : BookTables) (id : Identifier) (table : CompactTable) → AreSoundTables book.short → AreSoundTables book.long → patterns_under length book id ≡ Ok table → IsSoundTable table
table_is_sound Short book id table short long is = under_holds IsSoundTable same_key id book.short table short (is_there (table_at same_key id book.short) table is)
table_is_sound Long book id table short long is = under_holds IsSoundTable same_key id book.long table long (is_there (table_at same_key id book.long) table is)

pub found_tables_are_sound : BookTablesAreSound → FoundTablesAreSound
found_tables_are_sound sound value book length preferences grouping tables is found =
    let all = sound value book is in
    first_holds IsSoundTable (patterns_under length book) (λ id table e. table_is_sound length book id table all.0 all.1 e) DataError.InvalidRequest (patterns_identifiers (chain_in book) preferences) tables.patterns
    (patterns_of_found length book preferences grouping tables found)

-- ---- what is found, by the formatter that was made

-- tables whose patterns are sound
abbrev pub HaveSoundPatterns : CompactTables → Type 0
HaveSoundPatterns tables = IsSoundTable tables.patterns
