-- Which tables a compact formatter has: those of a plain one, then the plural rules of the locale, then the patterns that preferences ask for.
-- Defined in docs/compact-text.md, "Compact formatters", and docs/formatters.md, "Choosing tables".
-- Cited by the two makers of `CompactDecimalFormatter`.
use Rattle.std.specs.Prelude.{ℕ, List, Option, None, Result, Ok, Err}
use Rattle.icu_locale_core.specs.TagPreferences.{DataLocaleMeaning, Preferences, language_priority}
use Rattle.icu_decimal_patterns.specs.KeptEntries.{CompactTable}
use Rattle.icu_decimal_plurals.specs.Rules.{Rules}
use Rattle.icu_decimal_symbols.specs.declared.error.DataError.{DataError}
use Rattle.icu_decimal_symbols.specs.declared.options.GroupingStrategy.{GroupingStrategy}
use Rattle.icu_decimal.specs.Choice.{first_found}
use Rattle.icu_decimal.specs.Identifiers.{Identifier, identifiers_along, symbols_identifiers}
use Rattle.icu_decimal_symbols.specs.Symbols.{Symbols}
use Rattle.icu_decimal.specs.FoundTables.{found_tables}
use Rattle.icu_decimal_plain.specs.PlainText.{Tables}
use Rattle.icu_decimal.specs.CompactTables.{CompactTables}

-- plural rules are under locales alone
abbrev pub rules_identifiers : (DataLocaleMeaning → List DataLocaleMeaning) → Preferences → List Identifier
rules_identifiers chain p = identifiers_along None (chain (language_priority p.locale))

-- patterns are where symbols do
abbrev pub patterns_identifiers : (DataLocaleMeaning → List DataLocaleMeaning) → Preferences → List Identifier
patterns_identifiers chain p = symbols_identifiers chain p

-- these tables and rules, with the patterns that are answered, or the error
abbrev pub with_patterns : Tables → Rules → Result CompactTable DataError → Result CompactTables DataError
with_patterns plain rules (Ok patterns) = Ok (record { plain = plain; rules = rules; patterns = patterns })
with_patterns plain rules (Err error) = Err error

-- these tables, with the rules that are answered and the patterns, or the first error
abbrev pub with_rules : Tables → Result Rules DataError → Result CompactTable DataError → Result CompactTables DataError
with_rules plain (Ok rules) patterns = with_patterns plain rules patterns
with_rules plain (Err error) patterns = Err error

-- the tables that are answered, with the rules and the patterns, or the first error
abbrev pub with_plain : Result Tables DataError → Result Rules DataError → Result CompactTable DataError → Result CompactTables DataError
with_plain (Ok plain) rules patterns = with_rules plain rules patterns
with_plain (Err error) rules patterns = Err error

-- the tables of preferences and options, along a chain of locales, of providers of symbols, of digits, of rules and of patterns
abbrev pub found_compact_tables : (DataLocaleMeaning → List DataLocaleMeaning) → (Identifier → Result Symbols DataError) → (Identifier → Result (List ℕ) DataError) → (Identifier → Result Rules DataError) → (Identifier → Result CompactTable DataError) → Preferences → Option GroupingStrategy → Result CompactTables DataError
found_compact_tables chain symbols digits rules patterns p option =
    with_plain (found_tables chain symbols digits p option) (first_found rules (rules_identifiers chain p)) (first_found patterns (patterns_identifiers chain p))
