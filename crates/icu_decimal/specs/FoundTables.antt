-- Which tables a formatter has: the symbols that preferences ask for, then the digits, and the strategy of the options.
-- Defined in docs/formatters.md, "Choosing tables" and "Options".
-- Cited by `DecimalFormatter::try_new_unstable`.
use Rattle.std.specs.Prelude.{ℕ, List, Option, Result, Ok, Err}
use Rattle.icu_locale_core.specs.TagPreferences.{DataLocaleMeaning, Preferences}
use Rattle.icu_decimal_symbols.specs.declared.error.DataError.{DataError}
use Rattle.icu_decimal_symbols.specs.declared.options.GroupingStrategy.{GroupingStrategy}
use Rattle.icu_decimal.specs.Choice.{first_found}
use Rattle.icu_decimal.specs.Identifiers.{Identifier, symbols_identifiers, digits_identifiers}
use Rattle.icu_decimal_symbols.specs.Options.{strategy_in}
use Rattle.icu_decimal_symbols.specs.Symbols.{Symbols}
use Rattle.icu_decimal_plain.specs.PlainText.{Tables}

-- these symbols and the digits that are answered, or the error
abbrev pub with_digits : GroupingStrategy → Symbols → Result (List ℕ) DataError → Result Tables DataError
with_digits strategy symbols (Ok digits) = Ok (record { symbols = symbols; digits = digits; strategy = strategy })
with_digits strategy symbols (Err error) = Err error

-- the symbols that are answered and the digits asked for with them, or the first error
abbrev pub with_symbols : GroupingStrategy → (Identifier → Result (List ℕ) DataError) → Preferences → Result Symbols DataError → Result Tables DataError
with_symbols strategy digits p (Ok symbols) =
    with_digits strategy symbols (first_found digits (digits_identifiers p.numbering_system symbols.strings.numsys))
with_symbols strategy digits p (Err error) = Err error

-- the tables of preferences and options, of providers of symbols, along a chain of locales, and of digits
abbrev pub found_tables : (DataLocaleMeaning → List DataLocaleMeaning) → (Identifier → Result Symbols DataError) → (Identifier → Result (List ℕ) DataError) → Preferences → Option GroupingStrategy → Result Tables DataError
found_tables chain symbols digits p option =
    with_symbols (strategy_in option) digits p (first_found symbols (symbols_identifiers chain p))
