-- The units of a book: five arrays without a fault, and the tables that they are.
-- Defined in docs/books.md, "Units" and "Faults".
-- Cited by the calls of `Units`.
-- There are five arrays, and the entry and the key of each are imported.
use Rattle.std.specs.Prelude.{◌≡◌, Bool, ◌||◌, List, [], Option, Some, None}
use Rattle.std.specs.Option.{option_or}
use Rattle.std.specs.Str.{bytes_eq}
use Rattle.serde_json.specs.Data.{Items}
use Rattle.icu_locale_core.specs.Subtags.{Text}
use Rattle.icu_decimal.specs.Identifiers.{Identifier}
use Rattle.icu_dimension.specs.ProvidedUnits.{AmountTexts, PercentTexts, SymbolText}
use Rattle.icu_dimension.specs.declared.FractionInfo.{FractionInfo}
use Rattle.locale_numbers_tables.specs.Allocation.{begins_with}
use Rattle.locale_numbers_tables.specs.Entries.{entry_key}
use Rattle.locale_numbers_tables.specs.Keys.{same_key, table_in}
use Rattle.locale_numbers_tables.specs.declared.BookError.{BookError}
use Rattle.locale_numbers_units.specs.Allocation.{passes, tagged_may_grow}
use Rattle.locale_numbers_units.specs.Amounts.{accounts_fault, accounts_key, amounts_said, currencies_fault, currencies_key, has_amounts_shape}
use Rattle.locale_numbers_units.specs.CurrencyDigits.{digits_fault, digits_key, digits_said}
use Rattle.locale_numbers_units.specs.CurrencySymbols.{has_symbols_shape, symbols_fault, symbols_key, symbols_said}
use Rattle.locale_numbers_units.specs.Faults.{first_fault_after, under_key}
use Rattle.locale_numbers_units.specs.Percents.{has_percents_shape, percents_fault, percents_said}

-- the tables of units
pub record UnitsTables : Type 0 where
  pub percents : List (Identifier × PercentTexts)
  pub currencies : List (Identifier × AmountTexts)
  pub accounts : List (Identifier × AmountTexts)
  pub symbols : List (Identifier × SymbolText)
  pub digits : List (Text × FractionInfo)

-- ---- the first fault

abbrev pub percents_faults : Items → Option BookError
percents_faults entries = first_fault_after same_key entry_key percents_fault [] entries

abbrev pub currencies_faults : Items → Option BookError
currencies_faults entries = first_fault_after same_key currencies_key currencies_fault [] entries

abbrev pub accounts_faults : Items → Option BookError
accounts_faults entries = first_fault_after same_key accounts_key accounts_fault [] entries

abbrev pub symbols_faults : Items → Option BookError
symbols_faults entries = first_fault_after same_key symbols_key symbols_fault [] entries

abbrev pub digits_faults : Items → Option BookError
digits_faults entries = first_fault_after bytes_eq digits_key digits_fault [] entries

-- the fault of the first faulty entry, in the order of the arrays
abbrev pub units_fault : Items → Items → Items → Items → Items → Option BookError
units_fault percents currencies accounts symbols digits =
    option_or (percents_faults percents)
    (option_or (currencies_faults currencies)
    (option_or (accounts_faults accounts)
    (option_or (symbols_faults symbols) (digits_faults digits))))

-- ---- the units

-- arrays are units: they have no fault, and these are their tables
pub record AreUnits (percents currencies accounts symbols digits : Items) (tables : UnitsTables) : Type 0 where
  pub sound : units_fault percents currencies accounts symbols digits ≡ None
  pub percents_are : table_in same_key (under_key entry_key percents_said) percents ≡ Some tables.percents
  pub currencies_are : table_in same_key (under_key currencies_key amounts_said) currencies ≡ Some tables.currencies
  pub accounts_are : table_in same_key (under_key accounts_key amounts_said) accounts ≡ Some tables.accounts
  pub symbols_are : table_in same_key (under_key symbols_key symbols_said) symbols ≡ Some tables.symbols
  pub digits_are : table_in bytes_eq (under_key digits_key digits_said) digits ≡ Some tables.digits

-- where reading them may run out of memory: where one of the arrays begins so
abbrev pub units_may_grow : Items → Items → Items → Items → Items → Bool
units_may_grow percents currencies accounts symbols digits =
    begins_with (tagged_may_grow has_percents_shape percents_fault) percents
    || begins_with (tagged_may_grow has_amounts_shape currencies_fault) currencies
    || begins_with (tagged_may_grow has_amounts_shape accounts_fault) accounts
    || begins_with (tagged_may_grow has_symbols_shape symbols_fault) symbols
    || begins_with (passes digits_fault) digits
