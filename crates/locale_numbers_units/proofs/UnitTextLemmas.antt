-- Arrays that are units are texts: `specs/UnitTexts.antt`.
use Rattle.std.proofs.Common.{◌≡◌, Bool, true, false, [], ◌∷◌, Option, None, Some, is_some, refl}
use Rattle.std.proofs.lemmas.Bool.{and_parts}
use Rattle.std.specs.Str.{IsUtf8}
use Rattle.serde_json.specs.Data.{Data}
use Rattle.icu_dimension.specs.ProvidedUnits.{AmountTexts, PercentTexts, SymbolText}
use Rattle.icu_locale_core.specs.Subtags.{Text as Subtag}
use Rattle.locale_numbers_tables.specs.Entries.{entry_key, field_at}
use Rattle.locale_numbers_tables.specs.Faults.{first_broken, has_locale}
use Rattle.locale_numbers_tables.specs.Fields.{system_or_none_in}
use Rattle.locale_numbers_tables.specs.Keys.{same_key}
use Rattle.locale_numbers_tables.specs.declared.BookError.TheVariants.{Shape, Tag, System, Text, Duplicate, Unit}
use Rattle.locale_numbers_units.specs.Amounts.{accounts_fault, accounts_key, amounts_fault, amounts_said, currencies_fault, currencies_key, has_amounts_places, has_amounts_shape, has_amounts_systems, has_amounts_texts}
use Rattle.locale_numbers_units.specs.CurrencySymbols.{symbols_fault, symbols_key, symbols_said}
use Rattle.locale_numbers_units.specs.Fields.{has_at, system_or_code_at}
use Rattle.locale_numbers_units.specs.Patterns.{is_plain_pattern, or_null, pattern_in}
use Rattle.locale_numbers_units.specs.Percents.{has_percents_shape, has_percents_systems, has_percents_texts, percents_fault, percents_said}
use Rattle.locale_numbers_units.specs.UnitTexts.{AreAmountTexts, ArePercentTexts, UnitsAreTexts}
use Rattle.locale_numbers_units.specs.Units.{accounts_faults, currencies_faults, percents_faults, symbols_faults}
use Rattle.locale_numbers_units.proofs.EntryLemmas.{all_said, first_none, second_none}
use Rattle.locale_numbers_units.proofs.TextLemmas.{amounts_texts, percents_texts, symbol_texts_are}

-- where no rule is broken, the fourth one holds
fourth_holds : (a b c d e u : Bool)
    → first_broken ((Shape, a) ∷ (Tag, b) ∷ (System, c) ∷ (Text, d) ∷ (Duplicate, e) ∷ (Unit, u) ∷ []) ≡ None → d ≡ true
fourth_holds true true true true e u none = refl
fourth_holds true true true false e u none = absurd (cc)
fourth_holds true true false d e u none = absurd (cc)
fourth_holds true false c d e u none = absurd (cc)
fourth_holds false b c d e u none = absurd (cc)

percents_are : (is_new : Bool) (entry : Data) (percents : PercentTexts) → percents_fault is_new entry ≡ None → percents_said entry ≡ Some percents → ArePercentTexts percents
percents_are is_new entry percents none said =
    let plain = fourth_holds (has_percents_shape entry) (has_locale entry) (has_percents_systems entry) (has_percents_texts entry) is_new (is_some (field_at pattern_in 4 entry)) none in
    percents_texts entry percents (and_parts _ (has_at is_plain_pattern 4 entry) plain).1 said

amounts_are : (attribute : Option Subtag) (is_new : Bool) (entry : Data) (amounts : AmountTexts) → amounts_fault attribute is_new entry ≡ None → amounts_said entry ≡ Some amounts → AreAmountTexts amounts
amounts_are attribute is_new entry amounts none said =
    let plain = fourth_holds (has_amounts_shape entry) (has_locale entry) (has_amounts_systems attribute entry) (has_amounts_texts entry) is_new (has_amounts_places entry) none in
    let last = and_parts _ (has_at (or_null is_plain_pattern) 4 entry) plain in
    amounts_texts entry amounts (and_parts _ (has_at is_plain_pattern 3 entry) last.0).1 last.1 said

pub units_texts : UnitsAreTexts
units_texts percents currencies accounts symbols digits units is =
    let behind = second_none (percents_faults percents) _ is.sound in
    let later = second_none (currencies_faults currencies) _ behind in
    let last = second_none (accounts_faults accounts) _ later in
    record {
      percents = all_said ArePercentTexts same_key entry_key percents_said percents_fault percents_are percents units.percents is.percents_are
          (first_none (percents_faults percents) _ is.sound);
      currencies = all_said AreAmountTexts same_key currencies_key amounts_said currencies_fault (λ is_new entry. amounts_are (system_or_code_at 1 entry) is_new entry)
          currencies units.currencies is.currencies_are (first_none (currencies_faults currencies) _ behind);
      accounts = all_said AreAmountTexts same_key accounts_key amounts_said accounts_fault (λ is_new entry. amounts_are (field_at system_or_none_in 1 entry) is_new entry)
          accounts units.accounts is.accounts_are (first_none (accounts_faults accounts) _ later);
      symbols = all_said (λ (symbol : SymbolText). IsUtf8 symbol.text) same_key symbols_key symbols_said symbols_fault (λ is_new entry symbol none said. symbol_texts_are entry symbol said)
          symbols units.symbols is.symbols_are (first_none (symbols_faults symbols) _ last);
    }
