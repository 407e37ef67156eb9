-- What percents and amounts of a book are written with is made of texts: `specs/Laws.antt`.
-- It goes through all that is found of a unit, and the definition of each part is imported.
use Rattle.std.proofs.Common.{◌≡◌, ◌==◌, ◌<◌, ℕ, Bool, true, false, List, [], ◌∷◌, ◌++◌, length, arith, Option, Some, None, Result, Ok, Err, refl, subst}
use Rattle.std.proofs.lemmas.Bool.{and_parts}
use Rattle.std.proofs.lemmas.Bool.Decides.{nat_tests}
use Rattle.std.proofs.lemmas.Str.{IsUtf8-append, IsUtf8-from_ascii, IsUtf8-nil}
use Rattle.std.proofs.lemmas.Str.Ascii.{IsAscii-cons, IsAscii-nil}
use Rattle.std.specs.Char.{is_ascii_uppercase}
use Rattle.std.specs.List.{list_all}
use Rattle.std.specs.Option.{option_and_then}
use Rattle.std.specs.Prelude.{IfSome}
use Rattle.std.specs.Str.{IsAscii, IsUtf8}
use Rattle.serde_json.specs.Data.{Data}
use Rattle.fixed_decimal.specs.declared.Sign.{Sign}
use Rattle.fixed_decimal.specs.declared.Sign.TheVariants.{None as NoSign, Negative, Positive}
use Rattle.icu_decimal.specs.Affixes.{AffixTexts, affixes_of}
use Rattle.icu_decimal.specs.Choice.{answered, first_found}
use Rattle.icu_decimal.specs.Identifiers.{Identifier, identifiers_along, under_each}
use Rattle.icu_decimal.specs.PlainText.{Tables}
use Rattle.icu_decimal.specs.ReadingLaws.{AreTables}
use Rattle.icu_decimal.specs.Symbols.{Symbols}
use Rattle.icu_decimal.specs.declared.error.DataError.{DataError}
use Rattle.icu_dimension.specs.CurrencyCodes.{is_currency_code}
use Rattle.icu_dimension.specs.FoundUnits.{CurrencySettings, amount_settings, percent_settings, sign_found, then_found, unit_locales, with_own}
use Rattle.icu_dimension.specs.ProvidedUnits.{AmountTexts, PercentTexts, SymbolText, written_as}
use Rattle.icu_dimension.specs.UnitChoice.{amounts_found, fractions_found, name_found, percent_found, usual_amounts}
use Rattle.icu_dimension.specs.UnitPatterns.{AffixPair, AffixesText, PatternTexts, chosen_from, is_letter_next, pair_with}
use Rattle.icu_dimension.specs.UnitReading.{AreReaderTexts, pair_for, reader_texts}
use Rattle.icu_dimension.specs.UnitText.{UnitSettings, pair_by, sign_pair, signed_pair}
use Rattle.icu_dimension.specs.declared.CurrencyStyle.{CurrencyStyle}
use Rattle.icu_dimension.specs.declared.CurrencyStyle.TheVariants.{Standard, Accounting}
use Rattle.icu_dimension.specs.declared.CurrencyWidth.{CurrencyWidth}
use Rattle.icu_dimension.specs.declared.CurrencyWidth.TheVariants.{Short, IsoCode}
use Rattle.icu_dimension.specs.declared.FractionInfo.{FractionInfo}
use Rattle.icu_dimension.specs.declared.PercentSign.{PercentSign}
use Rattle.icu_dimension.specs.declared.PercentSign.TheVariants.{Percent, Permille}
use Rattle.icu_dimension.specs.declared.UnitPlace.{UnitPlace}
use Rattle.icu_dimension.specs.declared.UnitPlace.TheVariants.{Before, After}
use Rattle.icu_locale_core.specs.Subtags.{Text}
use Rattle.icu_locale_core.specs.TagPreferences.{DataLocaleMeaning}
use Rattle.locale_numbers_tables.specs.Keys.{same_key, table_at}
use Rattle.locale_numbers_units.specs.UnitTexts.{AreAffixTexts, AreAmountTexts, ArePatternTexts, ArePercentTexts, AreSymbolTexts, AreUnitTexts}
use Rattle.locale_numbers_units.specs.Units.{UnitsTables}
use Rattle.locale_numbers_units.proofs.UnitTextLemmas.{units_texts}
use Rattle.locale_numbers_book.specs.Book.{BookTables, HasUnits}
use Rattle.locale_numbers_book.specs.Form.{units_part}
use Rattle.locale_numbers_book.specs.Laws.{FoundAmountsAreTexts, FoundPercentsAreTexts}
use Rattle.locale_numbers_book.specs.Tables.{accounts_under, currencies_under, currency_symbols_under, fractions_under, percents_under}
use Rattle.locale_numbers_book.specs.TagFormatters.{decimals_in, found_plain}
use Rattle.locale_numbers_book.proofs.FoundTexts.{plain_texts}
use Rattle.locale_numbers_book.proofs.ReadTables.{first_holds, is_there, next_holds, under_holds}

-- ---- affixes

record ArePairTexts (pair : AffixPair) : Type 0 where
  before : IsUtf8 pair.before
  after : IsUtf8 pair.after

-- with the unit in its place
placed_texts : (place : UnitPlace) (first second third unit : List ℕ) → IsUtf8 first → IsUtf8 second → IsUtf8 third → IsUtf8 unit
    → ArePairTexts (pair_with (record { place = place; first = first; second = second; third = third }) unit)
placed_texts Before first second third unit a b c u = record { before = IsUtf8-append first (unit ++ second) a (IsUtf8-append unit second u b); after = c }
placed_texts After first second third unit a b c u = record { before = a; after = IsUtf8-append second (unit ++ third) b (IsUtf8-append unit third u c) }

pair_texts : (affixes : AffixesText) (unit : List ℕ) → AreAffixTexts affixes → IsUtf8 unit → ArePairTexts (pair_with affixes unit)
pair_texts affixes unit texts utf8 = placed_texts affixes.place affixes.first affixes.second affixes.third unit texts.first texts.second texts.third utf8

-- the affixes that a sign has in the symbols
record AreSignTexts (affixes : AffixTexts) : Type 0 where
  prefix : IsUtf8 affixes.prefix
  suffix : IsUtf8 affixes.suffix

signed_texts : (affixes : Option AffixTexts) (pair : AffixPair) → IfSome affixes AreSignTexts → ArePairTexts pair → ArePairTexts (signed_pair affixes pair)
signed_texts None pair sign texts =
    record { before = IsUtf8-append [] pair.before IsUtf8-nil texts.before; after = IsUtf8-append pair.after [] texts.after IsUtf8-nil }
signed_texts (Some affixes) pair sign texts =
    record { before = IsUtf8-append affixes.prefix pair.before sign.prefix texts.before; after = IsUtf8-append pair.after affixes.suffix texts.after sign.suffix }

by_texts : (own : Option AffixesText) (unsigned : AffixesText) (affixes : Option AffixTexts) (unit : List ℕ)
    → IfSome own AreAffixTexts → AreAffixTexts unsigned → IfSome affixes AreSignTexts → IsUtf8 unit → ArePairTexts (pair_by own unsigned affixes unit)
by_texts None unsigned affixes unit own texts sign utf8 = signed_texts affixes (pair_with unsigned unit) sign (pair_texts unsigned unit texts utf8)
by_texts (Some other) unsigned affixes unit own texts sign utf8 = pair_texts other unit own utf8

-- ---- settings

module _ (s : UnitSettings) (tables : AreTables s.tables) (pattern : ArePatternTexts s.pattern) (unit : IsUtf8 s.unit.text) where
  sign_texts : (sign : Sign) → ArePairTexts (sign_pair s sign)
  sign_texts NoSign = by_texts None s.pattern.unsigned None s.unit.text tt pattern.unsigned tt unit
  sign_texts Negative =
      by_texts s.pattern.minus s.pattern.unsigned (affixes_of s.tables.symbols.strings Negative) s.unit.text pattern.minus pattern.unsigned
      (record { prefix = tables.minus_prefix; suffix = tables.minus_suffix }) unit
  sign_texts Positive =
      by_texts s.pattern.plus s.pattern.unsigned (affixes_of s.tables.symbols.strings Positive) s.unit.text pattern.plus pattern.unsigned
      (record { prefix = tables.plus_prefix; suffix = tables.plus_suffix }) unit

  settings_texts : AreReaderTexts (reader_texts s)
  settings_texts = record { tables = tables; before = before; after = after }
    where
      before : (sign : Sign) → IsUtf8 (pair_for (reader_texts s).pairs sign).before
      before NoSign = (sign_texts NoSign).before
      before Negative = (sign_texts Negative).before
      before Positive = (sign_texts Positive).before

      after : (sign : Sign) → IsUtf8 (pair_for (reader_texts s).pairs sign).after
      after NoSign = (sign_texts NoSign).after
      after Negative = (sign_texts Negative).after
      after Positive = (sign_texts Positive).after

-- an entry's own symbols in place of those of plain text
own_tables : (own : Option Symbols) (t : Tables) → AreTables t → IfSome own (λ symbols. AreSymbolTexts symbols.strings) → AreTables (with_own own t)
own_tables None t tables texts = tables
own_tables (Some own) t tables texts = record {
  ten = tables.ten;
  digits = tables.digits;
  minus_prefix = texts.minus_prefix;
  minus_suffix = texts.minus_suffix;
  plus_prefix = texts.plus_prefix;
  plus_suffix = texts.plus_suffix;
  point = texts.point;
  group = texts.group;
}

percent_texts : (t : Tables) (e : PercentTexts) (text : List ℕ) → AreTables t → ArePercentTexts e → IsUtf8 text → AreReaderTexts (reader_texts (percent_settings t e text))
percent_texts t e text tables texts utf8 = settings_texts (percent_settings t e text) (own_tables e.symbols t tables texts.symbols) texts.pattern utf8

-- each sign that is there
percent_sign_texts : (sign : PercentSign) (e : PercentTexts) (text : List ℕ) → ArePercentTexts e → sign_found sign e ≡ Ok text → IsUtf8 text
percent_sign_texts Percent e text texts is = let one : e.sign ≡ text = cc in subst IsUtf8 one texts.sign
percent_sign_texts Permille e text texts is = permille_text e.permille text texts.permille is
  where
    permille_text : (o : Option (List ℕ)) (text : List ℕ) → IfSome o IsUtf8 → answered o ≡ Ok text → IsUtf8 text
    permille_text (Some other) text utf8 is = let one : other ≡ text = cc in subst IsUtf8 one utf8
    permille_text None text utf8 is = absurd (cc)

-- the pattern beside a letter, or the other
chosen_texts : (standard : PatternTexts) (beside : Option PatternTexts) (b : Bool) → ArePatternTexts standard → IfSome beside ArePatternTexts → ArePatternTexts (chosen_from standard beside b)
chosen_texts standard None b first second = first
chosen_texts standard (Some other) true first second = second
chosen_texts standard (Some other) false first second = first

amount_texts : (t : Tables) (e : AmountTexts) (name : SymbolText) → AreTables t → AreAmountTexts e → IsUtf8 name.text → AreReaderTexts (reader_texts (amount_settings t e name))
amount_texts t e name tables texts utf8 =
    settings_texts (amount_settings t e name) (own_tables e.symbols t tables texts.symbols)
    (chosen_texts e.patterns.standard e.patterns.alpha_next_to_number (is_letter_next e.patterns.standard.unsigned.place name.ends) texts.standard texts.alpha_next_to_number) utf8

-- ---- what is in a book

units_are : (half : Option Data) (there : Option UnitsTables) → HasUnits half there → IfSome there AreUnitTexts
units_are None None has = tt
units_are (Some value) (Some units) has = units_texts _ _ _ _ _ units has
units_are None (Some units) has = absurd has
units_are (Some value) None has = absurd has

percents_there : (there : Option UnitsTables) (id : Identifier) (e : PercentTexts) → IfSome there AreUnitTexts
    → option_and_then (λ units. table_at same_key id units.percents) there ≡ Some e → ArePercentTexts e
percents_there (Some units) id e texts is = under_holds ArePercentTexts same_key id units.percents e texts.percents is
percents_there None id e texts is = absurd (cc)

currencies_there : (there : Option UnitsTables) (id : Identifier) (e : AmountTexts) → IfSome there AreUnitTexts
    → option_and_then (λ units. table_at same_key id units.currencies) there ≡ Some e → AreAmountTexts e
currencies_there (Some units) id e texts is = under_holds AreAmountTexts same_key id units.currencies e texts.currencies is
currencies_there None id e texts is = absurd (cc)

accounts_there : (there : Option UnitsTables) (id : Identifier) (e : AmountTexts) → IfSome there AreUnitTexts
    → option_and_then (λ units. table_at same_key id units.accounts) there ≡ Some e → AreAmountTexts e
accounts_there (Some units) id e texts is = under_holds AreAmountTexts same_key id units.accounts e texts.accounts is
accounts_there None id e texts is = absurd (cc)

abbrev IsNameText : SymbolText → Type 0
IsNameText name = IsUtf8 name.text

names_there : (there : Option UnitsTables) (id : Identifier) (e : SymbolText) → IfSome there AreUnitTexts
    → option_and_then (λ units. table_at same_key id units.symbols) there ≡ Some e → IsNameText e
names_there (Some units) id e texts is = under_holds IsNameText same_key id units.symbols e texts.symbols is
names_there None id e texts is = absurd (cc)

-- ---- what is found

module _ (book : BookTables) (texts : IfSome book.units AreUnitTexts) where
  percents_found : (locales : List DataLocaleMeaning) (system : Option Text) (e : PercentTexts) → percent_found (percents_under book) locales system ≡ Ok e → ArePercentTexts e
  percents_found locales system e is =
      first_holds ArePercentTexts (percents_under book)
      (λ id e there. percents_there book.units id e texts (is_there (option_and_then (λ units. table_at same_key id units.percents) book.units) e there))
      DataError.InvalidRequest (identifiers_along system locales) e is

  currencies_found : (ids : List Identifier) (e : AmountTexts) → first_found (currencies_under book) ids ≡ Ok e → AreAmountTexts e
  currencies_found ids e is =
      first_holds AreAmountTexts (currencies_under book)
      (λ id e there. currencies_there book.units id e texts (is_there (option_and_then (λ units. table_at same_key id units.currencies) book.units) e there))
      DataError.InvalidRequest ids e is

  accounts_found : (ids : List Identifier) (e : AmountTexts) → first_found (accounts_under book) ids ≡ Ok e → AreAmountTexts e
  accounts_found ids e is =
      first_holds AreAmountTexts (accounts_under book)
      (λ id e there. accounts_there book.units id e texts (is_there (option_and_then (λ units. table_at same_key id units.accounts) book.units) e there))
      DataError.InvalidRequest ids e is

  usual_found : (style : CurrencyStyle) (locales : List DataLocaleMeaning) (system : Option Text) (e : AmountTexts)
      → usual_amounts style (currencies_under book) (accounts_under book) locales system ≡ Ok e → AreAmountTexts e
  usual_found Standard locales system e is = currencies_found (identifiers_along system locales) e is
  usual_found Accounting locales system e is =
      next_holds AreAmountTexts (first_found (accounts_under book) (identifiers_along system locales)) (first_found (currencies_under book) (identifiers_along system locales)) e
      (λ own there. accounts_found (identifiers_along system locales) own there) (λ there. currencies_found (identifiers_along system locales) e there) is

  all_found : (style : CurrencyStyle) (locales : List DataLocaleMeaning) (system : Option Text) (code : Text) (e : AmountTexts)
      → amounts_found style (currencies_under book) (accounts_under book) locales system code ≡ Ok e → AreAmountTexts e
  all_found style locales system code e is =
      next_holds AreAmountTexts (first_found (currencies_under book) (under_each code locales)) (usual_amounts style (currencies_under book) (accounts_under book) locales system) e
      (λ own there. currencies_found (under_each code locales) own there) (λ there. usual_found style locales system e there) is

  -- the code itself
  code_named : (code : Text) (e : SymbolText) → IsUtf8 code → ◌≡◌ {A = Result SymbolText DataError} (Ok (written_as None code)) (Ok e) → IsNameText e
  code_named code e utf8 is = let one : written_as None code ≡ e = cc in subst IsNameText one utf8

  names_found : (width : CurrencyWidth) (locales : List DataLocaleMeaning) (code : Text) (e : SymbolText) → IsUtf8 code
      → name_found width (currency_symbols_under book) locales code ≡ Ok e → IsNameText e
  names_found Short locales code e utf8 is =
      next_holds IsNameText (first_found (currency_symbols_under book) (under_each code locales)) (Ok (written_as None code)) e
      (λ name there. first_holds IsNameText (currency_symbols_under book)
      (λ id e there. names_there book.units id e texts (is_there (option_and_then (λ units. table_at same_key id units.symbols) book.units) e there))
      DataError.InvalidRequest (under_each code locales) name there)
      (λ there. code_named code e utf8 there) is
  names_found IsoCode locales code e utf8 is = code_named code e utf8 is

-- ---- codes

capital_ascii : (b : ℕ) → is_ascii_uppercase b ≡ true → b < 128
capital_ascii b h = grind (arith, nat_tests)

capitals_ascii : (text : List ℕ) → list_all is_ascii_uppercase text ≡ true → IsAscii text
capitals_ascii [] h = IsAscii-nil
capitals_ascii (b ∷ bs) h =
    let parts = and_parts (is_ascii_uppercase b) (list_all is_ascii_uppercase bs) h in
    IsAscii-cons b bs (capital_ascii b parts.0) (capitals_ascii bs parts.1)

code_utf8 : (code : Text) → is_currency_code code ≡ true → IsUtf8 code
code_utf8 code is = IsUtf8-from_ascii code (capitals_ascii code (and_parts (length code == 3) (list_all is_ascii_uppercase code) is).1)

-- ---- the laws

sign_by : (t : Tables) (e : PercentTexts) (s : Result (List ℕ) DataError) (settings : UnitSettings) → AreTables t → ArePercentTexts e
    → ((text : List ℕ) → s ≡ Ok text → IsUtf8 text) → then_found s (λ text. Ok (percent_settings t e text)) ≡ Ok settings → AreReaderTexts (reader_texts settings)
sign_by t e (Ok text) settings tables texts utf8 is =
    let one : percent_settings t e text ≡ settings = cc in
    subst (λ (s : UnitSettings). AreReaderTexts (reader_texts s)) one (percent_texts t e text tables texts (utf8 text refl))
sign_by t e (Err error) settings tables texts utf8 is = absurd (cc)

percent_by : (sign : PercentSign) (d : Result Tables DataError) (p : Result PercentTexts DataError) (settings : UnitSettings)
    → ((t : Tables) → d ≡ Ok t → AreTables t) → ((e : PercentTexts) → p ≡ Ok e → ArePercentTexts e)
    → then_found d (λ t. then_found p (λ e. then_found (sign_found sign e) (λ text. Ok (percent_settings t e text)))) ≡ Ok settings → AreReaderTexts (reader_texts settings)
percent_by sign (Ok t) (Ok e) settings tables texts is =
    sign_by t e (sign_found sign e) settings (tables t refl) (texts e refl) (λ text there. percent_sign_texts sign e text (texts e refl) there) is
percent_by sign (Ok t) (Err error) settings tables texts is = absurd (cc)
percent_by sign (Err error) p settings tables texts is = absurd (cc)

pub percents_texts : FoundPercentsAreTexts
percents_texts value book is preferences options settings found =
    let units = units_are (units_part value) book.units is.units in
    let locales = unit_locales (decimals_in book) preferences in
    percent_by options.sign (found_plain book preferences options.grouping_strategy) (percent_found (percents_under book) locales preferences.numbering_system) settings
    (λ t there. plain_texts value book is preferences options.grouping_strategy t there)
    (λ e there. percents_found book units locales preferences.numbering_system e there) found

amount_by : (d : Result Tables DataError) (a : Result AmountTexts DataError) (n : Result SymbolText DataError) (f : Result FractionInfo DataError) (found : CurrencySettings)
    → ((t : Tables) → d ≡ Ok t → AreTables t) → ((e : AmountTexts) → a ≡ Ok e → AreAmountTexts e) → ((name : SymbolText) → n ≡ Ok name → IsNameText name)
    → then_found d (λ t. then_found a (λ e. then_found n (λ name. then_found f (λ fractions. Ok (record { unit = amount_settings t e name; fractions = fractions }))))) ≡ Ok found
    → AreReaderTexts (reader_texts found.unit)
amount_by (Ok t) (Ok e) (Ok name) (Ok fractions) found tables texts utf8 is =
    let one : ◌≡◌ {A = CurrencySettings} (record { unit = amount_settings t e name; fractions = fractions }) found = cc in
    subst (λ (s : CurrencySettings). AreReaderTexts (reader_texts s.unit)) one (amount_texts t e name (tables t refl) (texts e refl) (utf8 name refl))
amount_by (Ok t) (Ok e) (Ok name) (Err error) found tables texts utf8 is = absurd (cc)
amount_by (Ok t) (Ok e) (Err error) f found tables texts utf8 is = absurd (cc)
amount_by (Ok t) (Err error) n f found tables texts utf8 is = absurd (cc)
amount_by (Err error) a n f found tables texts utf8 is = absurd (cc)

pub amounts_texts : FoundAmountsAreTexts
amounts_texts value book is preferences code options found coded same =
    let units = units_are (units_part value) book.units is.units in
    let locales = unit_locales (decimals_in book) preferences in
    amount_by (found_plain book preferences options.grouping_strategy)
    (amounts_found options.style (currencies_under book) (accounts_under book) locales preferences.numbering_system code)
    (name_found options.width (currency_symbols_under book) locales code) (fractions_found (fractions_under book) code) found
    (λ t there. plain_texts value book is preferences options.grouping_strategy t there)
    (λ e there. all_found book units options.style locales preferences.numbering_system code e there)
    (λ name there. names_found book units options.width locales code name (code_utf8 code coded) there) same
