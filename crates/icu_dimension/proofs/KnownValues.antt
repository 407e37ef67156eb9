-- Rows of docs/units.md and docs/books.md on the units that are found, over small tables, so that a wrong definition does not pass.
use Rattle.std.proofs.Common.{◌≡◌, ℕ, true, false, List, [], ◌∷◌, ◌++◌, Option, None, Some, if◌then◌else◌, refl}
use Rattle.std.specs.Prelude.{Result, Ok, Err, codes}
use Rattle.std.specs.Option.{option_map_or}
use Rattle.std.specs.Result.{result_map_both}
use Rattle.std.specs.Str.{bytes_eq}
use Rattle.fixed_decimal.specs.declared.Sign.TheVariants.{None as NoSign, Negative}
use Rattle.icu_locale_core.specs.TagPreferences.{DataLocaleMeaning, Preferences}
use Rattle.icu_decimal.specs.Identifiers.{Identifier}
use Rattle.icu_decimal.specs.Symbols.{Symbols, english_symbols}
use Rattle.icu_decimal.specs.declared.error.DataError.{DataError}
use Rattle.icu_decimal.specs.declared.error.DataError.TheVariants.{IdentifierNotFound, Custom}
use Rattle.icu_dimension_affixes.specs.UnitPatterns.{AffixPair, AffixesText, PatternTexts}
use Rattle.icu_dimension_affixes.specs.UnitText.{sign_pair}
use Rattle.icu_dimension_affixes.specs.declared.affixes.UnitPlace.TheVariants.{Before, After}
use Rattle.icu_dimension_fractions.specs.declared.fraction.FractionInfo.{FractionInfo}
use Rattle.icu_dimension_fractions.specs.declared.increment.FractionIncrement.TheVariants.{MultiplesOf5}
use Rattle.icu_dimension.specs.FoundUnits.{CurrencySettings, found_currency, found_percent}
use Rattle.icu_dimension.specs.ProvidedUnits.{AmountTexts, PercentTexts, two_digits, usual_fractions}
use Rattle.icu_dimension.specs.UnitSources.{CurrencySource, DecimalSource}
use Rattle.icu_dimension.specs.declared.options.CurrencyFormatterOptions.{CurrencyFormatterOptions}
use Rattle.icu_dimension_fractions.specs.declared.PercentSign.{PercentSign}
use Rattle.icu_dimension_fractions.specs.declared.PercentSign.TheVariants.{Percent, Permille}
use Rattle.icu_dimension_fractions.specs.declared.CurrencyStyle.{CurrencyStyle}
use Rattle.icu_dimension_fractions.specs.declared.CurrencyStyle.TheVariants.{Standard, Accounting}
use Rattle.icu_dimension_fractions.specs.declared.CurrencyWidth.{CurrencyWidth}
use Rattle.icu_dimension_fractions.specs.declared.CurrencyWidth.TheVariants.{Short, IsoCode}

-- ---- small tables

-- a locale and attributes as one text: en-AT/EUR
abbrev place_of : DataLocaleMeaning → List ℕ
place_of d = d.language ++ option_map_or (λ r. codes "-" ++ r) d.region []

abbrev key_of : Identifier → List ℕ
key_of id = place_of id.locale ++ (codes "/" ++ id.attributes)

abbrev table_of : {T : Type 0} → List (List ℕ × Result T DataError) → Identifier → Result T DataError
table_of [] id = Err IdentifierNotFound
table_of ((key, said) ∷ rest) id = if bytes_eq key (key_of id) then said else table_of rest id

abbrev locale : List ℕ → Option (List ℕ) → DataLocaleMeaning
locale language region = record { language = language; script = None; region = region; variant = None; subdivision = None }

-- the parents of CLDR from en-AT on, and else the language alone
abbrev parent : DataLocaleMeaning → Option DataLocaleMeaning
parent d =
    if bytes_eq (place_of d) (codes "en-AT") then Some (locale (codes "en") (Some (codes "150")))
    else if bytes_eq (place_of d) (codes "en-150") then Some (locale (codes "en") (Some (codes "001")))
    else option_map_or (λ r. Some (locale d.language None)) d.region None

-- ---- patterns

abbrev space : List ℕ
space = 194 ∷ 160 ∷ []

abbrev before : List ℕ → List ℕ → List ℕ → AffixesText
before first second third = record { place = Before; first = first; second = second; third = third }

abbrev alone : AffixesText → PatternTexts
alone unsigned = record { unsigned = unsigned; minus = None; plus = None }

-- `¤` and `¤ `; in accounts `(¤` and `)` for a minus sign
abbrev english : AmountTexts
english = record { symbols = None; patterns = record { standard = alone (before [] [] []); alpha_next_to_number = Some (alone (before [] space [])) } }

abbrev in_parentheses : AffixesText → AffixesText → PatternTexts
in_parentheses unsigned minus = record { unsigned = unsigned; minus = Some minus; plus = None }

abbrev english_accounts : AmountTexts
english_accounts = record {
  symbols = None;
  patterns = record {
    standard = in_parentheses (before [] [] []) (before (codes "(") [] (codes ")"));
    alpha_next_to_number = Some (in_parentheses (before [] space []) (before (codes "(") space (codes ")")));
  };
}

abbrev swiss : AmountTexts
swiss = record {
  symbols = None;
  patterns = record { standard = record { unsigned = before [] space []; minus = Some (before [] (codes "-") []); plus = None }; alpha_next_to_number = None };
}

abbrev german : PatternTexts
german = alone (record { place = After; first = []; second = space; third = [] })

-- symbols with a blank for groups
abbrev blanks : Symbols
blanks = record english_symbols { strings = record english_symbols.strings { grouping_separator = codes " " } }

-- ---- the provider

abbrev decimals : ℕ → DecimalSource
decimals limit = record {
  next = parent;
  limit = limit;
  symbols = table_of ((codes "en/", Ok english_symbols) ∷ (codes "de/", Ok english_symbols) ∷ []);
  digits = table_of ((codes "und/latn", Ok (codes "0123456789")) ∷ []);
}

abbrev source : ℕ → CurrencySource
source limit = record {
  decimals = decimals limit;
  currencies = table_of (
      (codes "en/", Ok english)
      ∷ (codes "en-150/EUR", Ok (record { symbols = Some blanks; patterns = record { standard = german; alpha_next_to_number = None } }))
      ∷ (codes "de/", Ok (record { symbols = None; patterns = record { standard = german; alpha_next_to_number = None } }))
      ∷ (codes "de-CH/", Ok swiss)
      ∷ (codes "de-AT/", Ok (record english { symbols = Some blanks }))
      ∷ (codes "de/XXX", Err Custom)
      ∷ []);
  accounts = table_of ((codes "en/", Ok english_accounts) ∷ []);
  symbols = table_of (
      (codes "und/USD", Ok (record { text = codes "US$"; ends = record { first = true; last = false } }))
      ∷ (codes "en/USD", Ok (record { text = codes "$"; ends = record { first = false; last = false } }))
      ∷ []);
  fractions = table_of ((codes "und/CHF", Ok (record { standard = two_digits; cash = record { digits = 2; increment = MultiplesOf5 } })) ∷ []);
}

abbrev of_locale : List ℕ → Option (List ℕ) → Preferences
of_locale language region = record {
  locale = record { language = language; script = None; region = region; variant = None; subdivision = None; region_override = None };
  numbering_system = None;
}

abbrev options : CurrencyStyle → CurrencyWidth → CurrencyFormatterOptions
options style width = record { style = style; width = width; grouping_strategy = None }

abbrev in_general : CurrencyFormatterOptions
in_general = options Standard Short

abbrev pair : List ℕ → List ℕ → AffixPair
pair first second = record { before = first; after = second }

abbrev unsigned_of : Result CurrencySettings DataError → Result AffixPair DataError
unsigned_of found = result_map_both (λ s. sign_pair s.unit NoSign) (λ e. e) found

abbrev minus_of : Result CurrencySettings DataError → Result AffixPair DataError
minus_of found = result_map_both (λ s. sign_pair s.unit Negative) (λ e. e) found

abbrev symbols_of : Result CurrencySettings DataError → Result Symbols DataError
symbols_of found = result_map_both (λ s. s.unit.tables.symbols) (λ e. e) found

abbrev fractions_in : Result CurrencySettings DataError → Result FractionInfo DataError
fractions_in found = result_map_both (λ s. s.fractions) (λ e. e) found

-- ---- rows

-- in Swiss German the sign takes the place of the space: CHF-5.00
swiss_minus : minus_of (found_currency (source 5) (of_locale (codes "de") (Some (codes "CH"))) (codes "CHF") in_general) ≡ Ok (pair (codes "CHF-") [])
swiss_minus = refl

swiss_digits : fractions_in (found_currency (source 5) (of_locale (codes "de") (Some (codes "CH"))) (codes "CHF") in_general)
    ≡ Ok (record { standard = two_digits; cash = record { digits = 2; increment = MultiplesOf5 } })
swiss_digits = refl

-- in English a space where a letter is next to the number: CHF 5, $5; and USD 5 by the code
english_francs : unsigned_of (found_currency (source 5) (of_locale (codes "en") None) (codes "CHF") in_general) ≡ Ok (pair (codes "CHF" ++ space) [])
english_francs = refl

english_dollars : unsigned_of (found_currency (source 5) (of_locale (codes "en") None) (codes "USD") in_general) ≡ Ok (pair (codes "$") [])
english_dollars = refl

dollars_by_code : unsigned_of (found_currency (source 5) (of_locale (codes "en") None) (codes "USD") (options Standard IsoCode)) ≡ Ok (pair (codes "USD" ++ space) [])
dollars_by_code = refl

-- symbols of amounts' own, in Austria
austrian_symbols : symbols_of (found_currency (source 5) (of_locale (codes "de") (Some (codes "AT"))) (codes "EUR") in_general) ≡ Ok blanks
austrian_symbols = refl

-- from en-AT on: EUR has an entry at en-150, USD has none before en
euros_in_austria : unsigned_of (found_currency (source 5) (of_locale (codes "en") (Some (codes "AT"))) (codes "EUR") in_general) ≡ Ok (pair [] (space ++ codes "EUR"))
euros_in_austria = refl

its_symbols : symbols_of (found_currency (source 5) (of_locale (codes "en") (Some (codes "AT"))) (codes "EUR") in_general) ≡ Ok blanks
its_symbols = refl

dollars_in_austria : unsigned_of (found_currency (source 5) (of_locale (codes "en") (Some (codes "AT"))) (codes "USD") in_general) ≡ Ok (pair (codes "$") [])
dollars_in_austria = refl

-- a currency that no table has
unknown_code : unsigned_of (found_currency (source 5) (of_locale (codes "en") None) (codes "QQQ") in_general) ≡ Ok (pair (codes "QQQ" ++ space) [])
unknown_code = refl

unknown_digits : fractions_in (found_currency (source 5) (of_locale (codes "en") None) (codes "QQQ") in_general) ≡ Ok usual_fractions
unknown_digits = refl

-- accounting: its own patterns in English; in German those of currencies; the code before both
english_accounting : minus_of (found_currency (source 5) (of_locale (codes "en") None) (codes "USD") (options Accounting Short)) ≡ Ok (pair (codes "($") (codes ")"))
english_accounting = refl

german_accounting : minus_of (found_currency (source 5) (of_locale (codes "de") None) (codes "EUR") (options Accounting Short)) ≡ Ok (pair (codes "-") (space ++ codes "EUR"))
german_accounting = refl

code_in_accounting : minus_of (found_currency (source 5) (of_locale (codes "en") (Some (codes "AT"))) (codes "EUR") (options Accounting Short)) ≡ Ok (pair (codes "-") (space ++ codes "EUR"))
code_in_accounting = refl

-- `und` at last, where there are parents: US$ in German; without parents the code
dollars_in_german : unsigned_of (found_currency (source 5) (of_locale (codes "de") None) (codes "USD") in_general) ≡ Ok (pair [] (space ++ codes "US$"))
dollars_in_german = refl

without_parents : unsigned_of (found_currency (source 0) (of_locale (codes "de") None) (codes "USD") in_general) ≡ Ok (pair [] (space ++ codes "USD"))
without_parents = refl

-- errors: no symbols of plain text, and one of the provider's own
no_symbols : found_currency (source 5) (of_locale (codes "fr") None) (codes "USD") in_general ≡ Err IdentifierNotFound
no_symbols = refl

another_error : found_currency (source 5) (of_locale (codes "de") (Some (codes "CH"))) (codes "XXX") in_general ≡ Err Custom
another_error = refl

-- ---- percents

abbrev percents : Identifier → Result PercentTexts DataError
percents = table_of (
    (codes "und/", Ok (record { sign = codes "%"; permille = Some (codes "m"); symbols = None; pattern = alone (record { place = After; first = []; second = []; third = [] }) }))
    ∷ (codes "de/", Ok (record { sign = codes "%"; permille = None; symbols = None; pattern = german }))
    ∷ (codes "und/arab", Ok (record { sign = codes "A"; permille = Some (codes "M"); symbols = None; pattern = german }))
    ∷ [])

abbrev percent_pair : PercentSign → Preferences → Result AffixPair DataError
percent_pair sign preferences = result_map_both (λ s. sign_pair s NoSign) (λ e. e)
    (found_percent (record { decimals = decimals 5; percents = percents }) preferences (record { grouping_strategy = None; sign = sign }))

abbrev in_arab : Preferences
in_arab = record (of_locale (codes "de") None) { numbering_system = Some (codes "arab") }

-- the system along all locales, and then none
german_percents : percent_pair Percent (of_locale (codes "de") None) ≡ Ok (pair [] (space ++ codes "%"))
german_percents = refl

english_percents : percent_pair Percent (of_locale (codes "en") None) ≡ Ok (pair [] (codes "%"))
english_percents = refl

system_before_locale : percent_pair Percent in_arab ≡ Ok (pair [] (space ++ codes "A"))
system_before_locale = refl

-- the permille sign is that of the same entry, or none
english_permille : percent_pair Permille (of_locale (codes "en") None) ≡ Ok (pair [] (codes "m"))
english_permille = refl

permille_of_system : percent_pair Permille in_arab ≡ Ok (pair [] (space ++ codes "M"))
permille_of_system = refl

no_permille : percent_pair Permille (of_locale (codes "de") None) ≡ Err IdentifierNotFound
no_permille = refl
