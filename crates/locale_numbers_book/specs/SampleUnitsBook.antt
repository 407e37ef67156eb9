-- The tables and the units of the sample book with units, written out.
-- Defined in docs/books.md, "The sample books".
-- Cited by the law `sample_units_book_is_known`, through Laws.antt.
use Rattle.std.specs.Prelude.{ℕ, true, false, List, [], ◌∷◌, ◌++◌, codes, Option, None, Some}
use Rattle.icu_locale_core.specs.Subtags.{Text}
use Rattle.icu_locale_core.specs.TagPreferences.{DataLocaleMeaning}
use Rattle.icu_decimal.specs.Identifiers.{Identifier, of_both, of_locale}
use Rattle.icu_decimal.specs.Symbols.{Symbols}
use Rattle.icu_dimension.specs.UnitPatterns.{AffixesText, PatternTexts}
use Rattle.icu_dimension.specs.declared.UnitPlace.TheVariants.{Before, After}
use Rattle.icu_dimension.specs.declared.FractionIncrement.TheVariants.{MultiplesOf1, MultiplesOf5}
use Rattle.icu_dimension.specs.declared.FractionInfo.{FractionInfo}
use Rattle.icu_dimension.specs.ProvidedUnits.{AmountTexts, PercentTexts, SymbolText}
use Rattle.locale_numbers_units.specs.Units.{UnitsTables}
use Rattle.locale_numbers_book.specs.Book.{BookTables}
use Rattle.locale_numbers_book.specs.SampleBook.{english}

-- ---- locales

abbrev pub language_alone : Text → DataLocaleMeaning
language_alone language = record { language = language; script = None; region = None; variant = None; subdivision = None }

abbrev pub german : DataLocaleMeaning
german = language_alone (codes "de")

abbrev pub swiss : DataLocaleMeaning
swiss = record german { region = Some (codes "CH") }

abbrev pub hebrew : DataLocaleMeaning
hebrew = language_alone (codes "he")

abbrev pub turkish : DataLocaleMeaning
turkish = language_alone (codes "tr")

-- ---- texts in UTF-8

-- a no-break space, the mark from left to right, the mark from right to left
abbrev pub space : List ℕ
space = 194 ∷ 160 ∷ []

abbrev pub lrm : List ℕ
lrm = 226 ∷ 128 ∷ 142 ∷ []

abbrev pub rlm : List ℕ
rlm = 226 ∷ 128 ∷ 143 ∷ []

abbrev pub euro : List ℕ
euro = 226 ∷ 130 ∷ 172 ∷ []

abbrev pub yen : List ℕ
yen = 194 ∷ 165 ∷ []

-- ---- symbols

abbrev pub latin_symbols : List ℕ → List ℕ → List ℕ → List ℕ → Symbols
latin_symbols minus plus decimal grouping = record {
  strings = record {
    minus_sign_prefix = minus;
    minus_sign_suffix = [];
    plus_sign_prefix = plus;
    plus_sign_suffix = [];
    decimal_separator = decimal;
    grouping_separator = grouping;
    numsys = codes "latn";
  };
  grouping_sizes = record { primary = 3; secondary = 3; min_grouping = 1 };
}

abbrev pub units_book_symbols : List (Identifier × Symbols)
units_book_symbols =
    (of_locale german, latin_symbols (codes "-") (codes "+") (codes ",") (codes "."))
    ∷ (of_locale swiss, latin_symbols (codes "-") (codes "+") (codes ".") (codes "'"))
    ∷ (of_locale english, latin_symbols (codes "-") (codes "+") (codes ".") (codes ","))
    ∷ (of_locale hebrew, latin_symbols (lrm ++ codes "-") (lrm ++ codes "+") (codes ".") (codes ","))
    ∷ (of_locale turkish, latin_symbols (codes "-") (codes "+") (codes ",") (codes "."))
    ∷ []

-- ---- patterns

-- the unit before the number, or after it, and the texts around both
abbrev pub before : List ℕ → List ℕ → List ℕ → AffixesText
before first second third = record { place = Before; first = first; second = second; third = third }

abbrev pub after : List ℕ → List ℕ → List ℕ → AffixesText
after first second third = record { place = After; first = first; second = second; third = third }

-- for all signs, or for each its own
abbrev pub alone : AffixesText → PatternTexts
alone unsigned = record { unsigned = unsigned; minus = None; plus = None }

abbrev pub signed : AffixesText → AffixesText → AffixesText → PatternTexts
signed unsigned minus plus = record { unsigned = unsigned; minus = Some minus; plus = Some plus }

-- without symbols of their own
abbrev pub percent : PatternTexts → PercentTexts
percent pattern = record { sign = codes "%"; permille = None; symbols = None; pattern = pattern }

abbrev pub amounts : PatternTexts → Option PatternTexts → AmountTexts
amounts standard beside = record { symbols = None; patterns = record { standard = standard; alpha_next_to_number = beside } }

-- ---- units

abbrev pub sample_percents : List (Identifier × PercentTexts)
sample_percents =
    (of_locale german, percent (alone (after [] space [])))
    ∷ (of_locale swiss, percent (alone (after [] [] [])))
    ∷ (of_locale english, percent (alone (after [] [] [])))
    ∷ (of_locale hebrew, percent (alone (after [] [] [])))
    ∷ (of_locale turkish, percent (alone (before [] [] [])))
    ∷ []

abbrev pub sample_currencies : List (Identifier × AmountTexts)
sample_currencies =
    (of_locale german, amounts (alone (after [] space [])) None)
    ∷ (of_locale swiss, amounts (signed (before [] space []) (before [] (codes "-") []) (before [] (codes "+") [])) None)
    ∷ (of_locale english, amounts (alone (before [] [] [])) (Some (alone (before [] space []))))
    ∷ (of_locale hebrew, amounts (signed (after rlm (space ++ rlm) []) (after (rlm ++ lrm ++ codes "-") (space ++ rlm) []) (after (rlm ++ lrm ++ codes "+") (space ++ rlm) [])) None)
    ∷ (of_locale turkish, amounts (alone (before [] [] [])) (Some (alone (before [] space []))))
    ∷ []

-- a negative amount in parentheses, the same with a space before the number
abbrev pub in_parentheses : List ℕ → PatternTexts
in_parentheses gap = signed (before [] gap []) (before (codes "(") gap (codes ")")) (before (codes "+") gap [])

abbrev pub sample_accounts : List (Identifier × AmountTexts)
sample_accounts =
    (of_locale english, amounts (in_parentheses []) (Some (in_parentheses space)))
    ∷ (of_locale turkish, amounts (in_parentheses []) (Some (in_parentheses space)))
    ∷ []

-- a symbol without a letter, and one of letters
abbrev pub sign : List ℕ → SymbolText
sign text = record { text = text; ends = record { first = false; last = false } }

abbrev pub letters : List ℕ → SymbolText
letters text = record { text = text; ends = record { first = true; last = true } }

abbrev pub sample_symbols : List (Identifier × SymbolText)
sample_symbols =
    (of_both (codes "EUR") german, sign euro)
    ∷ (of_both (codes "USD") german, sign (codes "$"))
    ∷ (of_both (codes "EUR") swiss, letters (codes "EUR"))
    ∷ (of_both (codes "EUR") english, sign euro)
    ∷ (of_both (codes "JPY") english, sign yen)
    ∷ (of_both (codes "USD") english, sign (codes "$"))
    ∷ (of_both (codes "EUR") hebrew, sign euro)
    ∷ (of_both (codes "EUR") turkish, sign euro)
    ∷ (of_both (codes "USD") turkish, sign (codes "$"))
    ∷ []

abbrev pub sample_fractions : List (Text × FractionInfo)
sample_fractions =
    (codes "CHF", record { standard = record { digits = 2; increment = MultiplesOf1 }; cash = record { digits = 2; increment = MultiplesOf5 } })
    ∷ (codes "JPY", record { standard = record { digits = 0; increment = MultiplesOf1 }; cash = record { digits = 0; increment = MultiplesOf1 } })
    ∷ (codes "KWD", record { standard = record { digits = 3; increment = MultiplesOf1 }; cash = record { digits = 3; increment = MultiplesOf1 } })
    ∷ []

abbrev pub sample_units : UnitsTables
sample_units = record {
  percents = sample_percents;
  currencies = sample_currencies;
  accounts = sample_accounts;
  symbols = sample_symbols;
  digits = sample_fractions;
}

-- ---- the book

-- parents without entries: locales are cut
abbrev pub sample_units_tables : BookTables
sample_units_tables = record {
  symbols = units_book_symbols;
  digits = (codes "latn", codes "0123456789") ∷ [];
  rules = [];
  short = [];
  long = [];
  parents = Some [];
  units = Some sample_units;
  plurals = None;
  signs = [];
}
