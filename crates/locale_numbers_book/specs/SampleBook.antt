-- The tables of the sample book, written out.
-- Defined in docs/books.md, "The sample books".
-- Cited by the law `sample_book_is_known`, through Laws.antt.
use Rattle.std.specs.Prelude.{ℕ, ◌+◌, List, [], ◌∷◌, codes, map, Option, None, Some, option_map, option_to_list}
use Rattle.icu_locale_core.specs.Subtags.{Text}
use Rattle.icu_locale_core.specs.TagPreferences.{DataLocaleMeaning}
use Rattle.icu_decimal.specs.declared.plurals.PluralCategory.TheVariants.{One, Other}
use Rattle.icu_decimal.specs.Elements.{only_other, with_explicit_one, with_one}
use Rattle.icu_decimal.specs.Identifiers.{of_locale}
use Rattle.icu_decimal.specs.KeptEntries.{CompactTable, Patterns, TypePatterns, table_of}
use Rattle.icu_decimal.specs.Pattern.{literal, around}
use Rattle.icu_decimal.specs.Reading.{rules_of}
use Rattle.icu_decimal.specs.Rules.{Rules}
use Rattle.icu_decimal.specs.Symbols.{Symbols, english_symbols}
use Rattle.locale_numbers_book.specs.Book.{BookTables}

-- ---- locales

abbrev pub english : DataLocaleMeaning
english = record { language = codes "en"; script = None; region = None; variant = None; subdivision = None }

abbrev pub egyptian : DataLocaleMeaning
egyptian = record { language = codes "ar"; script = None; region = Some (codes "EG"); variant = None; subdivision = None }

-- ---- symbols and digits

-- the Arabic separators in UTF-8: U+066B and U+066C
abbrev pub arabic_symbols : Symbols
arabic_symbols = record {
  strings = record {
    minus_sign_prefix = codes "-";
    minus_sign_suffix = [];
    plus_sign_prefix = codes "+";
    plus_sign_suffix = [];
    decimal_separator = 0xD9 ∷ 0xAB ∷ [];
    grouping_separator = 0xD9 ∷ 0xAC ∷ [];
    numsys = codes "arab";
  };
  grouping_sizes = record { primary = 3; secondary = 3; min_grouping = 1 };
}

-- ten digits of which this is the first
abbrev pub ten_from : ℕ → List ℕ
ten_from first = map (λ digit. first + digit) (0 ∷ 1 ∷ 2 ∷ 3 ∷ 4 ∷ 5 ∷ 6 ∷ 7 ∷ 8 ∷ 9 ∷ [])

-- the zeros are 0, U+0660 and U+0E50
abbrev pub sample_digits : List (Text × List ℕ)
sample_digits = (codes "latn", codes "0123456789") ∷ (codes "arab", ten_from 0x660) ∷ (codes "thai", ten_from 0xE50) ∷ []

-- ---- plural rules and patterns of English

abbrev pub english_rules : Option Rules
english_rules = rules_of ((One, codes "i = 1 and v = 0") ∷ (Other, []) ∷ [])

-- a text after the number
abbrev pub behind : List ℕ → Patterns
behind text = only_other (around [] text)

-- a type with itself as exponent
abbrev pub typed : ℕ → Patterns → TypePatterns
typed log10_type patterns = record { log10_type = log10_type; exponent = log10_type; patterns = patterns }

abbrev pub english_short : CompactTable
english_short = table_of (typed 3 (behind (codes "K")) ∷ typed 6 (behind (codes "M")) ∷ [])

-- one thousand has no number before it
abbrev pub english_long : CompactTable
english_long = table_of (
    typed 3 (with_explicit_one (behind (codes "-thousands")) (Some (literal (codes "a thousand"))))
    ∷ typed 6 (with_one (behind (codes "-millions")) (Some (around [] (codes "-million"))))
    ∷ [])

-- ---- the book

abbrev pub sample_tables : BookTables
sample_tables = record {
  symbols = (of_locale english, english_symbols) ∷ (of_locale egyptian, arabic_symbols) ∷ [];
  digits = sample_digits;
  rules = option_to_list (option_map {T = Rules} {U = DataLocaleMeaning × Rules} (λ rules. (english, rules)) english_rules);
  short = (of_locale english, english_short) ∷ [];
  long = (of_locale english, english_long) ∷ [];
  parents = None;
  units = None;
  plurals = None;
  signs = [];
}
