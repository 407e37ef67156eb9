-- What comes first where a call writes, exact forms without compact patterns, words of plural categories, and facts: those of include/legumeyet.h.
use Rattle.std.proofs.Common.{◌≡◌, ℕ, [], ◌∷◌, Some, None, Ok, Err, refl}
use Rattle.std.specs.Prelude.{codes, pos}
use lib.Utf8.{encode}
use Rattle.fixed_decimal.specs.Number.{Number}
use Rattle.fixed_decimal.specs.SignedValue.{SignedValue}
use Rattle.fixed_decimal.specs.declared.Sign.TheVariants as sign
use Rattle.fixed_decimal.specs.declared.SignDisplay.TheVariants.{Always}
use Rattle.icu_decimal.specs.PlainText.{Tables}
use Rattle.icu_decimal.specs.Symbols.{english_symbols}
use Rattle.icu_decimal.specs.declared.options.GroupingStrategy.TheVariants.{Auto}
use Rattle.icu_decimal_scientific.specs.declared.ExponentSign.TheVariants as exponent_sign
use Rattle.icu_decimal_scientific.specs.declared.ScientificNotation.TheVariants.{Scientific}
use Rattle.icu_plurals.specs.Reading.{rules_of}
use Rattle.icu_plurals.specs.Rules.{Rules}
use Rattle.icu_plurals.specs.declared.PluralCategory.TheVariants.{One, Other}
use Rattle.locale_numbers_formats.specs.Changed.{unchanged}
use Rattle.locale_numbers_formats.specs.declared.NumberOptions.{NumberOptions}
use Rattle.locale_numbers_formats.specs.declared.SignAsked.TheVariants.{Show}
use Rattle.locale_numbers_formats.specs.declared.TrailingZeros.TheVariants.{Trim}
use Rattle.locale_numbers_formatter.specs.ExactForms.{exact_format_text, exact_shown}
use Rattle.locale_numbers_formatter.specs.FormatText.{FormatTables, format_text, plain_tables, scientific_tables}
use Rattle.legumeyet_c_values.specs.Facts.{fact_numbered}
use Rattle.legumeyet_c_values.specs.Words.{usual}
use Rattle.legumeyet_c_values.specs.declared.CallError.TheVariants.{Closed, UnknownOption}
use Rattle.legumeyet_c.specs.HeldFormats.{HeldFormat, Plurals, Wording, held_format, in_numbers}
use Rattle.legumeyet_c.specs.Telling.{fact_in}
use Rattle.legumeyet_c.specs.Worded.{category_word, form_word, range_word}
use Rattle.legumeyet_c.specs.Writing.{asked_for, asked_of, range_asked_of}

abbrev english_tables : Tables
english_tables = record { symbols = english_symbols; digits = codes "0123456789"; strategy = Auto }

abbrev english : FormatTables
english = plain_tables english_tables

abbrev held : HeldFormat
held = held_format english None None usual

-- ---- what is asked

own_options : asked_of (Some held) [] ≡ Ok (asked_for (in_numbers english) usual)
own_options = refl

unknown_sign : asked_of (Some held) (pos 6 ∷ []) ≡ Err UnknownOption
unknown_sign = refl

-- a closed handle comes before unknown options
closed_first : asked_of None (pos 6 ∷ []) ≡ Err Closed
closed_first = refl

-- a word that is not known has to be 0
known_words : asked_of (Some held) (pos 0 ∷ pos 0 ∷ pos 0 ∷ pos 0 ∷ pos 0 ∷ pos 0 ∷ pos 0 ∷ pos 0 ∷ []) ≡ Ok (asked_for (in_numbers english) usual)
known_words = refl

later_word : asked_of (Some held) (pos 0 ∷ pos 0 ∷ pos 0 ∷ pos 0 ∷ pos 0 ∷ pos 0 ∷ pos 0 ∷ pos 0 ∷ pos 0 ∷ pos 0 ∷ pos 1 ∷ []) ≡ Err UnknownOption
later_word = refl

-- of scientific numbers they are of the significand: the formatter's own without words, and else those of the words
abbrev in_powers : NumberOptions → FormatTables
in_powers options = scientific_tables (record {
  settings = record { tables = english_tables; separator = codes "E"; exponents = english_tables };
  style = record { notation = Scientific; exponents = record { sign = exponent_sign.Auto; least_digits = 0 } };
  options = options;
})

abbrev trimmed : NumberOptions
trimmed = record usual { zeros = Trim }

abbrev held_powers : HeldFormat
held_powers = held_format (in_powers trimmed) None None unchanged

own_significand : asked_of (Some held_powers) [] ≡ Ok (asked_for (in_numbers (in_powers trimmed)) unchanged)
own_significand = refl

given_significand : asked_of (Some held_powers) (pos 3 ∷ []) ≡ Ok (asked_for (in_numbers (in_powers (record usual { sign = Show Always }))) unchanged)
given_significand = refl

zeroed_significand : asked_of (Some held_powers) (pos 0 ∷ []) ≡ Ok (asked_for (in_numbers (in_powers usual)) unchanged)
zeroed_significand = refl

unknown_of_significand : asked_of (Some held_powers) (pos 6 ∷ []) ≡ Err UnknownOption
unknown_of_significand = refl

-- ---- exact forms of plain numbers, and of scientific ones

exponent_zero : (value : SignedValue Number) → exact_format_text english (record { significand = value; exponent = 0 }) ≡ Some (format_text english value)
exponent_zero value = refl

exponent_three : (value : SignedValue Number) → exact_shown english (record { significand = value; exponent = 3 }) ≡ None
exponent_three value = refl

power_of_ten : (value : SignedValue Number) → exact_shown (in_powers usual) (record { significand = value; exponent = 0 }) ≡ None
power_of_ten value = refl

-- ---- words

-- ranges alone want rules
no_range : range_asked_of (Some held) [] ≡ Err UnknownOption
no_range = refl

closed_range : range_asked_of None (pos 6 ∷ []) ≡ Err Closed
closed_range = refl

-- ---- facts

decimal_separator : fact_in (in_numbers english) (fact_numbered 1) ≡ Some (codes ".")
decimal_separator = refl

ten_digits : fact_in (in_numbers english) (fact_numbered 7) ≡ Some (codes "0123456789")
unfolding encode
ten_digits = refl

no_currency : fact_in (in_numbers english) (fact_numbered 8) ≡ None
no_currency = refl

no_categories : fact_in (in_numbers english) (fact_numbered 11) ≡ None
no_categories = refl

no_fact : fact_in (in_numbers english) (fact_numbered 12) ≡ None
no_fact = refl
