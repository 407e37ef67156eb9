-- Values from outside that a wrong definition does not survive: the rows of docs/words.md.
use Rattle.std.proofs.Common.{◌≡◌, ℕ, ◌*◌, ◌^◌, true, false, List, [], ◌∷◌, ◌++◌, Some, refl, unwrap_or}
use Rattle.std.specs.Prelude.{codes}
use Rattle.std.specs.Str.{chars}
use Rattle.writeable.specs.AnnotatedText.{Interval, annotated, bytes, closing, opening}
use Rattle.fixed_decimal.specs.Number.{Number}
use Rattle.fixed_decimal.specs.SignedValue.{SignedValue}
use Rattle.fixed_decimal.specs.declared.Sign.{Sign}
use Rattle.fixed_decimal.specs.declared.Sign.TheVariants.{None as NoSign, Negative}
use Rattle.icu_decimal_symbols.specs.Symbols.{SymbolStrings, english_strings, english_symbols}
use Rattle.icu_decimal_symbols.specs.declared.options.GroupingStrategy.TheVariants.{Auto}
use Rattle.icu_decimal_plain.specs.Affixes.{decimal_part}
use Rattle.icu_decimal_plurals.specs.Reading.{rules_of}
use Rattle.icu_decimal_plurals.specs.Rules.{Rules, no_rules}
use Rattle.icu_decimal_plurals.specs.declared.category.PluralCategory.{PluralCategory}
use Rattle.icu_decimal_plurals.specs.declared.category.PluralCategory.TheVariants.{Zero, One, Two, Few, Many}
use Rattle.icu_dimension_words.specs.WordSides.{side_events}
use Rattle.icu_dimension_words.specs.Words.{Pair, Words, around, bare, only_other, with_few, with_many, with_one, with_two}
use Rattle.icu_dimension_words.specs.WordsReading.{is_words_readable_by}
use Rattle.icu_dimension_words.specs.WordsText.{WordSettings, kind_part, words_events, words_formatted, words_text}
use Rattle.icu_dimension_words.specs.declared.word.WordKind.{WordKind}
use Rattle.icu_dimension_words.specs.declared.word.WordKind.TheVariants.{Unit, Currency}

-- so many tenths or hundredths, and whole numbers, with the places shown
abbrev shown : Sign → ℕ → ℕ → ℕ → SignedValue Number
shown sign digits low high = record { sign = sign; absolute = record { count = digits * 10 ^ low; low = low; high = high } }

abbrev one : Sign → SignedValue Number
one sign = shown sign 1 32768 32768

abbrev five : Sign → SignedValue Number
five sign = shown sign 5 32768 32768

abbrev one_point_zero : SignedValue Number
one_point_zero = shown NoSign 10 32767 32768

abbrev zero_one : SignedValue Number
zero_one = shown NoSign 1 32768 32769

abbrev hundredths : Sign → ℕ → ℕ → SignedValue Number
hundredths sign digits high = shown sign digits 32766 high

abbrev after : List ℕ → Pair
after text = record { before = []; after = text }

abbrev rules_in : List (PluralCategory × List ℕ) → Rules
rules_in given = unwrap_or (rules_of given) no_rules

abbrev settings : SymbolStrings → List (PluralCategory × List ℕ) → Words → WordKind → WordSettings
settings strings given words kind = record {
  tables = record { symbols = record { strings = strings; grouping_sizes = english_symbols.grouping_sizes }; digits = codes "0123456789"; strategy = Auto };
  rules = rules_in given;
  words = words;
  kind = kind;
}

-- ---- English

abbrev english_rules : List (PluralCategory × List ℕ)
english_rules = (One, codes "i = 1 and v = 0") ∷ []

abbrev kilometers : WordSettings
kilometers = settings english_strings english_rules (with_one (only_other (after (codes " kilometers"))) (Some (around (after (codes " kilometer"))))) Unit

one_kilometer : words_text kilometers (one NoSign) ≡ codes "1 kilometer"
unfolding lib.Utf8.encode
one_kilometer = refl

five_kilometers : words_text kilometers (five NoSign) ≡ codes "5 kilometers"
unfolding lib.Utf8.encode
five_kilometers = refl

minus_one_kilometer : words_text kilometers (one Negative) ≡ codes "-1 kilometer"
unfolding lib.Utf8.encode
minus_one_kilometer = refl

one_point_zero_kilometers : words_text kilometers one_point_zero ≡ codes "1.0 kilometers"
unfolding lib.Utf8.encode
one_point_zero_kilometers = refl

short_kilometers : words_text (settings english_strings english_rules (only_other (after (codes " km"))) Unit) (one NoSign) ≡ codes "1 km"
unfolding lib.Utf8.encode
short_kilometers = refl

abbrev dollars : WordSettings
dollars = settings english_strings english_rules (with_one (only_other (after (codes " US dollars"))) (Some (around (after (codes " US dollar"))))) Currency

one_dollar : words_text dollars (hundredths NoSign 100 32768) ≡ codes "1.00 US dollars"
unfolding lib.Utf8.encode
one_dollar = refl

many_dollars : words_text dollars (hundredths NoSign 123450 32771) ≡ codes "1,234.50 US dollars"
unfolding lib.Utf8.encode
many_dollars = refl

minus_five_dollars : words_text dollars (hundredths Negative 500 32768) ≡ codes "-5.00 US dollars"
unfolding lib.Utf8.encode
minus_five_dollars = refl

-- ---- Swahili, where the words are before the number

abbrev swahili : WordSettings
swahili = settings english_strings english_rules (only_other (record { before = codes "dola za Marekani "; after = [] })) Currency

minus_in_swahili : words_text swahili (hundredths Negative 500 32768) ≡ codes "dola za Marekani -5.00"
unfolding lib.Utf8.encode
minus_in_swahili = refl

-- ---- parts

abbrev part_at : ℕ → ℕ → List ℕ → Interval
part_at start end value = record { start = start; end = end; part = decimal_part value }

kilometer_parts : annotated (words_events (words_formatted kilometers (one Negative)))
    ≡ record { text = codes "-1 kilometer"; parts = part_at 0 1 (codes "minusSign") ∷ part_at 1 2 (codes "integer") ∷ record { start = 3; end = 12; part = kind_part Unit } ∷ [] }
unfolding bytes opening closing chars side_events lib.Utf8.encode
kilometer_parts = refl

-- ---- Polish

abbrev polish_strings : SymbolStrings
polish_strings = record english_strings { decimal_separator = codes ","; grouping_separator = 194 ∷ 160 ∷ [] }

abbrev polish_rules : List (PluralCategory × List ℕ)
polish_rules =
    (One, codes "i = 1 and v = 0") ∷ (Few, codes "v = 0 and i % 10 = 2..4 and i % 100 != 12..14")
    ∷ (Many, codes "v = 0 and i != 1 and i % 10 = 0..1 or v = 0 and i % 10 = 5..9 or v = 0 and i % 100 = 12..14") ∷ []

-- U+0144 and U+00F3
abbrev polish_dollars : WordSettings
polish_dollars = settings polish_strings polish_rules (only_other (after (codes " dolara ameryka" ++ (197 ∷ 132 ∷ codes "skiego")))) Currency

polish_one : words_text polish_dollars (hundredths NoSign 100 32768) ≡ codes "1,00 dolara ameryka" ++ (197 ∷ 132 ∷ codes "skiego")
unfolding lib.Utf8.encode
polish_one = refl

abbrev polish_kilometers : WordSettings
polish_kilometers =
    settings polish_strings polish_rules
    (with_many (with_few (with_one (only_other (after (codes " kilometra"))) (Some (around (after (codes " kilometr"))))) (Some (after (codes " kilometry")))) (Some (after (codes " kilometr" ++ (195 ∷ 179 ∷ codes "w"))))) Unit

polish_five : words_text polish_kilometers (five NoSign) ≡ codes "5 kilometr" ++ (195 ∷ 179 ∷ codes "w")
unfolding lib.Utf8.encode
polish_five = refl

polish_two : words_text polish_kilometers (shown NoSign 2 32768 32768) ≡ codes "2 kilometry"
unfolding lib.Utf8.encode
polish_two = refl

-- ---- texts without the number: Arabic and Danish

-- U+0645 U+062A U+0631, and U+0623 U+0645 U+062A U+0627 U+0631
abbrev meter : List ℕ
meter = 217 ∷ 133 ∷ 216 ∷ 170 ∷ 216 ∷ 177 ∷ []

abbrev few_meters : List ℕ
few_meters = 216 ∷ 163 ∷ 217 ∷ 133 ∷ 216 ∷ 170 ∷ 216 ∷ 167 ∷ 216 ∷ 177 ∷ []

-- U+200E before the sign
abbrev arabic_strings : SymbolStrings
arabic_strings = record english_strings { minus_sign_prefix = 226 ∷ 128 ∷ 142 ∷ codes "-"; plus_sign_prefix = 226 ∷ 128 ∷ 142 ∷ codes "+" }

abbrev arabic : Words → WordSettings
arabic words = settings arabic_strings ((Zero, codes "n = 0") ∷ (One, codes "n = 1") ∷ (Two, codes "n = 2") ∷ (Few, codes "n % 100 = 3..10") ∷ (Many, codes "n % 100 = 11..99") ∷ []) words Unit

abbrev arabic_meters : WordSettings
arabic_meters = arabic (with_few (with_one (only_other (after (codes " " ++ meter))) (Some (bare meter))) (Some (after (codes " " ++ few_meters))))

arabic_one : words_text arabic_meters (one NoSign) ≡ meter
unfolding lib.Utf8.encode
arabic_one = refl

arabic_five : words_text arabic_meters (five NoSign) ≡ codes "5 " ++ few_meters
unfolding lib.Utf8.encode
arabic_five = refl

arabic_minus_one : words_text arabic_meters (one Negative) ≡ (226 ∷ 128 ∷ 142 ∷ []) ++ (codes "-1 " ++ meter)
unfolding lib.Utf8.encode
arabic_minus_one = refl

arabic_one_point_zero : words_text arabic_meters one_point_zero ≡ codes "1.0 " ++ meter
unfolding lib.Utf8.encode
arabic_one_point_zero = refl

arabic_zero_one : words_text arabic_meters zero_one ≡ codes "01 " ++ meter
unfolding lib.Utf8.encode
arabic_zero_one = refl

abbrev danish : WordSettings
danish = settings polish_strings ((One, codes "n = 1 or t != 0 and i = 0,1") ∷ []) (with_one (only_other (after (codes " mil pr. gallon"))) (Some (bare (codes "mil pr. gallon")))) Unit

danish_one : words_text danish (one NoSign) ≡ codes "mil pr. gallon"
unfolding lib.Utf8.encode
danish_one = refl

danish_half : words_text danish (shown NoSign 5 32767 32768) ≡ codes "0,5 mil pr. gallon"
unfolding lib.Utf8.encode
danish_half = refl

-- ---- readable: not where a digit may be of the number or of the words, nor where a text without the number is twice

english_is_readable : is_words_readable_by kilometers ≡ true
unfolding chars
english_is_readable = refl

arabic_is_readable : is_words_readable_by arabic_meters ≡ true
unfolding chars
arabic_is_readable = refl

danish_is_readable : is_words_readable_by danish ≡ true
unfolding chars
danish_is_readable = refl

digit_in_front : is_words_readable_by (settings english_strings english_rules (with_one (only_other (after (codes " km"))) (Some (around (record { before = codes "1"; after = codes " km" })))) Unit) ≡ false
unfolding chars
digit_in_front = refl

bare_with_a_number : is_words_readable_by (settings english_strings english_rules (with_one (only_other (after (codes " km"))) (Some (bare (codes "5 km")))) Unit) ≡ false
unfolding chars
bare_with_a_number = refl

bare_twice : is_words_readable_by (arabic (with_two (with_one (only_other (after (codes " " ++ meter))) (Some (bare meter))) (Some (bare meter)))) ≡ false
unfolding chars
bare_twice = refl
