-- Values from outside that a wrong definition does not survive: the tables of docs/units.md.
use Rattle.std.proofs.Common.{◌≡◌, ℕ, Bool, ◌*◌, ◌^◌, true, false, List, [], ◌∷◌, ◌++◌, None, Some, refl}
use Rattle.std.specs.Prelude.{codes}
use Rattle.std.specs.Str.{chars}
use Rattle.writeable.specs.AnnotatedText.{AnnotatedText, Interval, annotated, bytes, closing, opening}
use Rattle.fixed_decimal.specs.Number.{Number}
use Rattle.fixed_decimal.specs.SignedValue.{SignedValue}
use Rattle.fixed_decimal.specs.declared.Sign.{Sign}
use Rattle.fixed_decimal.specs.declared.Sign.TheVariants.{None as NoSign, Negative, Positive}
use Rattle.icu_decimal_symbols.specs.Symbols.{SymbolStrings, english_strings, english_symbols}
use Rattle.icu_decimal_symbols.specs.declared.options.GroupingStrategy.TheVariants.{Auto}
use Rattle.icu_decimal_plain.specs.Affixes.{decimal_part}
use Rattle.icu_dimension_affixes.specs.UnitPatterns.{AffixesText, PatternChoice, PatternTexts, chosen}
use Rattle.icu_dimension_affixes.specs.UnitPlaces.{placeholder, places}
use Rattle.icu_dimension_affixes.specs.UnitReading.{is_unit_readable_by, reader_texts}
use Rattle.icu_dimension_affixes.specs.UnitText.{UnitName, UnitSettings, sign_pair, text_between, unit_decimal_events, unit_decimal_text, unit_formatted}
use Rattle.icu_dimension_affixes.specs.declared.affixes.UnitPlace.TheVariants.{Before, After}
use Rattle.icu_dimension_affixes.specs.declared.patterns.LetterEnds.{LetterEnds}
use Rattle.icu_dimension_affixes.specs.declared.unit.UnitKind.TheVariants.{Currency, Percent}

-- U+00A0, U+2212 and U+20AC, in UTF-8
abbrev pub no_break_space : List ℕ
no_break_space = 194 ∷ 160 ∷ []

abbrev pub minus : List ℕ
minus = 226 ∷ 136 ∷ 146 ∷ []

abbrev pub euro : List ℕ
euro = 226 ∷ 130 ∷ 172 ∷ []

-- affixes with the unit before the number, and after it
abbrev pub unit_before : List ℕ → List ℕ → List ℕ → AffixesText
unit_before first second third = record { place = Before; first = first; second = second; third = third }

abbrev pub unit_after : List ℕ → List ℕ → List ℕ → AffixesText
unit_after first second third = record { place = After; first = first; second = second; third = third }

-- a pattern with no affixes of a sign's own, and with some
abbrev pub alone : AffixesText → PatternTexts
alone unsigned = record { unsigned = unsigned; minus = None; plus = None }

abbrev pub with_own : AffixesText → AffixesText → AffixesText → PatternTexts
with_own unsigned minus plus = record { unsigned = unsigned; minus = Some minus; plus = Some plus }

abbrev pub written_with : SymbolStrings → PatternTexts → UnitName → UnitSettings
written_with strings pattern unit = record {
  tables = record { symbols = record { strings = strings; grouping_sizes = english_symbols.grouping_sizes }; digits = codes "0123456789"; strategy = Auto };
  pattern = pattern;
  unit = unit;
}

abbrev pub percent : UnitName
percent = record { kind = Percent; text = codes "%" }

abbrev pub currency : List ℕ → UnitName
currency text = record { kind = Currency; text = text }

-- a number without its sign, given as its text, between the affixes of the sign
abbrev row : SymbolStrings → PatternTexts → UnitName → Sign → List ℕ → List ℕ
row strings pattern unit sign inner = text_between (sign_pair (written_with strings pattern unit) sign) inner

abbrev in_english : PatternTexts → List ℕ → Sign → List ℕ → List ℕ
in_english pattern text sign inner = row english_strings pattern (currency text) sign inner

-- Percents: English, Turkish, Basque, German.

percent_english : row english_strings (alone (unit_after [] [] [])) percent NoSign (codes "12.5") ≡ codes "12.5%"
percent_english = refl

percent_turkish : row english_strings (alone (unit_before [] [] [])) percent Negative (codes "12,5") ≡ codes "-%12,5"
percent_turkish = refl

percent_basque : row (record english_strings { minus_sign_prefix = minus }) (alone (unit_before [] no_break_space [])) percent Negative (codes "12,5")
    ≡ minus ++ (codes "%" ++ (no_break_space ++ codes "12,5"))
percent_basque = refl

percent_german : row english_strings (alone (unit_after [] no_break_space [])) percent NoSign (codes "0,5") ≡ codes "0,5" ++ (no_break_space ++ codes "%")
percent_german = refl

-- Amounts: English with a symbol and with a code.

abbrev english_standard : PatternTexts
english_standard = alone (unit_before [] [] [])

abbrev english_beside_letter : PatternTexts
english_beside_letter = alone (unit_before [] no_break_space [])

euros : in_english english_standard euro NoSign (codes "1,234.50") ≡ euro ++ codes "1,234.50"
euros = refl

francs : in_english english_beside_letter (codes "CHF") Negative (codes "1,234.50") ≡ codes "-CHF" ++ (no_break_space ++ codes "1,234.50")
francs = refl

-- The sign inside: Swiss German, Dutch; after the number and after the unit: Western Frisian, Luyia.

abbrev swiss_german : PatternTexts
swiss_german = with_own (unit_before [] no_break_space []) (unit_before [] (codes "-") []) (unit_before [] (codes "+") [])

swiss_german_none : in_english swiss_german (codes "CHF") NoSign (codes "5.00") ≡ codes "CHF" ++ (no_break_space ++ codes "5.00")
swiss_german_none = refl

swiss_german_minus : in_english swiss_german (codes "CHF") Negative (codes "5.00") ≡ codes "CHF-5.00"
swiss_german_minus = refl

dutch_minus : in_english (with_own (unit_before [] no_break_space []) (unit_before [] (no_break_space ++ codes "-") []) (unit_before [] (no_break_space ++ codes "+") [])) (codes "US$") Negative (codes "5,00")
    ≡ codes "US$" ++ (no_break_space ++ codes "-5,00")
dutch_minus = refl

frisian_minus : in_english (with_own (unit_before [] no_break_space []) (unit_before [] no_break_space (codes "-")) (unit_before [] no_break_space (codes "+"))) (codes "US$") Negative (codes "5,00")
    ≡ codes "US$" ++ (no_break_space ++ codes "5,00-")
frisian_minus = refl

luyia_minus : in_english (with_own (unit_before [] [] []) (unit_before [] (codes "-" ++ no_break_space) []) (unit_before [] (codes "+" ++ no_break_space) [])) (codes "US$") Negative (codes "5.00")
    ≡ codes "US$-" ++ (no_break_space ++ codes "5.00")
luyia_minus = refl

-- Accounting: English and Dutch in parentheses, German not.

abbrev english_accounting : PatternTexts
english_accounting = with_own (unit_before [] [] []) (unit_before (codes "(") [] (codes ")")) (unit_before (codes "+") [] [])

accounting_minus : in_english english_accounting (codes "$") Negative (codes "5.00") ≡ codes "($5.00)"
accounting_minus = refl

accounting_plus : in_english english_accounting (codes "$") Positive (codes "5.00") ≡ codes "+$5.00"
accounting_plus = refl

accounting_dutch : in_english (with_own (unit_before [] no_break_space []) (unit_before (codes "(") no_break_space (codes ")")) (unit_before (codes "+") no_break_space [])) (codes "US$") Negative (codes "5,00")
    ≡ codes "(US$" ++ (no_break_space ++ codes "5,00)")
accounting_dutch = refl

accounting_german : in_english (alone (unit_after [] no_break_space [])) (codes "$") Negative (codes "5,00") ≡ codes "-5,00" ++ (no_break_space ++ codes "$")
accounting_german = refl

-- The pattern: a dollar sign next to the number is no letter, the last one of a code is.

abbrev english_patterns : PatternChoice
english_patterns = record { standard = english_standard; alpha_next_to_number = Some english_beside_letter }

abbrev first_alone : LetterEnds
first_alone = record { first = true; last = false }

abbrev both_ends : LetterEnds
both_ends = record { first = true; last = true }

dollars_of_the_states : chosen english_patterns first_alone ≡ english_standard
dollars_of_the_states = refl

code_of_francs : chosen english_patterns both_ends ≡ english_beside_letter
code_of_francs = refl

-- after the number the first character counts
first_counts : chosen (record { standard = alone (unit_after [] [] []); alpha_next_to_number = Some (alone (unit_after [] no_break_space [])) }) first_alone ≡ alone (unit_after [] no_break_space [])
first_counts = refl

one_pattern : chosen (record { standard = english_standard; alpha_next_to_number = None }) both_ends ≡ english_standard
one_pattern = refl

-- How often the place is there.

no_place : places (codes "()") ≡ 0
no_place = refl

one_place : places (codes "(" ++ placeholder) ≡ 1
one_place = refl

-- as in the pattern of three places for names
two_places : places (placeholder ++ placeholder) ≡ 2
two_places = refl

-- The text and the parts of a five.

five : Sign → SignedValue Number
five sign = record { sign = sign; absolute = record { count = 5 * 10 ^ 32768; low = 32768; high = 32768 } }

abbrev part_at : ℕ → ℕ → List ℕ → Interval
part_at start end value = record { start = start; end = end; part = decimal_part value }

abbrev currency_at : ℕ → ℕ → Interval
currency_at start end = record { start = start; end = end; part = record { category = codes "dimension"; value = codes "currency" } }

abbrev annotated_five : PatternTexts → List ℕ → Sign → AnnotatedText
annotated_five pattern text sign =
    annotated (unit_decimal_events (unit_formatted (written_with english_strings pattern (currency text)) (five sign)))

-- the sign of the symbols is outside
five_dollars : annotated_five english_standard (codes "$") Negative
    ≡ record { text = codes "-$5"; parts = part_at 0 1 (codes "minusSign") ∷ currency_at 1 2 ∷ part_at 2 3 (codes "integer") ∷ [] }
unfolding five bytes opening closing lib.Utf8.encode
five_dollars = refl

-- an affix of the sign's own is its part, with the unit inside
five_francs : annotated_five swiss_german (codes "CHF") Negative
    ≡ record { text = codes "CHF-5"; parts = part_at 0 4 (codes "minusSign") ∷ currency_at 0 3 ∷ part_at 4 5 (codes "integer") ∷ [] }
unfolding five bytes opening closing lib.Utf8.encode
five_francs = refl

five_in_parentheses : annotated_five english_accounting (codes "$") Negative
    ≡ record { text = codes "($5)"; parts = part_at 0 2 (codes "minusSign") ∷ currency_at 1 2 ∷ part_at 2 3 (codes "integer") ∷ part_at 3 4 (codes "minusSign") ∷ [] }
unfolding five bytes opening closing lib.Utf8.encode
five_in_parentheses = refl

five_text : unit_decimal_text (written_with english_strings english_accounting (currency (codes "$"))) (five Negative) ≡ codes "($5)"
unfolding five lib.Utf8.encode
five_text = refl

-- Readable: English with the sign of the euro; not with a digit in the unit, nor where a minus sign is written as none.

abbrev readable : PatternTexts → List ℕ → Bool
readable pattern text = is_unit_readable_by (reader_texts (written_with english_strings pattern (currency text)))

euros_are_readable : readable english_accounting euro ≡ true
unfolding chars
euros_are_readable = refl

digit_in_the_unit : readable english_standard (codes "m2") ≡ false
unfolding chars
digit_in_the_unit = refl

signs_alike : readable (with_own (unit_before [] [] []) (unit_before [] [] []) (unit_before (codes "+") [] [])) (codes "$") ≡ false
unfolding chars
signs_alike = refl

-- without a unit the affixes of the symbols tell the signs apart
no_unit : readable english_standard [] ≡ true
unfolding chars
no_unit = refl
