-- Values from outside that a wrong definition of the text does not survive: the tables of docs/plain-text.md.
use Rattle.std.proofs.Common.{◌≡◌, ℕ, List, [], ◌∷◌, ◌++◌, refl}
use Rattle.std.specs.Prelude.{codes}
use Rattle.icu_decimal_symbols.specs.declared.grouping_sizes.GroupingSizes.{GroupingSizes}
use Rattle.icu_decimal_symbols.specs.declared.options.GroupingStrategy.TheVariants.{Auto}
use Rattle.icu_decimal_grouping.proofs.KnownValues.{sizes_of}
use Rattle.writeable.specs.AnnotatedText.{AnnotatedText, Interval, annotated, bytes, opening, closing}
use Rattle.fixed_decimal.specs.declared.Sign.{Sign}
use Rattle.fixed_decimal.specs.declared.Sign.TheVariants.{None as NoSign, Negative, Positive}
use Rattle.icu_decimal_symbols.specs.Symbols.{SymbolStrings, english_strings}
use Rattle.icu_decimal_plain.specs.Affixes.{affixes_of, decimal_part, events_with_sign, prefix_events, suffix_events}
use Rattle.icu_decimal_plain.specs.PlainText.{Tables, fraction_events, fraction_text, integer_events, whole_text}

-- The affixes of a sign.

abbrev accounting : SymbolStrings
accounting = record {
  minus_sign_prefix = codes "(";
  minus_sign_suffix = codes ")";
  plus_sign_prefix = codes "+";
  plus_sign_suffix = [];
  decimal_separator = codes ".";
  grouping_separator = codes ",";
  numsys = codes "latn";
}

-- the text and the parts of a five with this sign
abbrev five_with : Sign → AnnotatedText
five_with sign = annotated (events_with_sign bytes (record { value = codes "5"; affixes = affixes_of accounting sign }))

no_sign : five_with NoSign ≡ record { text = codes "5"; parts = [] }
unfolding bytes opening closing
no_sign = refl

minus_sign : five_with Negative
    ≡ record { text = codes "(5)"; parts = record { start = 0; end = 1; part = decimal_part (codes "minusSign") } ∷ record { start = 2; end = 3; part = decimal_part (codes "minusSign") } ∷ [] }
unfolding bytes opening closing
minus_sign = refl

-- an empty suffix is no part
plus_sign : five_with Positive ≡ record { text = codes "+5"; parts = record { start = 0; end = 1; part = decimal_part (codes "plusSign") } ∷ [] }
unfolding bytes opening closing
plus_sign = refl

-- The text of a number, by its digits before and after the point.

abbrev pub latin_digits : List ℕ
latin_digits = codes "0123456789"

abbrev pub with_sizes : GroupingSizes → Tables
with_sizes sizes = record { symbols = record { strings = english_strings; grouping_sizes = sizes }; digits = latin_digits; strategy = Auto }

abbrev pub english : Tables
english = with_sizes (sizes_of 3 3 1)

four_digits : whole_text english (1 ∷ 2 ∷ 3 ∷ 4 ∷ []) ≡ codes "1,234"
unfolding lib.Utf8.encode
four_digits = refl

indic_seven : whole_text (with_sizes (sizes_of 3 2 1)) (1 ∷ 2 ∷ 3 ∷ 4 ∷ 5 ∷ 6 ∷ 7 ∷ []) ≡ codes "12,34,567"
unfolding lib.Utf8.encode
indic_seven = refl

-- zeros in front are digits like others
padded : whole_text english (0 ∷ 0 ∷ 0 ∷ 7 ∷ []) ≡ codes "0,007"
unfolding lib.Utf8.encode
padded = refl

with_fraction : whole_text english (2 ∷ 0 ∷ 0 ∷ 0 ∷ []) ++ fraction_text english (5 ∷ 0 ∷ []) ≡ codes "2,000.50"
unfolding lib.Utf8.encode
with_fraction = refl

-- no fraction digits, no separator
without_fraction : fraction_text english [] ≡ []
without_fraction = refl

-- the text and the parts of digits with a minus sign
abbrev negative : List ℕ → List ℕ → AnnotatedText
negative whole fraction =
    let affixes = affixes_of english_strings Negative in
    annotated (prefix_events affixes ++ ((integer_events english whole ++ fraction_events english fraction) ++ suffix_events affixes))

abbrev pub part_at : ℕ → ℕ → List ℕ → Interval
part_at start end value = record { start = start; end = end; part = decimal_part value }

all_parts : negative (9 ∷ 8 ∷ 7 ∷ 6 ∷ 5 ∷ 4 ∷ []) (3 ∷ 2 ∷ 1 ∷ [])
    ≡ record { text = codes "-987,654.321"; parts = part_at 0 1 (codes "minusSign") ∷ part_at 1 8 (codes "integer") ∷ part_at 4 5 (codes "group") ∷ part_at 8 9 (codes "decimal") ∷ part_at 9 12 (codes "fraction") ∷ [] }
unfolding bytes opening closing lib.Utf8.encode
all_parts = refl
