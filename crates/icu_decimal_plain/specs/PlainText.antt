-- The text of a number and its parts: digits in groups, decimal separator, fraction, and the affixes of the sign.
-- After UTS 35, part 3 (numbers); docs/plain-text.md, "The text of a number", and docs/formatters.md, "Parts".
-- Cited by the calls of `DecimalTables`, `FormattedDecimal` and `FormattedUnsignedDecimal`, and by the law of the text.
use Rattle.std.specs.Prelude.{ℕ, List, [], ◌∷◌, ◌++◌, map, flat_map, slice_index, codes, encode_utf8, Option, None, Some}
use Rattle.writeable.specs.AnnotatedText.{Event, bytes, opening, closing}
use Rattle.fixed_decimal.specs.Number.{Number, whole_digits, fraction_digits}
use Rattle.fixed_decimal.specs.SignedValue.{SignedValue}
use Rattle.icu_decimal_symbols.specs.declared.options.GroupingStrategy.{GroupingStrategy}
use Rattle.icu_decimal_symbols.specs.Symbols.{Symbols}
use Rattle.icu_decimal_plain.specs.Affixes.{AffixTexts, WithSign, affixes_of, as_part, decimal_part, events_with_sign}
use Rattle.icu_decimal_grouping.specs.Grouper.{groups, joined}

-- what numbers are written with: symbols, the ten characters from zero up, and when separators are written
pub record Tables : Type 0 where
  pub symbols : Symbols
  pub digits : List ℕ
  pub strategy : GroupingStrategy

-- a number without a sign, and what it is written with
pub record PlainNumber : Type 0 where
  pub number : Number
  pub tables : Tables

-- lists one after the other
abbrev pub chained : {A : Type 0} → List (List A) → List A
chained lists = flat_map (λ list. list) lists

-- digits, each as its own list, in groups with the separator between each two, as one list
abbrev pub grouped : {A : Type 0} → Tables → List A → List (List A) → List A
grouped t separator digits = chained (joined (separator ∷ []) (groups t.strategy t.symbols.grouping_sizes digits))

-- ---- the text

-- a digit by a table of ten characters, in UTF-8
abbrev pub digit_text : List ℕ → ℕ → List ℕ
digit_text table d = encode_utf8 (slice_index table d)

-- the integer digits, with the grouping separator between each two groups
abbrev pub whole_text : Tables → List ℕ → List ℕ
whole_text t ds = grouped t t.symbols.strings.grouping_separator (map (digit_text t.digits) ds)

-- the fraction digits after the decimal separator; without fraction digits no separator either
abbrev pub fraction_text : Tables → List ℕ → List ℕ
fraction_text t [] = []
fraction_text t (d ∷ ds) = t.symbols.strings.decimal_separator ++ chained (map (digit_text t.digits) (d ∷ ds))

-- a number without a sign
abbrev pub unsigned_text : Tables → Number → List ℕ
unsigned_text t v = whole_text t (whole_digits v) ++ fraction_text t (fraction_digits v)

abbrev pub prefix_text : Option AffixTexts → List ℕ
prefix_text None = []
prefix_text (Some affixes) = affixes.prefix

abbrev pub suffix_text : Option AffixTexts → List ℕ
suffix_text None = []
suffix_text (Some affixes) = affixes.suffix

-- a number between the affixes of its sign
abbrev pub decimal_text : Tables → SignedValue Number → List ℕ
decimal_text t d =
    let affixes = affixes_of t.symbols.strings d.sign in prefix_text affixes ++ (unsigned_text t d.absolute ++ suffix_text affixes)

-- ---- the text with its parts

abbrev pub digit_events : List ℕ → ℕ → List Event
digit_events table d = bytes (digit_text table d)

-- the part `integer`, and inside it each separator as the part `group`
abbrev pub whole_events : Tables → List ℕ → List Event
whole_events t ds =
    grouped t (as_part (decimal_part (codes "group")) t.symbols.strings.grouping_separator) (map (digit_events t.digits) ds)

abbrev pub integer_events : Tables → List ℕ → List Event
integer_events t ds = opening (decimal_part (codes "integer")) ++ (whole_events t ds ++ closing)

-- the parts `decimal` and `fraction`
abbrev pub fraction_events : Tables → List ℕ → List Event
fraction_events t [] = []
fraction_events t (d ∷ ds) =
    as_part (decimal_part (codes "decimal")) t.symbols.strings.decimal_separator
    ++ (opening (decimal_part (codes "fraction")) ++ (chained (map (digit_events t.digits) (d ∷ ds)) ++ closing))

abbrev pub unsigned_events : PlainNumber → List Event
unsigned_events p =
    integer_events p.tables (whole_digits p.number) ++ fraction_events p.tables (fraction_digits p.number)

-- what a decimal is written as
abbrev pub formatted : Tables → SignedValue Number → WithSign PlainNumber
formatted t d = record { value = record { number = d.absolute; tables = t }; affixes = affixes_of t.symbols.strings d.sign }

abbrev pub decimal_events : WithSign PlainNumber → List Event
decimal_events s = events_with_sign unsigned_events s
