-- Laws of lenient reading, over the definitions alone.
-- Defined in docs/reading.md, "Laws of lenient reading".
-- Cited by the functions of `laws`.
use Rattle.std.specs.Prelude.{◌≡◌, ◌↔◌, ◌⊎◌, ℕ, true, List}
use Rattle.std.specs.Str.{IsUtf8}
use Rattle.fixed_decimal.specs.Number.{Number}
use Rattle.fixed_decimal.specs.SignedEquality.{are_equal_decimals}
use Rattle.fixed_decimal.specs.SignedValue.{SignedValue}
use Rattle.fixed_decimal.specs.TextLaws.{IsDecimal}
use Rattle.icu_decimal_symbols.specs.declared.options.GroupingStrategy.{GroupingStrategy}
use Rattle.icu_decimal_symbols.specs.declared.options.GroupingStrategy.TheVariants.{Never, Always}
use Rattle.icu_decimal_plain.specs.PlainText.{Tables, decimal_text}
use Rattle.icu_decimal_reading.specs.DecimalOfText.{decimal, not_written, unreadable}
use Rattle.icu_decimal_reading.specs.PlainReading.{plain_reading}
use Rattle.icu_decimal_reading.specs.Readable.{is_readable_by}
use Rattle.icu_decimal_reading.specs.ReadingLaws.{AreTables}
use Rattle.icu_decimal_lenient.specs.Folding.{folded_alike, folded_text}
use Rattle.icu_decimal_lenient.specs.LenientReading.{HasNeither, HasNoTyped, IsAmbiguous, IsTypedText, IsUnreadable, is_leniently_readable_by, lenient_reading, reading_by_both}
pub use Rattle.icu_decimal_lenient.specs.LenientReading.{under}

-- under another grouping, of which groups begin with the first digit before them
abbrev pub grouped_as : GroupingStrategy → Tables → Tables
grouped_as strategy t = record { symbols = record { strings = t.symbols.strings; grouping_sizes = record t.symbols.grouping_sizes { min_grouping = 1 } }; digits = t.digits; strategy = strategy }

-- each text of a decimal is one without groups or one with all of them
abbrev pub TwoGroupingsAreEnough : Type 0
TwoGroupingsAreEnough = (t : Tables) (v : SignedValue Number)
    → (decimal_text t v ≡ decimal_text (grouped_as Never t) v) ⊎ (decimal_text t v ≡ decimal_text (grouped_as Always t) v)

-- under two groupings no two decimals share a text
abbrev pub GroupingsHaveOneDecimal : Type 0
GroupingsHaveOneDecimal = (t : Tables) (one other : GroupingStrategy) (a b : SignedValue Number)
    → AreTables t → is_readable_by t ≡ true → IsDecimal a → IsDecimal b
    → decimal_text (under one t) a ≡ decimal_text (under other t) b → a ≡ b

-- under readable tables the fold of a decimal's text is its text with the folded symbols, under the same grouping
abbrev pub FoldOfTextIsText : Type 0
FoldOfTextIsText = (t : Tables) (v : SignedValue Number) → AreTables t → is_readable_by t ≡ true → IsDecimal v
    → folded_text t.digits (decimal_text t v) ≡ decimal_text (folded_alike t) v

-- what is read exactly is read leniently as the same decimal
abbrev pub ExactIsLenient : Type 0
ExactIsLenient = (t : Tables) (text : List ℕ) (v : SignedValue Number) → plain_reading t text ≡ decimal v → lenient_reading t text ≡ decimal v

-- and so is what is read exactly under another grouping
abbrev pub EachGroupingIsLenient : Type 0
EachGroupingIsLenient = (t : Tables) (strategy : GroupingStrategy) (text : List ℕ) (v : SignedValue Number)
    → AreTables t → IsUtf8 text → is_leniently_readable_by t ≡ true
    → plain_reading (under strategy t) text ≡ decimal v → lenient_reading t text ≡ decimal v

-- what is read leniently is a text of that decimal: the formatter's own, or once it is folded
abbrev pub LenientIsTyped : Type 0
LenientIsTyped = (t : Tables) (text : List ℕ) (v : SignedValue Number) → AreTables t → lenient_reading t text ≡ decimal v → IsTypedText t text v

-- where nothing is read, it is a text of no decimal
abbrev pub LenientMisses : Type 0
LenientMisses = (t : Tables) (text : List ℕ) → AreTables t → IsUtf8 text → lenient_reading t text ≡ not_written → HasNoTyped t text

-- which texts the symbols are unreadable for
abbrev pub LenientIsUnreadable : Type 0
LenientIsUnreadable = (t : Tables) (text : List ℕ) → (lenient_reading t text ≡ unreadable) ↔ IsUnreadable t text

-- what the formatter writes is read leniently as the decimal that it writes
abbrev pub WrittenReadsLeniently : Type 0
WrittenReadsLeniently = (t : Tables) (v : SignedValue Number) → AreTables t → is_readable_by t ≡ true → IsDecimal v
    → lenient_reading t (decimal_text t v) ≡ decimal v

-- with second tables too, what is read exactly by the first ones is read as the same decimal
abbrev pub ExactIsReadByBoth : Type 0
ExactIsReadByBoth = (t other : Tables) (text : List ℕ) (v : SignedValue Number) → plain_reading t text ≡ decimal v → reading_by_both t other text ≡ decimal v

-- and so is what is read exactly under another grouping
abbrev pub EachGroupingIsReadByBoth : Type 0
EachGroupingIsReadByBoth = (t other : Tables) (strategy : GroupingStrategy) (text : List ℕ) (v : SignedValue Number)
    → AreTables t → IsUtf8 text → is_leniently_readable_by t ≡ true
    → plain_reading (under strategy t) text ≡ decimal v → reading_by_both t other text ≡ decimal v

-- what the first tables read, and the second ones do not read as another decimal, is read as before
abbrev pub SecondLeavesFirst : Type 0
SecondLeavesFirst = (t other : Tables) (text : List ℕ) (v : SignedValue Number)
    → lenient_reading t text ≡ decimal v → ((w : SignedValue Number) → lenient_reading other text ≡ decimal w → are_equal_decimals v w ≡ true)
    → reading_by_both t other text ≡ decimal v

-- and what they do not read is read as by the second ones alone
abbrev pub SecondReadsRest : Type 0
SecondReadsRest = (t other : Tables) (text : List ℕ) → lenient_reading t text ≡ not_written → reading_by_both t other text ≡ lenient_reading other text

-- where both read, and differ, a text that is not the first formatter's own is not read
abbrev pub AmbiguousIsNotWritten : Type 0
AmbiguousIsNotWritten = (t other : Tables) (text : List ℕ) → IsAmbiguous t other text → reading_by_both t other text ≡ not_written

-- no other text that one of them reads is refused
abbrev pub BothMiss : Type 0
BothMiss = (t other : Tables) (text : List ℕ) → AreTables t → AreTables other → IsUtf8 text
    → reading_by_both t other text ≡ not_written → HasNeither t other text ⊎ IsAmbiguous t other text
