-- The intervals listed for a number are those of its parts, and no others; separators are inside the integer digits.
-- Defined in docs/formatters.md, "Formatted numbers".
-- Cited by `laws::parts_law`.
use Rattle.std.specs.Prelude.{◌≡◌, ℕ, ◌<◌, List, ◌++◌, length, take, drop}
use Rattle.writeable.specs.AnnotatedText.{annotated, bytes}
use Rattle.fixed_decimal.specs.Number.{Number}
use Rattle.fixed_decimal.specs.SignedValue.{SignedValue}
use Rattle.icu_decimal_plain.specs.Affixes.{events_with_sign}
use Rattle.icu_decimal_plain.specs.PartIntervals.{decimal_annotated, groups_text, unit_annotated, unsigned_annotated}
use Rattle.icu_decimal_plain.specs.PlainText.{PlainNumber, Tables, decimal_events, formatted, unsigned_events}

abbrev pub UnsignedHasParts : Type 0
UnsignedHasParts = (p : PlainNumber) → annotated (unsigned_events p) ≡ unsigned_annotated p.tables p.number

abbrev pub DecimalHasParts : Type 0
DecimalHasParts = (t : Tables) (d : SignedValue Number) → annotated (decimal_events (formatted t d)) ≡ decimal_annotated t d

-- with a text before the number and one after it, and the affixes of its sign around all three
abbrev pub UnitHasParts : Type 0
UnitHasParts = (t : Tables) (before : List ℕ) (d : SignedValue Number) (behind : List ℕ)
    → annotated (events_with_sign (λ number. bytes before ++ (unsigned_events number ++ bytes behind)) (formatted t d)) ≡ unit_annotated t before d behind

-- the separator follows the text of the first k groups, and the text of the other groups follows it
abbrev pub SeparatorsStandBetween : Type 0
SeparatorsStandBetween = (separator : List ℕ) (gs : List (List (List ℕ))) (k : ℕ) → 0 < k → k < length gs
    → groups_text separator gs ≡ groups_text separator (take k gs) ++ (separator ++ groups_text separator (drop k gs))
