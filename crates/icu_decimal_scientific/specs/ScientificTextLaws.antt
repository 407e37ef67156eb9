-- Laws of the texts of scientific numbers, over the definitions alone.
-- Defined in docs/scientific-text.md, "Laws".
-- Cited by the functions of `laws`.
use Rattle.std.specs.Prelude.{◌≡◌, ℕ, true, List}
use Rattle.writeable.specs.AnnotatedText.{text_of}
use Rattle.fixed_decimal.specs.ScientificText.{IsScientific, ScientificValue}
use Rattle.icu_decimal_scientific.specs.Scientific.{ScientificParts}
use Rattle.icu_decimal_scientific.specs.ScientificReading.{AreScientificTexts, IsScientificReading, ScientificReading, is_scientific_readable_by, scientific}
use Rattle.icu_decimal_scientific.specs.ExponentialText.{ScientificSettings, scientific_events, scientific_formatted, scientific_text}
use Rattle.icu_decimal_scientific.specs.ShownNumbers.{IsShownAs}
use Rattle.icu_decimal_scientific.specs.declared.shown.ExponentOptions.{ExponentOptions}

-- what the events write is the text of its definition
abbrev pub ScientificIsText : Type 0
ScientificIsText = (s : ScientificSettings) (v : ScientificValue) → text_of (scientific_events (scientific_formatted s v)) ≡ scientific_text s v

-- where it is readable, no two scientific numbers share a text
abbrev pub TextsHaveOneValue : Type 0
TextsHaveOneValue = (s : ScientificSettings) (a b : ScientificValue) → AreScientificTexts s → is_scientific_readable_by s ≡ true
    → IsScientific a → IsScientific b → scientific_text s a ≡ scientific_text s b → a ≡ b

-- nor do two significands with their exponents, however these are shown
abbrev pub TextsHaveOneNumber : Type 0
TextsHaveOneNumber = (s : ScientificSettings) (o : ExponentOptions) (a b : ScientificParts) (v w : ScientificValue) → AreScientificTexts s → is_scientific_readable_by s ≡ true
    → IsScientific v → IsScientific w → IsShownAs o a v → IsShownAs o b w → scientific_text s v ≡ scientific_text s w → a ≡ b

-- a text has one reading at most
abbrev pub HasOneScientificReading : Type 0
HasOneScientificReading = (s : ScientificSettings) (text : List ℕ) (one other : ScientificReading) → AreScientificTexts s
    → IsScientificReading s text one → IsScientificReading s text other → one ≡ other

-- what was written is read as what was written
abbrev pub WrittenIsReadBack : Type 0
WrittenIsReadBack = (s : ScientificSettings) (v : ScientificValue) (reading : ScientificReading) → AreScientificTexts s
    → is_scientific_readable_by s ≡ true → IsScientific v → IsScientificReading s (scientific_text s v) reading → reading ≡ scientific v

-- a text that was read, written again, is the same text
abbrev pub ReadIsWrittenAgain : Type 0
ReadIsWrittenAgain = (s : ScientificSettings) (text : List ℕ) (v : ScientificValue)
    → IsScientificReading s text (scientific v) → scientific_text s v ≡ text
