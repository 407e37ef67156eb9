-- What a text is read as: the scientific number that is written so, or that none is.
-- Defined in docs/scientific-text.md, "Reading".
-- Cited by the calls of `ScientificTables` that read, and by the laws of texts.
use Rattle.std.specs.Prelude.{◌≡◌, ◌≢◌, ◌⊎◌, ◌==◌, ℕ, Bool, true, false, not, ◌&&◌, List, [], ◌∷◌, ◌++◌, is_none}
use Rattle.std.specs.List.{list_all}
use Rattle.std.specs.Str.{IsUtf8, bytes_eq, chars}
use Rattle.fixed_decimal.specs.ScientificText.{IsScientific, ScientificValue}
use Rattle.icu_decimal_plain.specs.PlainText.{Tables}
use Rattle.icu_decimal_reading.specs.DecimalOfText.{HasManyDigits}
use Rattle.icu_decimal_reading.specs.Readable.{digit_of, is_readable_by}
use Rattle.icu_decimal_reading.specs.ReadingLaws.{AreTables}
use Rattle.icu_decimal_symbols.specs.Symbols.{SymbolStrings}
use Rattle.icu_decimal_scientific.specs.ExponentialText.{ScientificSettings, scientific_text}

-- ---- readable

-- a character is not in a text
abbrev pub lacks : ℕ → List ℕ → Bool
lacks mark text = list_all (λ c. not (c == mark)) (chars text)

-- the first of these characters is there, and is in no number without a sign: it is no digit, and in neither separator
abbrev pub begins_apart : Tables → List ℕ → Bool
begins_apart t [] = false
begins_apart t (c ∷ cs) =
    is_none (digit_of t.digits c) && (lacks c t.symbols.strings.decimal_separator && lacks c t.symbols.strings.grouping_separator)

-- what is before a number tells its sign
abbrev pub do_prefixes_differ : SymbolStrings → Bool
do_prefixes_differ s =
    not (bytes_eq s.minus_sign_prefix [])
    && (not (bytes_eq s.plus_sign_prefix []) && not (bytes_eq s.minus_sign_prefix s.plus_sign_prefix))

-- both tables are readable, the text before exponents tells where the significand ends, and the sign is told before it
abbrev pub is_scientific_readable_by : ScientificSettings → Bool
is_scientific_readable_by s =
    is_readable_by s.tables
    && (is_readable_by s.exponents && (begins_apart s.tables (chars s.separator) && do_prefixes_differ s.tables.symbols.strings))

-- what holds of all settings: they are texts
pub record AreScientificTexts (s : ScientificSettings) : Type 0 where
  pub tables : AreTables s.tables
  pub separator : IsUtf8 s.separator
  pub exponents : AreTables s.exponents

-- ---- reading

-- this is the text of the scientific number
pub record IsScientificText (s : ScientificSettings) (text : List ℕ) (v : ScientificValue) : Type 0 where
  pub number : IsScientific v
  pub written : scientific_text s v ≡ text

-- it is that of none
abbrev pub HasNoScientific : ScientificSettings → List ℕ → Type 0
HasNoScientific s text = (v : ScientificValue) → IsScientific v → scientific_text s v ≢ text

-- what a text is read as
pub data ScientificReading : Type 0 where
  unreadable : ScientificReading
  not_written : ScientificReading
  scientific : ScientificValue → ScientificReading

-- the text is what the reading says
abbrev pub IsScientificReading : ScientificSettings → List ℕ → ScientificReading → Type 0
IsScientificReading s text unreadable = is_scientific_readable_by s ≡ false
IsScientificReading s text not_written = (is_scientific_readable_by s ≡ true) × HasNoScientific s text
IsScientificReading s text (scientific v) = (is_scientific_readable_by s ≡ true) × IsScientificText s text v

-- a side of the text before exponents has more than sixteen digits
pub record HasManyBeside (s : ScientificSettings) (text : List ℕ) : Type 0 where
  pub before : List ℕ
  pub front : List ℕ
  pub back : List ℕ
  pub after : List ℕ
  pub cut : text ≡ before ++ ((front ++ (s.separator ++ back)) ++ after)
  pub many : HasManyDigits s.tables front ⊎ HasManyDigits s.exponents back
