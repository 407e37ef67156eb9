-- What the formatter of a handle writes for a number, for an exact form, or for a range, changed as options say, or why it writes nothing.
-- Defined in include/legumeyet.h.
-- Cited by the exports that write numbers, and by the model of `HeldFormatter`; Worded.antt has what is written of a changed number.
use Rattle.std.specs.Prelude.{◌≡◌, ◌⊎◌, ◌&&◌, Bool, true, false, is_none, ℕ, ℤ, List, [], ◌∷◌, Option, Some, None, option_map, Result, Ok, Err}
use Rattle.fixed_decimal.specs.CompactText.{CompactValue}
use Rattle.fixed_decimal.specs.Number.{Number}
use Rattle.fixed_decimal.specs.SignedValue.{SignedValue}
use Rattle.icu_decimal.specs.PlainText.{Tables}
use Rattle.icu_plurals.specs.Rules.{Rules}
use Rattle.icu_plurals.specs.declared.PluralRange.{PluralRange}
use Rattle.locale_numbers_formats.specs.Changed.{unchanged}
use Rattle.locale_numbers_formats.specs.declared.NumberOptions.{NumberOptions}
use Rattle.locale_numbers_formatter.specs.FormatText.{FormatTables, compact_tables, digits_tables, fractions_in, plain_tables, scientific_tables, unit_tables}
use Rattle.legumeyet_c_values.specs.Numbers.{Given, Gives, GivesCompact, IsChangeFault, IsCompactChangeFault, IsGiven, IsGivenFault}
use Rattle.legumeyet_c_values.specs.UsualOptions.{is_usual}
use Rattle.legumeyet_c_values.specs.Words.{number_options_of, usual}
use Rattle.legumeyet_c_values.specs.declared.CallError.{CallError}
use Rattle.legumeyet_c_values.specs.declared.CallError.TheVariants.{Closed, UnknownOption}
use Rattle.legumeyet_c.specs.HeldFormats.{HeldFormat, Plurals, Wording, in_numbers}
use Rattle.legumeyet_c.specs.Worded.{Ends, IsForm, IsFormFault, IsRange, IsRangeFault}

-- ---- what is asked

-- what numbers are written with, and what is made of each
pub record Asked : Type 0 where
  pub wording : Wording
  pub options : NumberOptions

abbrev pub asked_for : Wording → NumberOptions → Asked
asked_for wording options = record { wording = wording; options = options }

-- scientific numbers with what these options make of their significand
abbrev pub significand_by : NumberOptions → FormatTables → Option FormatTables
significand_by options (plain_tables t) = None
significand_by options (compact_tables t) = None
significand_by options (digits_tables t own) = None
significand_by options (scientific_tables s) = Some (scientific_tables (record s { options = options }))
significand_by options (unit_tables u) = None

abbrev pub wording_by : NumberOptions → Wording → Option Wording
wording_by options wording = option_map (λ tables. record wording { tables = tables }) (significand_by options wording.tables)

abbrev pub asked_beside : Option Wording → Wording → NumberOptions → Asked
asked_beside None wording options = asked_for wording options
asked_beside (Some changed) wording options = asked_for changed unchanged

-- options that a call gives change the number before, and of scientific numbers the significand in its place
abbrev pub asked_given : Wording → NumberOptions → Asked
asked_given wording options = asked_beside (wording_by options wording) wording options

abbrev pub asked_by : Wording → Option NumberOptions → Result Asked CallError
asked_by wording None = Err UnknownOption
asked_by wording (Some options) = Ok (asked_given wording options)

-- without words the options are the formatter's own
abbrev pub asked_in : HeldFormat → List ℤ → Result Asked CallError
asked_in held [] = Ok (asked_for held.wording held.options)
asked_in held (word ∷ words) = asked_by held.wording (number_options_of (word ∷ words))

-- a closed handle comes first, then unknown options
abbrev pub asked_of : Option HeldFormat → List ℤ → Result Asked CallError
asked_of None words = Err Closed
asked_of (Some held) words = asked_in held words

-- ---- numbers that are written as they are given

-- plain numbers, with the options of no words
abbrev pub asked_plainly : Tables → Asked
asked_plainly tables = asked_for (in_numbers (plain_tables tables)) usual

-- with these options numbers are shown as they are given: all but compact and scientific ones and amounts
abbrev pub shows_as_given : FormatTables → Bool
shows_as_given (plain_tables t) = true
shows_as_given (compact_tables t) = false
shows_as_given (digits_tables t options) = false
shows_as_given (scientific_tables s) = false
shows_as_given (unit_tables u) = is_none u.fractions

abbrev pub is_as_given : Asked → Bool
is_as_given asked = is_usual asked.options && shows_as_given asked.wording.tables

-- the words of these rules are asked for, of numbers as they are given
pub record AreWordsAsked (rules : Rules) (asking : Result Asked CallError) : Type 0 where
  pub asked : Asked
  pub is : Ok asked ≡ asking
  pub ranges : List PluralRange
  pub plurals : Some (rules, ranges) ≡ asked.wording.plurals
  pub as_given : is_as_given asked ≡ true

-- ---- a value that is given

-- what is said of the value that is given
pub record SaysGiven {N X : Type 0} (says : Wording → N → X → Type 0) (is_given : N → Type 0) (wording : Wording) (text : X) : Type 0 where
  pub value : N
  pub given : is_given value
  pub said : says wording value text

-- nothing is said where the handle is closed, or the options are unknown
abbrev pub Writes : {N X : Type 0} → (Wording → N → X → Type 0) → (Asked → N → Type 0) → Result Asked CallError → X → Type 0
Writes says gives (Err cause) text = ⊥
Writes says gives (Ok asked) text = SaysGiven says (gives asked) asked.wording text

-- why nothing is said of the value that is given
pub record FailsGiven {N : Type 0} (fails : Wording → N → CallError → Type 0) (is_given : N → Type 0) (wording : Wording) (error : CallError) : Type 0 where
  pub value : N
  pub given : is_given value
  pub failed : fails wording value error

-- what is asked comes first, then why no value is given, then why the one that is given is not written
abbrev pub IsWritingFault : {N : Type 0} → (Wording → N → CallError → Type 0) → (Asked → N → Type 0) → (Asked → CallError → Type 0) → Result Asked CallError → CallError → Type 0
IsWritingFault fails gives fault (Err cause) error = error ≡ cause
IsWritingFault fails gives fault (Ok asked) error = fault asked error ⊎ FailsGiven fails (gives asked) asked.wording error

-- ---- of numbers

-- the number that is given, changed as is asked: an amount by the digits of its currency
abbrev pub GivesNumber : Given → Asked → SignedValue Number → Type 0
GivesNumber number asked value = Gives asked.options (fractions_in asked.wording.tables) (IsGiven number) value

-- why there is none
abbrev pub IsNumberRefused : Given → Asked → CallError → Type 0
IsNumberRefused number asked error = IsChangeFault asked.options (fractions_in asked.wording.tables) (IsGiven number) (IsGivenFault number) error

abbrev pub WritesNumber : {X : Type 0} → (Wording → SignedValue Number → X → Type 0) → Option HeldFormat → List ℤ → Given → X → Type 0
WritesNumber says held words number text = Writes says (GivesNumber number) (asked_of held words) text

abbrev pub IsNumberWritingFault : (Wording → SignedValue Number → CallError → Type 0) → Option HeldFormat → List ℤ → Given → CallError → Type 0
IsNumberWritingFault fails held words number error = IsWritingFault fails (GivesNumber number) (IsNumberRefused number) (asked_of held words) error

-- ---- of exact forms

-- the form that a text spells, its significand changed as is asked
abbrev pub GivesForm : List ℕ → Asked → CompactValue → Type 0
GivesForm spelled asked form = GivesCompact asked.options (fractions_in asked.wording.tables) spelled form

abbrev pub IsFormRefused : List ℕ → Asked → CallError → Type 0
IsFormRefused spelled asked error = IsCompactChangeFault asked.options (fractions_in asked.wording.tables) spelled error

abbrev pub WritesForm : Option HeldFormat → List ℤ → List ℕ → List ℕ → Type 0
WritesForm held words spelled text = Writes IsForm (GivesForm spelled) (asked_of held words) text

abbrev pub IsFormWritingFault : Option HeldFormat → List ℤ → List ℕ → CallError → Type 0
IsFormWritingFault held words spelled error = IsWritingFault IsFormFault (GivesForm spelled) (IsFormRefused spelled) (asked_of held words) error

-- ---- of ranges

-- a range has no text, but only a word
abbrev pub asked_with : Option Plurals → Asked → Result Asked CallError
asked_with None asked = Err UnknownOption
asked_with (Some plurals) asked = Ok asked

abbrev pub range_asked_by : Result Asked CallError → Result Asked CallError
range_asked_by (Err cause) = Err cause
range_asked_by (Ok asked) = asked_with asked.wording.plurals asked

abbrev pub range_asked_of : Option HeldFormat → List ℤ → Result Asked CallError
range_asked_of held words = range_asked_by (asked_of held words)

-- both ends, each changed as is asked
abbrev pub GivesEnds : Given → Given → Asked → Ends → Type 0
GivesEnds first second asked ends = GivesNumber first asked ends.0 × GivesNumber second asked ends.1

-- what is wrong with the first end comes first
pub record IsSecondRefused (first second : Given) (asked : Asked) (error : CallError) : Type 0 where
  pub value : SignedValue Number
  pub given : GivesNumber first asked value
  pub refused : IsNumberRefused second asked error

abbrev pub AreEndsRefused : Given → Given → Asked → CallError → Type 0
AreEndsRefused first second asked error = IsNumberRefused first asked error ⊎ IsSecondRefused first second asked error

abbrev pub WritesRange : Option HeldFormat → List ℤ → Given → Given → List ℕ → Type 0
WritesRange held words first second text = Writes IsRange (GivesEnds first second) (range_asked_of held words) text

abbrev pub IsRangeWritingFault : Option HeldFormat → List ℤ → Given → Given → CallError → Type 0
IsRangeWritingFault held words first second error =
    IsWritingFault IsRangeFault (GivesEnds first second) (AreEndsRefused first second) (range_asked_of held words) error
