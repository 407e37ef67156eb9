-- What the words say: where an option is not given, another word or another way.
-- Defined in docs/command.md, "Options" and "Refused numbers".
-- Cited by the private calls that read the words.
use Rattle.std.specs.Prelude.{◌≡◌, ℕ, Bool, true, false, ◌||◌, if◌then◌else◌, List, Option, Some, None, option_map, unwrap_or, codes}
use Rattle.std.specs.Str.{bytes_eq}
use Rattle.clap.specs.Matches.{first_value}
use Rattle.clap.specs.declared.parser.matches.Found.{Found}
use Rattle.icu_plurals.specs.declared.PluralRuleType.TheVariants.{Cardinal, Ordinal}
use Rattle.legumeyet_options.specs.Invalids.{invalid_named}
use Rattle.legumeyet_options.specs.declared.DigitWords.{DigitWords}
use Rattle.legumeyet_options.specs.declared.Invalid.{Invalid}
use Rattle.legumeyet_options.specs.declared.NumberWords.{NumberWords}
use Rattle.legumeyet_options.specs.declared.NumbersAsked.{NumbersAsked}
use Rattle.locale_numbers_formats.specs.declared.Notation.{Notation}
use Rattle.locale_numbers_formats.specs.declared.Notation.TheVariants.{Standard, Compact, CompactDigits, Scientific}
use Rattle.locale_numbers_formats.specs.declared.NumberUnit.{NumberUnit}
use Rattle.locale_numbers_formats.specs.declared.NumberUnit.TheVariants as unit
use Rattle.locale_numbers_requests.specs.declared.Task.{Task}
use Rattle.locale_numbers_requests.specs.declared.Task.TheVariants.{Write, WriteExact, Read, ReadLenient, Category, RangeCategory}

abbrev pub word_by : Option (List ℕ) → List ℕ → List ℕ
word_by said other = unwrap_or said other

abbrev pub invalid_by : Option (List ℕ) → Invalid → Invalid
invalid_by None other = other
invalid_by (Some word) other = unwrap_or (invalid_named word) other

-- a dash says nothing
abbrev pub without_dash : Option (List ℕ) → Option (List ℕ)
without_dash None = None
without_dash (Some word) = if bytes_eq word (codes "-") then None else Some word

-- the words of the options of digits are those that were found
pub record DigitsIn (found : Found) (words : DigitWords) : Type 0 where
  pub round : option_map (λ word. word.now) words.round ≡ without_dash (first_value found (codes "round"))
  pub digits : option_map (λ word. word.now) words.digits ≡ first_value found (codes "digits")
  pub max_digits : option_map (λ word. word.now) words.max_digits ≡ first_value found (codes "max-digits")
  pub min_digits : option_map (λ word. word.now) words.min_digits ≡ first_value found (codes "min-digits")
  pub significant : option_map (λ word. word.now) words.significant ≡ first_value found (codes "significant")
  pub priority : option_map (λ word. word.now) words.priority ≡ first_value found (codes "priority")

-- and those of the others
pub record NumbersIn (found : Found) (words : NumberWords) : Type 0 where
  pub form : option_map (λ word. word.now) words.form ≡ first_value found (codes "form")
  pub format : option_map (λ word. word.now) words.format ≡ first_value found (codes "format")
  pub currency : option_map (λ word. word.now) words.currency ≡ first_value found (codes "currency")
  pub grouping : option_map (λ word. word.now) words.grouping ≡ first_value found (codes "grouping")
  pub sign : option_map (λ word. word.now) words.sign ≡ first_value found (codes "sign")

abbrev pub has_unit : NumberUnit → Bool
has_unit unit.None = false
has_unit (unit.Percent sign) = true
has_unit (unit.Currency currency) = true

-- ordinal rules, or the categories of ranges
abbrev pub asks_plurals : Task → Bool
asks_plurals (Category Ordinal) = true
asks_plurals (Category Cardinal) = false
asks_plurals RangeCategory = true
asks_plurals Write = false
asks_plurals WriteExact = false
asks_plurals Read = false
asks_plurals ReadLenient = false

-- the text before exponents
abbrev pub asks_signs : Notation → Bool
asks_signs Standard = false
asks_signs (Compact width) = false
asks_signs (CompactDigits width options) = false
asks_signs (Scientific style options) = true

-- one of these
abbrev pub asks_more : NumbersAsked → Bool
asks_more asked = asks_plurals asked.task || asks_signs asked.format.shape.notation
