-- What the options ask of numbers: what is done, and the format; or which of them is wrong.
-- Defined in docs/command.md, "Options".
-- Cited by `NumberWords::asked`.
-- The words name types with cases, and the cases of each are imported beside it.
use Rattle.std.specs.Prelude.{ℕ, Bool, true, false, not, if◌then◌else◌, List, Option, Some, None, option_map, Result, Ok, Err}
use Rattle.icu_decimal_scientific.specs.declared.ScientificNotation.{ScientificNotation}
use Rattle.icu_decimal_symbols.specs.declared.options.GroupingStrategy.{GroupingStrategy}
use Rattle.icu_decimal_symbols.specs.declared.options.GroupingStrategy.TheVariants as strategy
use Rattle.icu_dimension_fractions.specs.CurrencyCodes.{is_currency_code}
use Rattle.icu_dimension_fractions.specs.declared.CurrencyStyle.TheVariants as style
use Rattle.icu_dimension_fractions.specs.declared.CurrencyWidth.TheVariants as width
use Rattle.icu_dimension_fractions.specs.declared.PercentSign.{PercentSign}
use Rattle.icu_plurals.specs.declared.PluralRuleType.{PluralRuleType}
use Rattle.locale_numbers_formats.specs.SkeletonFormats.{format_of}
use Rattle.locale_numbers_formats.specs.Skeletons.{skeleton_of}
use Rattle.locale_numbers_formats.specs.declared.Notation.{Notation}
use Rattle.locale_numbers_formats.specs.declared.Notation.TheVariants.{Standard, Compact, CompactDigits, Scientific}
use Rattle.locale_numbers_formats.specs.declared.NumberFormat.{NumberFormat}
use Rattle.locale_numbers_formats.specs.declared.NumberOptions.{NumberOptions}
use Rattle.locale_numbers_formats.specs.declared.NumberShape.{NumberShape}
use Rattle.locale_numbers_formats.specs.declared.NumberUnit.{NumberUnit}
use Rattle.locale_numbers_formats.specs.declared.NumberUnit.TheVariants as unit
use Rattle.locale_numbers_formats.specs.declared.SignAsked.{SignAsked}
use Rattle.locale_numbers_formats.specs.declared.SignAsked.TheVariants as sign
use Rattle.locale_numbers_formats.specs.declared.Skeleton.{Skeleton}
use Rattle.locale_numbers_formats.specs.declared.SkeletonError.{SkeletonError}
use Rattle.locale_numbers_requests.specs.FormField.{format_read}
use Rattle.locale_numbers_requests.specs.Request.{grouping_named, keeps_sign, sign_named}
use Rattle.locale_numbers_requests.specs.declared.Task.{Task}
use Rattle.locale_numbers_requests.specs.declared.Task.TheVariants.{Write, WriteExact, Read, ReadLenient, Category, RangeCategory}
use Rattle.legumeyet_options.specs.Digits.{DigitsSaid, chooses_digits, digits_said, is_coarse, shows_digits, words_of}
use Rattle.legumeyet_options.specs.NumberForms.{form_said, format_by, scientific_form}
use Rattle.legumeyet_options.specs.declared.number_words.NumberWords.{NumberWords}
use Rattle.legumeyet_options.specs.declared.number_words.NumbersAsked.{NumbersAsked}
use Rattle.legumeyet_options.specs.declared.fault.OptionFault.{OptionFault}
use Rattle.legumeyet_options.specs.declared.fault.OptionFault.TheVariants as fault

-- the words of the options, where they are given
pub record NumbersSaid : Type 0 where
  pub form : Option (List ℕ)
  pub format : Option (List ℕ)
  pub scientific : Option ScientificNotation
  pub currency : Option (List ℕ)
  pub is_accounting : Bool
  pub is_by_code : Bool
  pub percent : Option PercentSign
  pub grouping : Option (List ℕ)
  pub sign : Option (List ℕ)
  pub chosen : DigitsSaid
  pub rule_type : Option PluralRuleType

abbrev pub numbers_said : NumberWords → NumbersSaid
numbers_said w = record {
  form = option_map (λ word. word.now) w.form;
  format = option_map (λ word. word.now) w.format;
  scientific = w.scientific;
  currency = option_map (λ word. word.now) w.currency;
  is_accounting = w.is_accounting;
  is_by_code = w.is_by_code;
  percent = w.percent;
  grouping = option_map (λ word. word.now) w.grouping;
  sign = option_map (λ word. word.now) w.sign;
  chosen = words_of w.chosen;
  rule_type = w.rule_type;
}

-- ---- single options

-- what a word names, or a fault
abbrev pub named_or : {A : Type 0} → OptionFault → Option A → Result A OptionFault
named_or fault None = Err fault
named_or fault (Some x) = Ok x

abbrev pub form_asked : Option (List ℕ) → Result (Task × Notation) OptionFault
form_asked None = Ok (Write, Standard)
form_asked (Some word) = named_or fault.Form (form_said word)

-- scientific numbers, or a form
abbrev pub notation_asked : Option ScientificNotation → Option (List ℕ) → Result (Task × Notation) OptionFault
notation_asked (Some notation) form = Ok (scientific_form notation)
notation_asked None form = form_asked form

abbrev pub grouping_asked : Option (List ℕ) → Result GroupingStrategy OptionFault
grouping_asked None = Ok strategy.Auto
grouping_asked (Some word) = named_or fault.Grouping (grouping_named word)

abbrev pub sign_asked : Option (List ℕ) → Result SignAsked OptionFault
sign_asked None = Ok sign.Keep
sign_asked (Some word) = named_or fault.Sign (sign_named word)

-- a percent by its sign, or none
abbrev pub percent_unit : Option PercentSign → NumberUnit
percent_unit None = unit.None
percent_unit (Some sign) = unit.Percent sign

-- an amount, or one of these
abbrev pub unit_asked : Option (List ℕ) → Bool → Bool → Option PercentSign → Result NumberUnit OptionFault
unit_asked None accounting by_code percent = Ok (percent_unit percent)
unit_asked (Some code) accounting by_code percent =
    if is_currency_code code then Ok (unit.Currency (record {
      code = code;
      style = if accounting then style.Accounting else style.Standard;
      width = if by_code then width.IsoCode else width.Short;
    }))
    else Err fault.Code

-- ---- together

-- an exact form shows the digits that it has, and what is read has the sign and the digits of its text
abbrev pub task_fault : Task → SignAsked → Bool → Option OptionFault
task_fault Write sign digits = None
task_fault (Category rule_type) sign digits = None
task_fault RangeCategory sign digits = None
task_fault WriteExact sign digits = if digits then Some fault.DigitsOfExact else None
task_fault Read sign digits = if not (keeps_sign sign) then Some fault.SignOfRead else if digits then Some fault.DigitsOfRead else None
task_fault ReadLenient sign digits = if not (keeps_sign sign) then Some fault.SignOfRead else if digits then Some fault.DigitsOfRead else None

-- a significand is not rounded above the ones without a mode
abbrev pub significand_fault : Notation → Bool → Option OptionFault
significand_fault Standard coarse = None
significand_fault (Compact width) coarse = None
significand_fault (CompactDigits width options) coarse = None
significand_fault (Scientific style options) coarse = if coarse then Some fault.Coarse else None

abbrev pub first_fault : Option OptionFault → Option OptionFault → Option OptionFault
first_fault (Some fault) other = Some fault
first_fault None other = other

abbrev pub is_coarse_round : Option (List ℕ) → Bool
is_coarse_round None = false
is_coarse_round (Some word) = is_coarse word

abbrev pub asked_by : Option OptionFault → Task → NumberFormat → Bool → Result NumbersAsked OptionFault
asked_by (Some fault) task format coarse = Err fault
asked_by None task format coarse = Ok (record { task = task; format = format; is_coarse = coarse })

-- with what one step gives
abbrev pub after : {A B : Type 0} → Result A OptionFault → (A → Result B OptionFault) → Result B OptionFault
after (Ok x) next = next x
after (Err fault) next = Err fault

-- what the words ask
abbrev pub words_asked : NumbersSaid → Result NumbersAsked OptionFault
words_asked s =
    after (notation_asked s.scientific s.form) (λ form.
    after (unit_asked s.currency s.is_accounting s.is_by_code s.percent) (λ unit.
    after (grouping_asked s.grouping) (λ grouping.
    after (sign_asked s.sign) (λ sign.
    after (digits_said s.chosen) (λ options.
    asked_by (first_fault (task_fault form.0 sign (chooses_digits s.chosen)) (significand_fault form.1 (is_coarse_round s.chosen.round))) form.0
    (format_by (record { notation = form.1; unit = unit; grouping = grouping }) (record options { sign = sign }) (shows_digits s.chosen))
    (is_coarse_round s.chosen.round))))))

-- what a skeleton asks
abbrev pub skeleton_asked : Result Skeleton SkeletonError → Result NumbersAsked OptionFault
skeleton_asked (Err error) = Err (fault.Format error)
skeleton_asked (Ok skeleton) = Ok (record { task = Write; format = format_of skeleton; is_coarse = false })

abbrev pub asked_as : Option (List ℕ) → NumbersSaid → Result NumbersAsked OptionFault
asked_as None s = words_asked s
asked_as (Some skeleton) s = skeleton_asked (skeleton_of skeleton)

-- the plural categories of numbers that are written
abbrev pub categories_of : PluralRuleType → Task → NumbersAsked → Result NumbersAsked OptionFault
categories_of rule_type Write asked = Ok (record asked { task = Category rule_type })
categories_of rule_type WriteExact asked = Err fault.Categories
categories_of rule_type Read asked = Err fault.Categories
categories_of rule_type ReadLenient asked = Err fault.Categories
categories_of rule_type (Category other) asked = Err fault.Categories
categories_of rule_type RangeCategory asked = Err fault.Categories

abbrev pub categories_asked : PluralRuleType → NumbersAsked → Result NumbersAsked OptionFault
categories_asked rule_type asked = categories_of rule_type asked.task asked

abbrev pub asked_for : Option PluralRuleType → NumbersAsked → Result NumbersAsked OptionFault
asked_for None asked = Ok asked
asked_for (Some rule_type) asked = categories_asked rule_type asked

abbrev pub numbers_asked : NumbersSaid → Result NumbersAsked OptionFault
numbers_asked s = after (asked_as s.format s) (asked_for s.rule_type)

-- what is asked of texts that are read beside them
abbrev pub plain_reading : Task → NumberFormat → NumbersAsked
plain_reading task format = record {
  task = task;
  format = record { shape = record format.shape { notation = Standard }; options = (format_read format).options };
  is_coarse = false;
}

-- in scientific notation as a program wrote them, with the same exponents
abbrev pub exact_reading : Task → NumberFormat → Result NumbersAsked OptionFault
exact_reading Read format = Ok (record { task = Read; format = format_read format; is_coarse = false })
exact_reading ReadLenient format = Err fault.Scientific
exact_reading Write format = Err fault.Scientific
exact_reading WriteExact format = Err fault.Scientific
exact_reading (Category rule_type) format = Err fault.Scientific
exact_reading RangeCategory format = Err fault.Scientific

abbrev pub reading_in : Notation → Task → NumberFormat → Result NumbersAsked OptionFault
reading_in Standard task format = Ok (plain_reading task format)
reading_in (Compact width) task format = Ok (plain_reading task format)
reading_in (CompactDigits width options) task format = Ok (plain_reading task format)
reading_in (Scientific style options) task format = exact_reading task format

abbrev pub reading_asked : Task → NumbersAsked → Result NumbersAsked OptionFault
reading_asked task asked = reading_in asked.format.shape.notation task asked.format
