-- What a line asks for: its six fields, where each is known, or nothing.
-- Defined in docs/requests.md, "Request line".
-- Cited by `answer` and `run`, through Answer.antt of `locale_numbers`, and by `read_request`.
-- Of the six fields some are types with cases, and the cases of each are imported beside it.
use Rattle.std.specs.Prelude.{ℕ, pos, Bool, true, false, not, ◌&&◌, ◌||◌, if◌then◌else◌, List, [], ◌∷◌, Option, Some, None, codes}
use Rattle.std.specs.Str.{bytes_eq, is_utf8}
use Rattle.fixed_decimal.specs.declared.SignDisplay.TheVariants as display
use Rattle.icu_decimal_symbols.specs.declared.options.GroupingStrategy.{GroupingStrategy}
use Rattle.icu_decimal_symbols.specs.declared.options.GroupingStrategy.TheVariants.{Auto, Never, Always, Min2, OnAligned}
use Rattle.locale_numbers_formats.specs.Changed.{unchanged}
use Rattle.locale_numbers_formats.specs.Cutting.{cut_at}
use Rattle.locale_numbers_formats.specs.declared.Notation.{Notation}
use Rattle.locale_numbers_formats.specs.declared.Notation.TheVariants.{Standard, Compact, CompactDigits, Scientific}
use Rattle.locale_numbers_formats.specs.declared.NumberFormat.{NumberFormat}
use Rattle.locale_numbers_formats.specs.declared.NumberOptions.{NumberOptions}
use Rattle.locale_numbers_formats.specs.declared.NumberShape.{NumberShape}
use Rattle.locale_numbers_formats.specs.declared.NumberUnit.{NumberUnit}
use Rattle.locale_numbers_formats.specs.declared.NumberUnit.TheVariants as unit
use Rattle.locale_numbers_formats.specs.declared.Rounding.{Rounding}
use Rattle.locale_numbers_formats.specs.declared.SignAsked.{SignAsked}
use Rattle.locale_numbers_formats.specs.declared.SignAsked.TheVariants.{Keep, Show}
use Rattle.locale_numbers_requests.specs.FormField.{form_named}
use Rattle.locale_numbers_requests.specs.RoundingField.{is_cash, keeps_digits, rounding_named}
use Rattle.locale_numbers_requests.specs.declared.form_field.FormAsked.{FormAsked}
use Rattle.locale_numbers_requests.specs.declared.form_field.FormAsked.TheVariants.{OfWord, OfSkeleton}
use Rattle.locale_numbers_requests.specs.declared.form_field.Task.{Task}
use Rattle.locale_numbers_requests.specs.declared.form_field.Task.TheVariants.{Write, WriteExact, Read, ReadLenient, Category, RangeCategory}
use Rattle.locale_numbers_requests.specs.declared.rounding_field.DigitsAsked.{DigitsAsked}

-- the code of a tab
abbrev pub tab : ℕ
tab = 9

-- the fields of a line: the pieces between its tabs
abbrev pub fields : List ℕ → List (List ℕ)
fields line = cut_at tab line

-- the grouping that a word names
abbrev pub grouping_named : List ℕ → Option GroupingStrategy
grouping_named word =
    if bytes_eq word (codes "auto") then Some Auto
    else if bytes_eq word (codes "never") then Some Never
    else if bytes_eq word (codes "always") then Some Always
    else if bytes_eq word (codes "min2") then Some Min2
    else if bytes_eq word (codes "on-aligned") then Some OnAligned
    else None

-- the sign that a word asks for: the one of the text, or a choice
abbrev pub sign_named : List ℕ → Option SignAsked
sign_named word =
    if bytes_eq word (codes "keep") then Some Keep
    else if bytes_eq word (codes "auto") then Some (Show display.Auto)
    else if bytes_eq word (codes "never") then Some (Show display.Never)
    else if bytes_eq word (codes "always") then Some (Show display.Always)
    else if bytes_eq word (codes "except-zero") then Some (Show display.ExceptZero)
    else if bytes_eq word (codes "negative") then Some (Show display.Negative)
    else None

-- the sign is that of the text
abbrev pub keeps_sign : SignAsked → Bool
keeps_sign Keep = true
keeps_sign (Show display) = false

-- the unit is a currency
abbrev pub is_amount : NumberUnit → Bool
is_amount unit.None = false
is_amount (unit.Percent sign) = false
is_amount (unit.Currency currency) = true

-- whether a task of numbers with a unit takes a sign and a rounding: an exact form shows the digits that are given, so nothing is
-- rounded there; what is read back is the number that was written or typed, so neither is chosen there; only an amount of money
-- has digits of cash; a category is that of what is written
abbrev pub takes : Task → NumberUnit → SignAsked → Rounding → Bool
takes Write unit sign rounding = is_amount unit || not (is_cash rounding)
takes WriteExact unit sign rounding = keeps_digits rounding
takes Read unit sign rounding = keeps_sign sign && (keeps_digits rounding || (is_amount unit && is_cash rounding))
takes ReadLenient unit sign rounding = keeps_sign sign && (keeps_digits rounding || (is_amount unit && is_cash rounding))
takes (Category rule_type) unit sign rounding = is_amount unit || not (is_cash rounding)
takes RangeCategory unit sign rounding = is_amount unit || not (is_cash rounding)

-- a skeleton says all, so the other fields say nothing
abbrev pub says_nothing : GroupingStrategy → SignAsked → Rounding → Bool
says_nothing Auto sign rounding = keeps_sign sign && keeps_digits rounding
says_nothing Never sign rounding = false
says_nothing Always sign rounding = false
says_nothing Min2 sign rounding = false
says_nothing OnAligned sign rounding = false

-- the options of scientific numbers are those of the significand, and go into the notation
abbrev pub notation_with : NumberOptions → Notation → Notation
notation_with options Standard = Standard
notation_with options (Compact width) = Compact width
notation_with options (CompactDigits width others) = CompactDigits width others
notation_with options (Scientific style others) = Scientific style options

-- and nothing is made of the number before
abbrev pub options_beside : NumberOptions → Notation → NumberOptions
options_beside options Standard = options
options_beside options (Compact width) = options
options_beside options (CompactDigits width others) = options
options_beside options (Scientific style others) = unchanged

-- the format of a shape and options, each where it counts
abbrev pub placed : NumberShape → NumberOptions → NumberFormat
placed shape options =
    record { shape = record shape { notation = notation_with options shape.notation }; options = options_beside options shape.notation }

-- what the fields of a line make of a number: no digit is added in front
abbrev pub options_by : SignAsked → DigitsAsked → NumberOptions
options_by sign digits = record {
  rounding = digits.rounding;
  leading_zeros = digits.leading_zeros;
  zeros = digits.zeros;
  integer_digits = pos 0;
  fraction_digits = digits.fraction_digits;
  sign = sign;
}

-- the format of a line
abbrev pub format_by : Notation → NumberUnit → GroupingStrategy → SignAsked → DigitsAsked → NumberFormat
format_by notation unit grouping sign digits =
    placed (record { notation = notation; unit = unit; grouping = grouping }) (options_by sign digits)

-- what is done, and the format, where the form takes the other fields
abbrev pub format_asked : FormAsked → GroupingStrategy → SignAsked → DigitsAsked → Option (Task × NumberFormat)
format_asked (OfWord task notation unit) grouping sign digits =
    if takes task unit sign digits.rounding then Some (task, format_by notation unit grouping sign digits) else None
format_asked (OfSkeleton task format) grouping sign digits =
    if says_nothing grouping sign digits.rounding then Some (task, format) else None

-- a request as it is asked: a tag, what is done, the format, and the text of a number
pub record Asked : Type 0 where
  pub tag : List ℕ
  pub task : Task
  pub format : NumberFormat
  pub text : List ℕ

abbrev pub asked_by : List ℕ → Option (Task × NumberFormat) → List ℕ → Option Asked
asked_by tag None text = None
asked_by tag (Some found) text = Some (record { tag = tag; task = found.0; format = found.1; text = text })

-- what six fields ask, where each is known and the form takes the others
abbrev pub request_by : List ℕ → Option FormAsked → Option GroupingStrategy → Option SignAsked → Option DigitsAsked → List ℕ → Option Asked
request_by tag (Some form) (Some grouping) (Some sign) (Some digits) text = asked_by tag (format_asked form grouping sign digits) text
request_by tag _ _ _ _ text = None

-- what the fields of a line ask: nothing, where they are not six
abbrev pub request_in : List (List ℕ) → Option Asked
request_in (tag ∷ form ∷ grouping ∷ sign ∷ rounding ∷ text ∷ []) =
    request_by tag (form_named form) (grouping_named grouping) (sign_named sign) (rounding_named rounding) text
request_in _ = None

-- what a line asks: nothing, where it is not UTF-8
abbrev pub request_of : List ℕ → Option Asked
request_of line = if is_utf8 line then request_in (fields line) else None

-- a request with another text
abbrev pub with_text : List ℕ → Option Asked → Option Asked
with_text text None = None
with_text text (Some asked) = Some (record { tag = asked.tag; task = asked.task; format = asked.format; text = text })
