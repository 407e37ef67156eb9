-- What is kept beside what says texts: the tables of plain numbers, where texts are put with them directly.
-- Defined in docs/plain-text.md, "Of a text".
-- Cited by `KeptSayer` and its calls.
use Rattle.std.specs.Prelude.{◌≡◌, pos, ℕ, List, ◌++◌, Some, Option, false, IfSome}
use Rattle.icu_decimal_direct.specs.TextTables.{text_tables}
use Rattle.icu_decimal_direct.specs.declared.TextTables.{TextTables}
use Rattle.locale_numbers_formats.specs.declared.NumberOptions.{NumberOptions}
use Rattle.locale_numbers_formats.specs.declared.Rounding.TheVariants.{Usual}
use Rattle.locale_numbers_formats.specs.declared.TrailingZeros.TheVariants.{Keep}
use Rattle.locale_numbers_formatter.specs.FormatText.{plain_tables}
use Rattle.legumeyet_options.specs.Digits.{options_by}
use Rattle.legumeyet_options.specs.Sayings.{Saying, text_said}
use Rattle.legumeyet_options.specs.declared.saying.Sayer.{Sayer}
use Rattle.legumeyet_options.specs.declared.saying.Sayer.TheVariants as by

-- the options of no words
abbrev pub usual : NumberOptions
usual = options_by Usual Keep (pos 0)

-- what is known writes plain numbers as they are given
abbrev pub KnowsTexts : Sayer → Option TextTables → Type 0
KnowsTexts sayer texts = IfSome texts (λ known. sayer ≡ by.Writes (Some (plain_tables (text_tables known))) usual false)

-- the text that is said was put after what was there
abbrev pub PutSaid : Saying → (before after : List ℕ) → Type 0
PutSaid saying before after = (text : List ℕ) × (text_said saying ≡ Some text) × (after ≡ before ++ text)
