-- What is said of a text is what the line of the same task, format and text is answered.
-- Defined in docs/command.md, "What is proved".
-- Cited by the law of `laws.rt`.
use Rattle.std.specs.Prelude.{◌≡◌, ◌∷◌, ◌++◌, ℕ, true, false, List, Option, None, Result, Ok, Err}
use Rattle.std.specs.Str.{is_utf8}
use Rattle.writeable.specs.HeldParts.{Held}
use Rattle.icu_decimal.specs.declared.error.DataError.{DataError}
use Rattle.icu_plurals.specs.Rules.{Rules}
use Rattle.icu_plurals.specs.declared.PluralRange.{PluralRange}
use Rattle.icu_plurals.specs.declared.PluralRuleType.{PluralRuleType}
use Rattle.icu_plurals.specs.declared.PluralRuleType.TheVariants.{Cardinal}
use Rattle.locale_numbers_formats.specs.declared.NumberFormat.{NumberFormat}
use Rattle.locale_numbers_formatter.specs.FormatText.{FormatTables}
use Rattle.locale_numbers_answers.specs.AnswerLine.{refused, written}
use Rattle.locale_numbers_answers.specs.Answers.{answer_by, where_found}
use Rattle.locale_numbers_requests.specs.Request.{tab}
use Rattle.locale_numbers_requests.specs.declared.Refusal.{Refusal}
use Rattle.locale_numbers_requests.specs.declared.Task.{Task}
use Rattle.locale_numbers_requests.specs.declared.Task.TheVariants as task
use Rattle.legumeyet_options.specs.Sayings.{Saying, sayer_for, saying}
use Rattle.legumeyet_options.specs.declared.saying.NotSaid.TheVariants.{Refused}

-- the text, and of a compact number or a scientific one the value shown behind it; or the word of the refusal
pub data Agrees : Saying → List ℕ → Type 0 where
  alone : (held : Held) → Agrees (Ok held) (written held.text)
  with_value : (held : Held) (value : List ℕ) → Agrees (Ok held) (written (held.text ++ tab ∷ value))
  no_text : (why : Refusal) → Agrees (Err (Refused why)) (refused why)

-- what stands beside what is found
abbrev pub beside_found : (FormatTables → Option FormatTables) → Result FormatTables DataError → Option FormatTables
beside_found second (Err error) = None
beside_found second (Ok f) = second f

-- the rules that a task asks for
abbrev pub rules_asked : {A : Type 0} → Task → (PluralRuleType → Option A) → Option A
rules_asked task.Write rules = None
rules_asked task.WriteExact rules = None
rules_asked task.Read rules = None
rules_asked task.ReadLenient rules = None
rules_asked (task.Category rule_type) rules = rules rule_type
rules_asked task.RangeCategory rules = rules Cardinal

abbrev pub SaysAsLines : Type 0
SaysAsLines = (task : Task) (format : NumberFormat) (found : Result FormatTables DataError) (second : FormatTables → Option FormatTables)
    (rules : PluralRuleType → Option (Rules × List PluralRange)) (text : List ℕ) → is_utf8 text ≡ true
    → Agrees (saying (sayer_for task format false (where_found found) (beside_found second found) (rules_asked task rules)) text)
    (answer_by task format found second rules text)
