-- The fact that a formatter tells of itself, or why it tells none.
-- Defined in include/legumeyet.h, `legumeyet_formatter_tell`.
-- Cited by `legumeyet_formatter_tell` and its shared twin.
use Rattle.std.specs.Prelude.{◌≡◌, ℕ, List, Option, Some, None, option_map}
use Rattle.locale_numbers_formatter.specs.FormatText.{digit_tables, fractions_in}
use Rattle.legumeyet_c_values.specs.Facts.{Told, fact_numbered, fact_text}
use Rattle.legumeyet_c_values.specs.declared.CallError.{CallError}
use Rattle.legumeyet_c_values.specs.declared.CallError.TheVariants.{Closed, UnknownOption}
use Rattle.legumeyet_c_values.specs.declared.Fact.{Fact}
use Rattle.legumeyet_c.specs.HeldFormats.{HeldFormat, Wording}

-- what facts are told of
abbrev pub told_by : Wording → Told
told_by w = record {
  strings = (digit_tables w.tables).symbols.strings;
  digits = (digit_tables w.tables).digits;
  fractions = fractions_in w.tables;
  rules = option_map (λ plurals. plurals.0) w.plurals;
}

-- the text of a fact, where there is one
abbrev pub fact_in : Wording → Option Fact → Option (List ℕ)
fact_in w None = None
fact_in w (Some fact) = fact_text (told_by w) fact

abbrev pub SaysFact : Option HeldFormat → ℕ → List ℕ → Type 0
SaysFact None number text = ⊥
SaysFact (Some held) number text = fact_in held.wording (fact_numbered number) ≡ Some text

-- no fact has the number, or the formatter has none of it
pub record HasNoFact (w : Wording) (number : ℕ) (error : CallError) : Type 0 where
  pub is : error ≡ UnknownOption
  pub none : fact_in w (fact_numbered number) ≡ None

-- a closed handle comes first
abbrev pub IsFactFault : Option HeldFormat → ℕ → CallError → Type 0
IsFactFault None number error = error ≡ Closed
IsFactFault (Some held) number error = HasNoFact held.wording number error
