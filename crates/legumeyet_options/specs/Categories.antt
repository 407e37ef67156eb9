-- What is said of a text where the plural category of its number is asked, or of its range: the word of the category of what is shown, or why nothing is.
-- Defined in docs/command.md, "Options", and docs/plurals.md, "Numbers as they are shown".
-- Cited by `say` through Sayings.antt.
use Rattle.std.specs.Prelude.{ℕ, ◌&&◌, ◌||◌, Bool, if◌then◌else◌, List, Option, Some, None, Result, Ok, Err}
use Rattle.writeable.specs.AnnotatedText.{bytes}
use Rattle.writeable.specs.HeldParts.{Held, held_after}
use Rattle.fixed_decimal.specs.Number.{Number}
use Rattle.fixed_decimal.specs.SignedValue.{SignedValue}
use Rattle.icu_plurals.specs.Categories.{word}
use Rattle.icu_plurals.specs.Rules.{Rules}
use Rattle.icu_plurals.specs.declared.PluralCategory.{PluralCategory}
use Rattle.icu_plurals.specs.declared.PluralRange.{PluralRange}
use Rattle.locale_numbers_formats.specs.Changed.{changed}
use Rattle.locale_numbers_formats.specs.declared.NumberOptions.{NumberOptions}
use Rattle.locale_numbers_formatter.specs.FormatText.{FormatTables, fractions_in}
use Rattle.locale_numbers_answers.specs.CategoryAnswer.{shown_category, shown_range_category}
use Rattle.locale_numbers_answers.specs.NumberReading.{Reading, beyond, nothing, number, reading_of}
use Rattle.locale_numbers_requests.specs.declared.Refusal.TheVariants as refusal
use Rattle.legumeyet_options.specs.Fractions.{has_fraction}
use Rattle.legumeyet_options.specs.declared.categories.CategorySayer.{CategorySayer}
use Rattle.legumeyet_options.specs.declared.saying.NotSaid.{NotSaid}
use Rattle.legumeyet_options.specs.declared.saying.NotSaid.TheVariants.{Refused, Coarse}

-- the word of a category; what is shown may be no decimal
abbrev pub category_saying : Option PluralCategory → Result Held NotSaid
category_saying None = Err (Refused refusal.Range)
category_saying (Some category) = Ok (held_after (bytes (word category)))

abbrev pub category_or_why : Result (Option PluralCategory) NotSaid → Result Held NotSaid
category_or_why (Err why) = Err why
category_or_why (Ok category) = category_saying category

-- ---- of a number

-- as the options change it, by a formatter and by rules
abbrev pub found_category : Option FormatTables → Option (Rules × List PluralRange) → NumberOptions → SignedValue Number → Result (Option PluralCategory) NotSaid
found_category None rules options value = Err (Refused refusal.Table)
found_category (Some f) None options value = Err (Refused refusal.Table)
found_category (Some f) (Some rules) options value = Ok (shown_category f rules.0 (changed options (fractions_in f) value))

abbrev pub value_category_saying : CategorySayer → SignedValue Number → Result Held NotSaid
value_category_saying s value =
    if s.is_coarse && has_fraction value.absolute then Err Coarse else category_or_why (found_category s.found s.rules s.options value)

abbrev pub reading_category_saying : CategorySayer → Reading → Result Held NotSaid
reading_category_saying s nothing = Err (Refused refusal.Number)
reading_category_saying s beyond = Err (Refused refusal.Limit)
reading_category_saying s (number value) = value_category_saying s value

-- ---- of a range

abbrev pub found_range_category : Option FormatTables → Option (Rules × List PluralRange) → NumberOptions → SignedValue Number → SignedValue Number
    → Result (Option PluralCategory) NotSaid
found_range_category None rules options m n = Err (Refused refusal.Table)
found_range_category (Some f) None options m n = Err (Refused refusal.Table)
found_range_category (Some f) (Some rules) options m n =
    Ok (shown_range_category f rules.0 rules.1 (changed options (fractions_in f) m) (changed options (fractions_in f) n))

abbrev pub have_fraction : Number → Number → Bool
have_fraction m n = has_fraction m || has_fraction n

abbrev pub ends_saying : CategorySayer → SignedValue Number → SignedValue Number → Result Held NotSaid
ends_saying s m n =
    if s.is_coarse && have_fraction m.absolute n.absolute then Err Coarse else category_or_why (found_range_category s.found s.rules s.options m n)

-- the first end is refused before the second
abbrev pub ends_reading_saying : CategorySayer → Reading → Reading → Result Held NotSaid
ends_reading_saying s nothing other = Err (Refused refusal.Number)
ends_reading_saying s beyond other = Err (Refused refusal.Limit)
ends_reading_saying s (number m) nothing = Err (Refused refusal.Number)
ends_reading_saying s (number m) beyond = Err (Refused refusal.Limit)
ends_reading_saying s (number m) (number n) = ends_saying s m n

abbrev pub range_reading_saying : CategorySayer → Option (List ℕ × List ℕ) → Result Held NotSaid
range_reading_saying s None = Err (Refused refusal.Number)
range_reading_saying s (Some ends) =
    ends_reading_saying s (reading_of ends.0) (reading_of ends.1)
