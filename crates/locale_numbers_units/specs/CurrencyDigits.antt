-- The digits of currencies: what an entry says, and what is wrong with one.
-- Defined in docs/books.md, "Units" and "Faults".
-- Cited by the reading of digits of currencies.
use Rattle.std.specs.Prelude.{ℕ, Bool, ◌&&◌, [], ◌∷◌, Option, is_some, option_and_then, option_map}
use Rattle.serde_json.specs.Data.{Data}
use Rattle.icu_locale_core.specs.Subtags.{Text}
use Rattle.icu_dimension.specs.declared.Fraction.{Fraction}
use Rattle.icu_dimension.specs.declared.FractionInfo.{FractionInfo}
use Rattle.locale_numbers_tables.specs.Entries.{field_at, has_count, is_text_at}
use Rattle.locale_numbers_tables.specs.Fields.{size_in}
use Rattle.locale_numbers_tables.specs.declared.BookError.{BookError}
use Rattle.locale_numbers_tables.specs.declared.BookError.TheVariants.{Shape, Code, Duplicate}
use Rattle.locale_numbers_tables.specs.Faults.{first_broken}
use Rattle.locale_numbers_units.specs.Fields.{code_in, increment_in}

-- place 0: the code
abbrev pub digits_key : Data → Option Text
digits_key entry = field_at code_in 0 entry

-- digits at one place, and the increment at another
abbrev pub fraction_at : ℕ → ℕ → Data → Option Fraction
fraction_at digits_place increment_place entry = option_and_then
    (λ digits. option_map (λ increment. record { digits = digits; increment = increment }) (field_at increment_in increment_place entry))
    (field_at size_in digits_place entry)

-- places 1 to 4: the digits and the increment, and those of cash
abbrev pub digits_said : Data → Option FractionInfo
digits_said entry = option_and_then
    (λ standard. option_map (λ cash. record { standard = standard; cash = cash }) (fraction_at 3 4 entry))
    (fraction_at 1 2 entry)

-- five fields: a text, and digits and increments
abbrev pub has_digits_shape : Data → Bool
has_digits_shape entry = has_count 5 entry && is_text_at 0 entry && is_some (digits_said entry)

-- an entry without a code has no key, so that no earlier one has it too
abbrev pub digits_fault : Bool → Data → Option BookError
digits_fault is_new entry = first_broken (
    (Shape, has_digits_shape entry)
    ∷ (Code, is_some (digits_key entry))
    ∷ (Duplicate, is_new)
    ∷ [])
