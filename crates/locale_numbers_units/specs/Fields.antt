-- One field of an entry of units: when a JSON value is one, and what it says.
-- Defined in docs/books.md, "Units"; codes of currencies after ISO 4217, increments after UTS 35, part 3 (numbers).
-- Cited by the reading of each array of units.
use Rattle.std.specs.Prelude.{ℕ, ◌==◌, Bool, true, false, ◌&&◌, length, Option, Some, None, option_and_then, option_map, if◌then◌else◌}
use Rattle.std.specs.List.{list_all}
use Rattle.std.specs.Option.{option_map_or, option_or}
use Rattle.std.specs.Char.{is_ascii_uppercase}
use Rattle.serde_json.specs.Data.{Data}
use Rattle.serde_json.specs.Find.{as_str, at}
use Rattle.icu_decimal.specs.Identifiers.{Identifier, of_both}
use Rattle.icu_locale_core.specs.Subtags.{Text}
use Rattle.icu_dimension.specs.declared.LetterEnds.{LetterEnds}
use Rattle.icu_dimension.specs.declared.FractionIncrement.{FractionIncrement}
use Rattle.icu_dimension.specs.declared.FractionIncrement.TheVariants.{MultiplesOf1, MultiplesOf2, MultiplesOf5, MultiplesOf10, MultiplesOf20, MultiplesOf25, MultiplesOf50}
use Rattle.locale_numbers_tables.specs.Entries.{field_at}
use Rattle.locale_numbers_tables.specs.Fields.{locale_in, size_in, system_or_none_in}

-- three letters `A` to `Z`
abbrev pub is_code : Text → Bool
is_code text = length text == 3 && list_all is_ascii_uppercase text

abbrev pub code_named : Text → Option Text
code_named text = if is_code text then Some text else None

abbrev pub code_in : Data → Option Text
code_in field = option_and_then code_named (as_str field)

-- a system, a code or the empty text, at a place of an entry
abbrev pub system_or_code_at : ℕ → Data → Option Text
system_or_code_at place entry = option_or (field_at code_in place entry) (field_at system_or_none_in place entry)

-- the locale at place 0, and what the second field is read as
abbrev pub key_with : Option Text → Data → Option Identifier
key_with attribute entry = option_and_then
    (λ locale. option_map (λ read. of_both read locale) attribute)
    (field_at locale_in 0 entry)

-- a value is at a place of an entry, and is so
abbrev pub has_at : (Data → Bool) → ℕ → Data → Bool
has_at holds place entry = option_map_or holds (at place entry) false

-- 1 for the first character, and 2 for the last, added
abbrev pub ends_numbered : ℕ → Option LetterEnds
ends_numbered n =
    if n == 0 then Some (record { first = false; last = false })
    else if n == 1 then Some (record { first = true; last = false })
    else if n == 2 then Some (record { first = false; last = true })
    else if n == 3 then Some (record { first = true; last = true })
    else None

abbrev pub ends_in : Data → Option LetterEnds
ends_in field = option_and_then ends_numbered (size_in field)

-- the increments that a currency may have
abbrev pub increment_numbered : ℕ → Option FractionIncrement
increment_numbered n =
    if n == 1 then Some MultiplesOf1
    else if n == 2 then Some MultiplesOf2
    else if n == 5 then Some MultiplesOf5
    else if n == 10 then Some MultiplesOf10
    else if n == 20 then Some MultiplesOf20
    else if n == 25 then Some MultiplesOf25
    else if n == 50 then Some MultiplesOf50
    else None

abbrev pub increment_in : Data → Option FractionIncrement
increment_in field = option_and_then increment_numbered (size_in field)
