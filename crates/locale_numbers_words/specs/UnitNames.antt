-- The name of a unit of measurement, and the two units of one as `kilometer-per-hour`.
-- UTS 35, part 2 (general), unit identifiers; docs/words.md, "Tables of words".
-- Cited by the reading of units, and by `Words::unit_words`.
use Rattle.std.specs.Prelude.{ℕ, ◌==◌, Bool, true, ◌&&◌, ◌||◌, List, length, codes, Option, None, Some, is_some, if◌then◌else◌}
use Rattle.std.specs.Char.{is_ascii_digit, is_ascii_lowercase}
use Rattle.std.specs.Int.{is_in_range}
use Rattle.std.specs.List.{list_all}
use Rattle.std.specs.Option.{option_map_or}
use Rattle.locale_numbers_words.specs.Cuts.{cut_at, lacks}

abbrev pub per : List ℕ
per = codes "-per-"

-- the two units of a name: `kilometer` and `hour` of `kilometer-per-hour`
abbrev pub per_parts : List ℕ → Option (List ℕ × List ℕ)
per_parts name = cut_at per name

abbrev pub is_compound : List ℕ → Bool
is_compound name = is_some (per_parts name)

-- a small letter, a digit or a hyphen
abbrev pub is_name_byte : ℕ → Bool
is_name_byte b = is_ascii_lowercase b || is_ascii_digit b || b == 45

-- 1 to 32 of these, with `-per-` at most once
abbrev pub is_unit_name : List ℕ → Bool
is_unit_name name =
    is_in_range 1 32 (length name) && list_all is_name_byte name && option_map_or (λ parts. lacks per parts.1) (per_parts name) true

abbrev pub unit_name_in : List ℕ → Option (List ℕ)
unit_name_in name = if is_unit_name name then Some name else None
