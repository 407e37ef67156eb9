-- A text written as a field: in quotes where it was in quotes, or where it can't stand without them.
-- Defined in docs/command.md, "Fields of a table".
-- Cited by `put_text`.
use Rattle.std.specs.Prelude.{◌≡◌, ℕ, Bool, true, false, ◌||◌, List, ◌++◌, Option, Some, None, if◌then◌else◌}
use Rattle.std.specs.List.{list_any}
use Rattle.legumeyet_columns.specs.declared.dialect.Dialect.{Dialect}
use Rattle.legumeyet_columns.specs.FieldTexts.{in_quotes, is_special}

abbrev pub has_special : Dialect → List ℕ → Bool
has_special dialect text = list_any (is_special dialect) text

-- None where it can't be written
abbrev pub cell_of : Dialect → Bool → List ℕ → Option (List ℕ)
cell_of dialect was_in_quotes text =
    if dialect.has_quotes then Some (if was_in_quotes || has_special dialect text then in_quotes text else text)
    else (if has_special dialect text then None else Some text)

-- the cell was put after what was there, or there is none and nothing was
abbrev pub PutCell : Option (List ℕ) → (before after : List ℕ) → Bool → Type 0
PutCell None before after is_put = (is_put ≡ false) × (after ≡ before)
PutCell (Some cell) before after is_put = (is_put ≡ true) × (after ≡ before ++ cell)
