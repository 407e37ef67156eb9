-- Arrays in a value: whether one is at a place, and its items.
-- Defined in docs/books.md, "The form" and "More".
-- Cited by `is_array_at`, `next_array` and `next_items`, and by Form.antt of `locale_numbers_book`.
use Rattle.std.specs.Prelude.{ℕ, Bool, is_some, unwrap_or}
use Rattle.serde_json.specs.Data.{Data, Items, no_items}
use Rattle.serde_json.specs.Find.{as_array}
use Rattle.locale_numbers_tables.specs.Entries.{field_at}

abbrev pub is_array_at : ℕ → Data → Bool
is_array_at place value = is_some (field_at as_array place value)

-- the items of the array at a place, none where no array is there
abbrev pub items_at : ℕ → Data → Items
items_at place value = unwrap_or (field_at as_array place value) no_items
