-- Where the reading of a book may run out of memory: never at a fault that is found before memory is asked for.
-- Defined in docs/books.md, "Faults".
-- Cited by the steps of `Book::from_json`.
use Rattle.std.specs.Prelude.{ℕ, Bool, false, not, ◌&&◌, ◌||◌, is_some}
use Rattle.std.specs.Option.{option_map_or}
use Rattle.serde_json.specs.Data.{Data, Items, no_items, item}
use Rattle.serde_json.specs.Find.{as_str}
use Rattle.icu_locale_core.specs.Pieces.{pieces}
use Rattle.icu_locale_core.specs.TagAllocation.{tag_may_grow}
use Rattle.locale_numbers_tables.specs.Entries.{has_count, field_at, is_text_at}
use Rattle.locale_numbers_tables.specs.Faults.{has_symbols_shape, symbols_fault, digits_fault}

-- a locale: where the field is a text that is so
abbrev pub locale_may_grow : ℕ → Data → Bool
locale_may_grow place entry = option_map_or (λ text. tag_may_grow (pieces text)) (field_at as_str place entry) false

-- symbols: an entry of the right shape, of which the locale may take memory, or one that has no fault
abbrev pub symbols_may_grow : Data → Bool
symbols_may_grow entry = has_symbols_shape entry && locale_may_grow 0 entry || not (is_some (symbols_fault entry))

-- digits: an entry that has no fault
abbrev pub digits_may_grow : Data → Bool
digits_may_grow entry = not (is_some (digits_fault entry))

-- plural rules: an entry of two fields, of which the first is a text
abbrev pub rules_may_grow : Data → Bool
rules_may_grow entry = has_count 2 entry && is_text_at 0 entry

-- patterns: an entry of four fields, of which the first two are texts
abbrev pub compact_may_grow : Data → Bool
compact_may_grow entry = has_count 4 entry && is_text_at 0 entry && is_text_at 1 entry

-- an array: one that begins with such an entry
abbrev pub begins_with : (Data → Bool) → Items → Bool
begins_with may_grow no_items = false
begins_with may_grow (item first rest) = may_grow first
