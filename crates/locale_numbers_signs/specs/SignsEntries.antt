-- The entries of signs: what an entry says, and what is wrong with it.
-- Defined in docs/books.md, "More" and "Faults".
-- Cited by the reading of an entry, and by Book.antt of `locale_numbers_book`.
use Rattle.std.specs.Prelude.{ℕ, ◌==◌, Bool, not, ◌&&◌, ◌||◌, [], ◌∷◌, Option, None, is_some, option_map, unwrap_or, if◌then◌else◌}
use Rattle.serde_json.specs.Data.{Data, Items, null}
use Rattle.serde_json.specs.Find.{at}
use Rattle.icu_decimal.specs.Identifiers.{Identifier}
use Rattle.locale_numbers_faults.specs.declared.BookError.{BookError}
use Rattle.locale_numbers_faults.specs.declared.BookError.TheVariants.{Shape, Tag, System, Text}
use Rattle.locale_numbers_tables.specs.Allocation.{locale_may_grow}
use Rattle.locale_numbers_tables.specs.Entries.{entry_key, field_at, has_count, is_text_at, text_or_empty}
use Rattle.locale_numbers_tables.specs.Faults.{first_broken, first_fault_after, has_locale}
use Rattle.locale_numbers_tables.specs.Fields.{plain_text_in, system_or_none_in}
use Rattle.locale_numbers_tables.specs.Keys.{same_key}
use Rattle.locale_numbers_signs.specs.NumberSigns.{BoundTexts, RangeTexts, SignTexts}

-- ---- what is said

-- the array at a place of an entry
abbrev pub nested : ℕ → Data → Data
nested place entry = unwrap_or (at place entry) null

abbrev pub range_said : Data → RangeTexts
range_said texts = record { before = text_or_empty 0 texts; between = text_or_empty 1 texts; after = text_or_empty 2 texts }

abbrev pub bound_said : Data → BoundTexts
bound_said texts = record { before = text_or_empty 0 texts; after = text_or_empty 1 texts }

-- places 2 to 8
abbrev pub signs_said : Data → SignTexts
signs_said entry = record {
  exponent = text_or_empty 2 entry;
  multiplication = text_or_empty 3 entry;
  permille = text_or_empty 4 entry;
  about = text_or_empty 5 entry;
  range = range_said (nested 6 entry);
  at_least = bound_said (nested 7 entry);
  at_most = bound_said (nested 8 entry);
}

-- ---- what is wrong

-- an array of two texts or of three
abbrev pub are_texts : ℕ → Data → Bool
are_texts count texts = has_count count texts && is_text_at 0 texts && is_text_at 1 texts && (count == 2 || is_text_at 2 texts)

-- nine fields: six texts, and arrays of three, two and two
abbrev pub has_signs_shape : Data → Bool
has_signs_shape entry =
    has_count 9 entry && is_text_at 0 entry && is_text_at 1 entry && is_text_at 2 entry && is_text_at 3 entry && is_text_at 4 entry && is_text_at 5 entry
    && are_texts 3 (nested 6 entry) && are_texts 2 (nested 7 entry) && are_texts 2 (nested 8 entry)

abbrev pub has_sign_texts : Data → Bool
has_sign_texts entry =
    is_some (field_at plain_text_in 2 entry) && is_some (field_at plain_text_in 3 entry) && is_some (field_at plain_text_in 4 entry)
    && is_some (field_at plain_text_in 5 entry)
    && is_some (field_at plain_text_in 0 (nested 6 entry)) && is_some (field_at plain_text_in 1 (nested 6 entry)) && is_some (field_at plain_text_in 2 (nested 6 entry))
    && is_some (field_at plain_text_in 0 (nested 7 entry)) && is_some (field_at plain_text_in 1 (nested 7 entry))
    && is_some (field_at plain_text_in 0 (nested 8 entry)) && is_some (field_at plain_text_in 1 (nested 8 entry))

abbrev pub signs_fault : Data → Option BookError
signs_fault entry = first_broken (
    (Shape, has_signs_shape entry)
    ∷ (Tag, has_locale entry)
    ∷ (System, is_some (field_at system_or_none_in 1 entry))
    ∷ (Text, has_sign_texts entry)
    ∷ [])

abbrev pub signs_faults : Items → Option BookError
signs_faults entries = first_fault_after same_key entry_key signs_fault [] entries

-- ---- entries

-- the key, and the signs
abbrev pub signs_entry : Data → Option (Identifier × SignTexts)
signs_entry entry =
    if has_signs_shape entry && has_sign_texts entry
    then option_map {T = Identifier} {U = Identifier × SignTexts} (λ key. (key, signs_said entry)) (entry_key entry)
    else None

-- where reading one may run out of memory: one of the right shape, of which the locale may take memory, or one that has no fault
abbrev pub signs_may_grow : Data → Bool
signs_may_grow entry = has_signs_shape entry && locale_may_grow 0 entry || not (is_some (signs_fault entry))
