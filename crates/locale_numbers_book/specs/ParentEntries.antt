-- The sixth array of a book: entries of a locale and its parent, and the first that is faulty.
-- Defined in docs/books.md, "Parents" and "Faults".
-- Cited by the steps of `Book::from_json`.
use Rattle.std.specs.Prelude.{◌≡◌, Bool, false, ◌&&◌, not, List, [], ◌∷◌, ◌++◌, Option, None, Some, is_some, option_and_then, option_map, option_to_list}
use Rattle.std.specs.Option.{option_or}
use Rattle.serde_json.specs.Data.{Data, Items, no_items, item}
use Rattle.icu_locale_core.specs.TagPreferences.{DataLocaleMeaning}
use Rattle.locale_numbers_parents.specs.Parents.{Entry, leads_to, listed_parent}
use Rattle.locale_numbers_tables.specs.declared.BookError.{BookError}
use Rattle.locale_numbers_tables.specs.declared.BookError.TheVariants.{Shape, Tag, Duplicate, Cycle}
use Rattle.locale_numbers_tables.specs.Fields.{locale_in}
use Rattle.locale_numbers_tables.specs.Entries.{has_count, field_at, is_text_at}
use Rattle.locale_numbers_tables.specs.Faults.{first_broken}

-- the locale and its parent
abbrev pub parent_entry : Data → Option Entry
parent_entry entry = option_and_then (λ locale. option_map {T = DataLocaleMeaning} {U = Entry} (λ parent. (locale, parent)) (field_at locale_in 1 entry)) (field_at locale_in 0 entry)

-- two texts
abbrev pub has_parent_shape : Data → Bool
has_parent_shape entry = has_count 2 entry && is_text_at 0 entry && is_text_at 1 entry

-- the locale is there already
abbrev pub is_listed : List Entry → Option Entry → Bool
is_listed before None = false
is_listed before (Some entry) = is_some (listed_parent before entry.0)

-- the chain of the parent, under the entries before, meets the locale
abbrev pub closes_cycle : List Entry → Option Entry → Bool
closes_cycle before None = false
closes_cycle before (Some entry) = leads_to before entry.1 entry.0

-- what is wrong with an entry after these
abbrev pub parent_fault : List Entry → Data → Option BookError
parent_fault before entry = first_broken (
    (Shape, has_parent_shape entry)
    ∷ (Tag, is_some (parent_entry entry))
    ∷ (Duplicate, not (is_listed before (parent_entry entry)))
    ∷ (Cycle, not (closes_cycle before (parent_entry entry)))
    ∷ [])

-- the fault of the first faulty entry, where these entries are before
abbrev pub parents_faults : List Entry → Items → Option BookError
parents_faults before no_items = None
parents_faults before (item entry rest) = option_or (parent_fault before entry) (parents_faults (before ++ option_to_list (parent_entry entry)) rest)

-- what an entry without a fault says is after the others
pub record AddsParent (entry : Data) (before after : List Entry) : Type 0 where
  pub pair : Entry
  pub says : parent_entry entry ≡ Some pair
  pub sound : parent_fault before entry ≡ None
  pub added : after ≡ before ++ pair ∷ []
