-- How many locales a book has, the tag of each, and the tag of the locale that is found for one.
-- Defined in include/legumeyet.h, and docs/books.md, "The locales of a book".
-- Cited by `legumeyet_book_locale_count`, `legumeyet_book_locale` and `legumeyet_book_found_locale`.
use Rattle.std.specs.Prelude.{◌≡◌, ℕ, List, length, Option, Some, None, Result, Ok, Err, option_map, slice_get}
use Rattle.std.specs.Result.{result_map_both}
use Rattle.icu_locale_core.specs.DataText.{data_text}
use Rattle.locale_numbers.specs.Book.{BookTables}
use Rattle.locale_numbers.specs.FoundLocale.{locale_for}
use Rattle.locale_numbers.specs.Tables.{locales_in}
use Rattle.legumeyet_c_values.specs.declared.CallError.{CallError}
use Rattle.legumeyet_c_values.specs.declared.CallError.TheVariants.{Closed, UnknownOption}
use Rattle.legumeyet_c.specs.Opening.{IsTagFault}

-- the locales of an open book are counted
abbrev pub IsCounting : Option BookTables → ℕ → ℕ → Result (Unit {0}) CallError → Type 0
IsCounting None before after outcome = (outcome ≡ Err Closed) × (after ≡ before)
IsCounting (Some book) before after outcome = (outcome ≡ Ok tt) × (after ≡ length (locales_in book))

-- the tag of the locale at this place
abbrev pub SaysLocale : Option BookTables → ℕ → List ℕ → Type 0
SaysLocale None index text = ⊥
SaysLocale (Some book) index text = option_map data_text (slice_get (locales_in book) index) ≡ Some text

-- a closed book comes first, then a place where there is none
abbrev pub IsLocaleFault : Option BookTables → ℕ → CallError → Type 0
IsLocaleFault None index error = error ≡ Closed
IsLocaleFault (Some book) index error = (error ≡ UnknownOption) × (slice_get (locales_in book) index ≡ None)

-- the tag of the locale that is found for this tag
abbrev pub SaysFoundLocale : Option BookTables → List ℕ → List ℕ → Type 0
SaysFoundLocale None tag text = ⊥
SaysFoundLocale (Some book) tag text = result_map_both data_text (λ error. error) (locale_for book tag) ≡ Ok text

-- a closed book comes first, then what is wrong with the tag
abbrev pub IsFoundLocaleFault : Option BookTables → List ℕ → CallError → Type 0
IsFoundLocaleFault None tag error = error ≡ Closed
IsFoundLocaleFault (Some book) tag error = IsTagFault (locale_for book tag) tag error
