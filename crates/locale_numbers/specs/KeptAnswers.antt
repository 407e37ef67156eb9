-- What answers lines one by one: its book, what it keeps, and how many formatters it will have made.
-- Defined in docs/requests.md, "What a cache keeps".
-- Cited by the calls of `Answers`, and by the private steps of an answer.
use Rattle.std.specs.Prelude.{◌≡◌, ℕ, ◌+◌, Bool, List, map, min, Option}
use Rattle.locale_numbers_book.specs.Book.{BookTables}
use Rattle.locale_numbers_cache.specs.Cached.{Cached, most, recent_of, used}
use Rattle.locale_numbers_cache.specs.LastRead.{Remembered}
use Rattle.locale_numbers_cache.specs.Laws.{kept_after}
use Rattle.locale_numbers_cache.specs.Recent.{misses}
use Rattle.locale_numbers.specs.FormatterKeys.{finds, key_of, same_keys}
use Rattle.locale_numbers.specs.LineState.{IsSoundState}
use Rattle.locale_numbers.specs.KeptFormatters.{Kept}
use Rattle.locale_numbers.specs.declared.formatter_key.FormatterKey.{FormatterKey}
use Rattle.locale_numbers.specs.declared.front.Front.{Front}

-- a book, how many formatters are kept at most, the keys of those that are, the last used first, and how many were made
pub record Keeping : Type 0 where
  pub book : BookTables
  pub capacity : ℕ
  pub recent : List FormatterKey
  pub made : ℕ

abbrev pub keeping : BookTables → ℕ → List FormatterKey → ℕ → Keeping
keeping book capacity recent made = record { book = book; capacity = capacity; recent = recent; made = made }

-- of a book what a cache keeps
abbrev pub keeping_in : BookTables → Cached FormatterKey Kept → Keeping
keeping_in book formatters = keeping book formatters.capacity (recent_of formatters) formatters.made

-- the same once lines with these keys are answered too
abbrev pub keeping_over : Keeping → List (Option FormatterKey) → Keeping
keeping_over kept keys = record kept {
  recent = kept_after same_keys kept.capacity kept.recent (used (finds kept.book) keys);
  made = min (kept.made + misses same_keys kept.capacity kept.recent (used (finds kept.book) keys)) most;
}

-- the keys whose formatters are kept once these lines are answered too, the last used first
abbrev pub keeps_after : Keeping → List (List ℕ) → List FormatterKey
keeps_after kept lines = kept_after same_keys kept.capacity kept.recent (used (finds kept.book) (map key_of lines))

-- how many formatters will have been made once these lines are answered too: one for each use of a key that is not kept then
abbrev pub makes_after : Keeping → List (List ℕ) → ℕ
makes_after kept lines = min (kept.made + misses same_keys kept.capacity kept.recent (used (finds kept.book) (map key_of lines))) most

-- what is kept is sound by the tables that make it, which are those of the book
abbrev pub IsAnswerer : BookTables → BookTables → Cached FormatterKey Kept → Remembered (Option Front) → Bool → Type 0
IsAnswerer book made_of formatters read is_held = IsSoundState made_of formatters read is_held × (made_of ≡ book)
