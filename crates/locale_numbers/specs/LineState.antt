-- What is kept from one line of a run to the next, and that all of it is so.
-- Defined in docs/requests.md, "What a cache keeps".
-- Cited by the private steps of `run`.
use Rattle.std.specs.Prelude.{Bool, Option, IfSome, IsTrue}
use Rattle.std.specs.List.{All}
use Rattle.locale_numbers_book.specs.Book.{BookTables}
use Rattle.locale_numbers_cache.specs.Cached.{Cached, IsLatest, IsSound}
use Rattle.locale_numbers_cache.specs.LastRead.{AreRead, Remembered}
use Rattle.locale_numbers.specs.FormatterKeys.{finds}
use Rattle.locale_numbers.specs.Front.{HasKeyThat, front_of}
use Rattle.locale_numbers.specs.KeptFormatters.{IsMadeFor, Kept}
use Rattle.locale_numbers.specs.declared.formatter_key.FormatterKey.{FormatterKey}
use Rattle.locale_numbers.specs.declared.front.Front.{Front}

-- each formatter is the one of its key, and what was read of each front is what it asks; for the front that came last it is right what is
-- noted: where the formatter that was found last is noted to be that of this front, it is
abbrev pub IsSoundState : BookTables → Cached FormatterKey Kept → Remembered (Option Front) → Bool → Type 0
IsSoundState book formatters read is_held =
    IsSound (finds book) (IsMadeFor book) formatters
    × All (AreRead front_of) read.pairs
    × IfSome read.latest (HasKeyThat (λ key. IsTrue is_held → IsLatest (IsMadeFor book) key formatters))
