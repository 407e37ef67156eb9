-- Where the answer to a line takes no memory beside the room for its text: its tag takes none or its front was read lately, its
-- formatter is kept, with what reads a unit where it reads one, and its text takes none.
-- Defined in docs/requests.md, "What a cache keeps".
-- Cited by the private steps of an answer.
use Rattle.std.specs.Prelude.{◌≡◌, ◌≤◌, ◌-◌, ℕ, true, List, Option, None, Some, IfSome, length, slice_get, take}
use Rattle.fixed_decimal.specs.Number.{Number}
use Rattle.fixed_decimal.specs.Shifts.{plain_zero}
use Rattle.fixed_decimal.specs.SignedValue.{SignedValue}
use Rattle.fixed_decimal.specs.declared.Sign.TheVariants.{None as NoSign}
use Rattle.icu_locale_core.specs.Pieces.{pieces}
use Rattle.icu_locale_core.specs.TagAllocation.{tag_may_grow}
use Rattle.locale_numbers_book.specs.Book.{BookTables}
use Rattle.locale_numbers_cache.specs.LastRead.{Remembered, either_remembers, pair_at}
use Rattle.locale_numbers_requests.specs.Request.{Asked}
use Rattle.locale_numbers.specs.Front.{HasKeyThat, MayTakeAfter, front_asked}
use Rattle.locale_numbers.specs.KeptFormatters.{Kept}
use Rattle.locale_numbers.specs.declared.formatter_key.FormatterKey.{FormatterKey}
use Rattle.locale_numbers.specs.declared.front.Front.{Front}

-- a tag that may take memory to be read
abbrev pub MayTakeTag : Option Asked → Type 0
MayTakeTag None = ⊥
MayTakeTag (Some asked) = tag_may_grow (pieces asked.tag) ≡ true

-- neither the formatter of a request, by what is known of keys and kept for them, nor its text takes memory, after a number that was
-- read before
pub record TakesNone (book : BookTables) (takes : FormatterKey → Type 0) (kept_for : FormatterKey → Option Kept) (before : SignedValue Number) (asked : Asked) : Type 0 where
  pub formatter : HasKeyThat (λ key. ¬ (takes key)) (front_asked (Some asked))
  pub text : ¬ (MayTakeAfter book kept_for (front_asked (Some asked)) asked.text before)

-- the number before the first line
abbrev pub no_number : SignedValue Number
no_number = record { sign = NoSign; absolute = plain_zero }

-- the front of a line with this text: all before it
abbrev pub front_before : List ℕ → List ℕ → List ℕ
front_before line text = take (length line - length text) line

-- a front of 256 bytes at most that one of its places keeps
pub record IsRemembered (front : List ℕ) (fronts : Remembered (Option Front)) : Type 0 where
  pub short : length front ≤ 256
  pub there : IfSome (slice_get fronts.pairs (pair_at front)) (λ pair. either_remembers front pair ≡ true)
