-- Which format words or a skeleton ask for, and whether the words of plural categories are written; where a skeleton is wrong, and its normal text.
-- Defined in include/legumeyet.h, and docs/skeletons.md.
-- Cited by `legumeyet_formatter_open`, `legumeyet_formatter_open_skeleton` and `legumeyet_skeleton_normal`.
use Rattle.std.specs.Prelude.{◌≡◌, ℕ, ℤ, List, Option, Some, None, Result, Ok, Err}
use Rattle.std.specs.Result.{result_map_both}
use Rattle.locale_numbers.specs.Book.{BookTables}
use Rattle.locale_numbers_formats.specs.Changed.{unchanged}
use Rattle.locale_numbers_formats.specs.NormalText.{skeleton_text}
use Rattle.locale_numbers_formats.specs.SkeletonErrors.{place_of}
use Rattle.locale_numbers_formats.specs.SkeletonFormats.{format_of}
use Rattle.locale_numbers_formats.specs.Skeletons.{skeleton_of}
use Rattle.locale_numbers_formats.specs.declared.Notation.{Notation}
use Rattle.locale_numbers_formats.specs.declared.Notation.TheVariants.{Standard, Compact, CompactDigits, Scientific}
use Rattle.locale_numbers_formats.specs.declared.NumberOptions.{NumberOptions}
use Rattle.locale_numbers_formats.specs.declared.Skeleton.{Skeleton as NumberSkeleton}
use Rattle.locale_numbers_formats.specs.declared.SkeletonError.{SkeletonError}
use Rattle.legumeyet_c_values.specs.Words.{shape_of, usual}
use Rattle.legumeyet_c_values.specs.declared.CallError.{CallError}
use Rattle.legumeyet_c_values.specs.declared.CallError.TheVariants.{Memory, Closed, TooSmall, UnknownOption, Tag, Table, Number, Limit, Range, NoUtf8, Unreadable, NotWritten, Exponent, Code, Unkept, Book, Skeleton}
use Rattle.legumeyet_c.specs.declared.asked_format.AskedFormat.{AskedFormat}

-- ---- formats

-- the options that no word changes; those of scientific numbers are in their notation
abbrev pub usual_beside : Notation → NumberOptions
usual_beside Standard = usual
usual_beside (Compact width) = usual
usual_beside (CompactDigits width options) = usual
usual_beside (Scientific style options) = unchanged

-- by words: a shape, with these options
abbrev pub format_by_words : List ℤ → List ℕ → Result AskedFormat CallError
format_by_words words unit =
    result_map_both (λ asked. record { format = record { shape = asked.shape; options = usual_beside asked.shape.notation }; plurals = asked.plurals }) (λ error. error) (shape_of words unit)

-- by a skeleton, of numbers
abbrev pub numbers_by : NumberSkeleton → AskedFormat
numbers_by skeleton = record { format = format_of skeleton; plurals = None }

abbrev pub format_by_skeleton : List ℕ → Result AskedFormat CallError
format_by_skeleton text = result_map_both numbers_by Skeleton (skeleton_of text)

-- ---- the place of a fault

-- where a skeleton is wrong; else what was there
abbrev pub place_by : Result NumberSkeleton SkeletonError → ℕ → ℕ
place_by (Ok skeleton) place = place
place_by (Err error) place = place_of error

-- as an open book is told of it
abbrev pub place_told : Option BookTables → Result NumberSkeleton SkeletonError → ℕ → ℕ
place_told None read place = place
place_told (Some book) read place = place_by read place

-- as an outcome has it
abbrev pub place_of_error : CallError → ℕ → ℕ
place_of_error (Skeleton error) place = place_of error
place_of_error _ place = place

abbrev pub place_of_outcome : Result (Unit {0}) CallError → ℕ → ℕ
place_of_outcome (Ok done) place = place
place_of_outcome (Err error) place = place_of_error error place

-- ---- normal text

-- the normal text of the skeleton that a text is
pub record SaysNormal (text said : List ℕ) : Type 0 where
  pub skeleton : NumberSkeleton
  pub reads : skeleton_of text ≡ Ok skeleton
  pub is : said ≡ skeleton_text skeleton

-- or it is none
pub record IsSkeletonFault (text : List ℕ) (error : CallError) : Type 0 where
  pub fault : SkeletonError
  pub refused : skeleton_of text ≡ Err fault
  pub told : error ≡ Skeleton fault
