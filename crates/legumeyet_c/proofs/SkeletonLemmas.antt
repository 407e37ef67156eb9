-- Where a skeleton is wrong, as the outcome of a call has it.
use Rattle.std.proofs.Common.{◌≡◌, ℕ, List, Option, Some, None, Result, Ok, Err, refl, ap}
use Rattle.std.specs.Result.{result_map_both}
use Rattle.locale_numbers.specs.Book.{BookTables}
use Rattle.locale_numbers_formats.specs.SkeletonErrors.{place_of}
use Rattle.locale_numbers_formats.specs.Skeletons.{skeleton_of}
use Rattle.locale_numbers_formats.specs.declared.Skeleton.{Skeleton as NumberSkeleton}
use Rattle.locale_numbers_formats.specs.declared.SkeletonError.{SkeletonError}
use Rattle.legumeyet_c_values.specs.declared.CallError.{CallError}
use Rattle.legumeyet_c_values.specs.declared.CallError.TheVariants.{Memory, Closed, TooSmall, UnknownOption, Tag, Table, Number, Limit, Range, NoUtf8, Unreadable, NotWritten, Exponent, Code, Unkept, Book, Skeleton}
use Rattle.legumeyet_c.specs.AskedFormats.{numbers_by, place_of_error, place_of_outcome, place_told}
use Rattle.legumeyet_c.specs.HeldFormats.{HeldFormat}
use Rattle.legumeyet_c.specs.Kinds.{format_in}
use Rattle.legumeyet_c.specs.Opening.{FindsFormat, IsFindingFault, IsOpening, IsTagFault, format_found}
use Rattle.legumeyet_c.specs.declared.asked_format.AskedFormat.{AskedFormat}
use Rattle.legumeyet_c.specs.declared.content.Content.{Content}

-- the format of what is read, as a call has it
abbrev pub asked_for : Result NumberSkeleton SkeletonError → Result AskedFormat CallError
asked_for read = result_map_both numbers_by Skeleton read

-- no fault of a tag has a place
pub tag_fault_place : (book : BookTables) (asked : AskedFormat) (tag : List ℕ) (error : CallError) (place : ℕ) → IsTagFault (format_found book asked tag) tag error → place_of_error error place ≡ place
tag_fault_place book asked tag Memory place fault = refl
tag_fault_place book asked tag Closed place fault = refl
tag_fault_place book asked tag TooSmall place fault = refl
tag_fault_place book asked tag UnknownOption place fault = refl
tag_fault_place book asked tag Tag place fault = refl
tag_fault_place book asked tag Table place fault = refl
tag_fault_place book asked tag Number place fault = refl
tag_fault_place book asked tag Limit place fault = refl
tag_fault_place book asked tag Range place fault = refl
tag_fault_place book asked tag NoUtf8 place fault = refl
tag_fault_place book asked tag Unreadable place fault = refl
tag_fault_place book asked tag NotWritten place fault = refl
tag_fault_place book asked tag Exponent place fault = refl
tag_fault_place book asked tag Code place fault = refl
tag_fault_place book asked tag Unkept place fault = refl
tag_fault_place book asked tag (Book error) place fault = refl
tag_fault_place book asked tag (Skeleton error) place fault = absurd fault

-- a call that opens by a skeleton tells its place where it is wrong
place_of_fault : (book : Option BookTables) (read : Result NumberSkeleton SkeletonError) (tag : List ℕ) (error : CallError) (place : ℕ) → IsFindingFault book (asked_for read) tag error
    → place_of_error error place ≡ place_told book read place
place_of_fault None read tag error place is = ap (λ (e : CallError). place_of_error e place) is
place_of_fault (Some book) (Err fault) tag error place is = ap (λ (e : CallError). place_of_error e place) is
place_of_fault (Some book) (Ok s) tag error place fault = tag_fault_place book (numbers_by s) tag error place fault

place_of_found : (book : Option BookTables) (read : Result NumberSkeleton SkeletonError) (tag : List ℕ) (held : HeldFormat) (place : ℕ) → FindsFormat book (asked_for read) tag held
    → place ≡ place_told book read place
place_of_found None read tag held place found = absurd found
place_of_found (Some book) (Err fault) tag held place found = absurd found
place_of_found (Some book) (Ok s) tag held place found = refl

pub place_of_opening : (book : Option BookTables) (read : Result NumberSkeleton SkeletonError) (tag : List ℕ) (before after : Option Content) (outcome : Result (Unit {0}) CallError) (place : ℕ)
    → IsOpening format_in (FindsFormat book (asked_for read) tag) (IsFindingFault book (asked_for read) tag) before after outcome
    → place_of_outcome outcome place ≡ place_told book read place
place_of_opening book read tag before after (Ok done) place opening = let opened = opening.opened refl in place_of_found book read tag opened.0 place opened.1
place_of_opening book read tag before after (Err error) place opening = place_of_fault book read tag error place opening.cause
