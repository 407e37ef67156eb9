-- Where what is wrong with a skeleton is, and the number of each error.
-- Defined in docs/skeletons.md, "Faults".
-- Cited by `SkeletonError::place` and `number`, and by the calls that read skeletons.
use Rattle.std.specs.Prelude.{ℕ}
use Rattle.locale_numbers_formats.specs.declared.skeleton_error.SkeletonError.{SkeletonError}
use Rattle.locale_numbers_formats.specs.declared.skeleton_error.SkeletonError.TheVariants.{Unknown, Twice, Code, Pair, System, Later, Unsupported}
use Rattle.locale_numbers_formats.specs.declared.skeleton_error.WordFault.{WordFault}
use Rattle.locale_numbers_formats.specs.declared.skeleton_error.WordFault.TheVariants as word

abbrev pub error_at : WordFault → ℕ → SkeletonError
error_at word.Unknown place = Unknown place
error_at word.Twice place = Twice place
error_at word.Code place = Code place
error_at word.Pair place = Pair place
error_at word.System place = System place
error_at word.Later place = Later place
error_at word.Unsupported place = Unsupported place

abbrev pub place_of : SkeletonError → ℕ
place_of (Unknown place) = place
place_of (Twice place) = place
place_of (Code place) = place
place_of (Pair place) = place
place_of (System place) = place
place_of (Later place) = place
place_of (Unsupported place) = place

abbrev pub number_of : SkeletonError → ℕ
number_of (Unknown place) = 1
number_of (Twice place) = 2
number_of (Code place) = 3
number_of (Pair place) = 4
number_of (System place) = 5
number_of (Later place) = 6
number_of (Unsupported place) = 7
