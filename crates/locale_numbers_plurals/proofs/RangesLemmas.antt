-- Where memory may be wanting for an entry of ranges: `specs/RangesEntries.antt`.
use Rattle.std.proofs.Common.{◌≡◌, if◌then◌else◌, Bool, true, false, ◌&&◌, Option, Some, None, is_some, refl}
use Rattle.serde_json.specs.Data.{Data}
use Rattle.locale_numbers_faults.specs.declared.BookError.{BookError}
use Rattle.locale_numbers_faults.specs.declared.BookError.TheVariants.{Shape}
use Rattle.locale_numbers_tables.specs.Allocation.{rules_may_grow}
use Rattle.locale_numbers_tables.specs.Entries.{field_at, has_count, is_text_at}
use Rattle.locale_numbers_plurals.specs.RangesEntries.{ranges_fault, ranges_in}

-- an entry with no fault has two fields, and a text first
pub ranges_sound : (entry : Data) → ranges_fault entry ≡ None → rules_may_grow entry ≡ true
ranges_sound entry sound = by (has_count 2 entry) (is_text_at 0 entry) (is_some (field_at ranges_in 1 entry)) _ sound
  where
    by : (a b c : Bool) (o : Option BookError) → (if a && b && c then o else Some Shape) ≡ None → (a && b) ≡ true
    by true true c o e = refl
    by true false c o e = cc
    by false b c o e = cc
