-- Where memory may be wanting for an entry of signs: `specs/SignsEntries.antt`.
use Rattle.std.proofs.Common.{◌≡◌, ◌&&◌, not, true, is_some, None, ap}
use Rattle.std.proofs.lemmas.Bool.{or_right}
use Rattle.serde_json.specs.Data.{Data}
use Rattle.locale_numbers_tables.specs.Allocation.{locale_may_grow}
use Rattle.locale_numbers_signs.specs.SignsEntries.{has_signs_shape, signs_fault, signs_may_grow}

pub signs_sound : (entry : Data) → signs_fault entry ≡ None → signs_may_grow entry ≡ true
signs_sound entry sound =
    or_right (has_signs_shape entry && locale_may_grow 0 entry) (not (is_some (signs_fault entry))) (ap (λ o. not (is_some o)) sound)
