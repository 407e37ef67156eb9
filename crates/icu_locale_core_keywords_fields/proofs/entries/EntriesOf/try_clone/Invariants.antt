use Rattle.std.proofs.Common.{◌≡◌, ◌≤◌, length, take, vec_len, vec_capacity}
use Rattle.icu_locale_core_keywords_fields.proofs.entries.EntriesOf.try_clone.Given as goal

abbrev pub invariant-loop-key : goal.invariant-loop-key
invariant-loop-key g l =
    (l.entries.items ≡ take l.key-index l.key-items) × (vec_len l.entries ≡ l.key-index) × (length l.key-items ≤ vec_capacity l.entries)
