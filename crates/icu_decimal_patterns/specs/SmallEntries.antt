-- Entries whose numbers a byte holds.
-- Defined in docs/compact-text.md, "Entries".
-- Cited by the private steps of `to_json`, and by the laws of what is shown, sent back.
use Rattle.std.specs.Prelude.{◌<◌, List, [], ◌∷◌}
use Rattle.icu_decimal_compact_value.specs.declared.entry.CompactEntry.{CompactEntry}

abbrev pub IsSmall : CompactEntry → Type 0
IsSmall entry = (entry.log10_type < 256) × (entry.exponent < 256)

abbrev pub AreSmall : List CompactEntry → Type 0
AreSmall [] = Unit {0}
AreSmall (entry ∷ entries) = IsSmall entry × AreSmall entries
