-- The folded texts that a lenient reader owns.
-- Defined in docs/units.md, "Lenient reading".
-- Cited by the view of `LenientUnitReader` and by its private steps.
use Rattle.std.specs.Prelude.{string_bytes}
use Rattle.icu_dimension_affixes.specs.HeldReaders.{pair_of}
use Rattle.icu_dimension_affixes.specs.UnitReading.{SignPairs}
use Rattle.icu_dimension_lenient.specs.LenientUnits.{FoldedUnit}
use Rattle.icu_dimension_lenient.specs.declared.pairs.FoldedPairs.{FoldedPairs}
use Rattle.icu_dimension_lenient.specs.declared.pairs.FoldedTexts.{FoldedTexts}

abbrev pub pairs_of : FoldedPairs → SignPairs
pairs_of p = record { none = pair_of p.none; minus = pair_of p.minus; plus = pair_of p.plus }

abbrev pub unit_of : FoldedTexts → FoldedUnit
unit_of f = record { pairs = pairs_of f.pairs; unit = string_bytes f.unit; code = string_bytes f.code }
