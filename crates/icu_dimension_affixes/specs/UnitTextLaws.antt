-- Laws of the text of a number with a unit, over the definitions alone.
-- Defined in docs/units.md, "Laws".
-- Cited by the functions of `laws`.
use Rattle.std.specs.Prelude.{◌≡◌, [], None}
use Rattle.writeable.specs.AnnotatedText.{text_of}
use Rattle.fixed_decimal.specs.Number.{Number}
use Rattle.fixed_decimal.specs.SignedValue.{SignedValue}
use Rattle.icu_decimal_plain.specs.PlainText.{decimal_text}
use Rattle.icu_dimension_affixes.specs.UnitPatterns.{AffixesText}
use Rattle.icu_dimension_affixes.specs.UnitText.{UnitSettings, unit_decimal_events, unit_decimal_text, unit_formatted}
use Rattle.icu_dimension_affixes.specs.declared.affixes.UnitPlace.{UnitPlace}

-- what the events of a decimal write is the text of its definition
abbrev pub UnitIsText : Type 0
UnitIsText = (s : UnitSettings) (d : SignedValue Number) → text_of (unit_decimal_events (unit_formatted s d)) ≡ unit_decimal_text s d

-- three empty texts
abbrev pub no_texts : UnitPlace → AffixesText
no_texts place = record { place = place; first = []; second = []; third = [] }

-- with them and an empty unit, and no affixes of a sign's own, the text is the plain text of the decimal
abbrev pub EmptyUnitIsPlain : Type 0
EmptyUnitIsPlain = (s : UnitSettings) (place : UnitPlace) (d : SignedValue Number)
    → s.pattern ≡ record { unsigned = no_texts place; minus = None; plus = None } → s.unit.text ≡ []
    → unit_decimal_text s d ≡ decimal_text s.tables d
