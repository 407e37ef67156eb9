-- A number without its sign between the affixes of the sign, in which the unit is, without parts.
-- Defined in docs/units.md, "The text".
-- Cited only by private steps of the answers.
use Rattle.std.specs.Prelude.{List, ◌++◌}
use Rattle.writeable.specs.AnnotatedText.{Event, bytes, without_parts}
use Rattle.icu_decimal.specs.PlainText.{PlainNumber, unsigned_events}
use Rattle.icu_dimension_affixes.specs.UnitPatterns.{AffixPair}

pub record JoinedNumber : Type 0 where
  pub number : PlainNumber
  pub affixes : AffixPair

abbrev pub joined_events : JoinedNumber → List Event
joined_events n = bytes n.affixes.before ++ (without_parts (unsigned_events n.number) ++ bytes n.affixes.after)
