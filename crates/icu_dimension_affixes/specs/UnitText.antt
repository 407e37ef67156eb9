-- The text of a number with a unit, and its parts: the number without its sign between the affixes of the sign.
-- UTS 35, part 3 (numbers), number patterns; docs/units.md, "The text" and "Parts".
-- Cited by the calls of `UnitTables` and `NumberWithUnit`, and by the laws.
use Rattle.std.specs.Prelude.{ℕ, List, ◌++◌, Option, None, Some, codes}
use Rattle.writeable.specs.AnnotatedText.{Event, bytes, opening, closing}
use Rattle.writeable.specs.PartName.{PartName}
use Rattle.fixed_decimal.specs.Number.{Number}
use Rattle.fixed_decimal.specs.SignedValue.{SignedValue}
use Rattle.fixed_decimal.specs.declared.Sign.{Sign}
use Rattle.fixed_decimal.specs.declared.Sign.TheVariants.{None as NoSign, Negative, Positive}
use Rattle.icu_decimal_plain.specs.Affixes.{AffixTexts, WithSign, affixes_of, as_part, decimal_part, events_with_sign}
use Rattle.icu_decimal_plain.specs.PlainText.{PlainNumber, Tables, prefix_text, suffix_text, unsigned_events, unsigned_text}
use Rattle.icu_dimension_affixes.specs.UnitPatterns.{AffixPair, AffixText, AffixesText, PatternTexts, after_in, around, before_in, literal, own_affixes, pair_with}
use Rattle.icu_dimension_affixes.specs.declared.unit.UnitKind.{UnitKind}
use Rattle.icu_dimension_affixes.specs.declared.unit.UnitKind.TheVariants.{Currency, Percent}

-- a unit: what kind it is of, and its text
pub record UnitName : Type 0 where
  pub kind : UnitKind
  pub text : List ℕ

-- what numbers with a unit are written with
pub record UnitSettings : Type 0 where
  pub tables : Tables
  pub pattern : PatternTexts
  pub unit : UnitName

-- ---- the text

-- a pair between the affixes that the sign has in the symbols
abbrev pub signed_pair : Option AffixTexts → AffixPair → AffixPair
signed_pair affixes pair = record { before = prefix_text affixes ++ pair.before; after = pair.after ++ suffix_text affixes }

-- the sign's own affixes, or else those without a sign between the ones of the symbols
abbrev pub pair_by : Option AffixesText → AffixesText → Option AffixTexts → List ℕ → AffixPair
pair_by None unsigned affixes unit = signed_pair affixes (pair_with unsigned unit)
pair_by (Some own) unsigned affixes unit = pair_with own unit

-- the affixes of a sign
abbrev pub sign_pair : UnitSettings → Sign → AffixPair
sign_pair s sign =
    pair_by (own_affixes s.pattern sign) s.pattern.unsigned (affixes_of s.tables.symbols.strings sign) s.unit.text

-- the number without its sign between the affixes of the sign
abbrev pub text_between : AffixPair → List ℕ → List ℕ
text_between pair inner = pair.before ++ (inner ++ pair.after)

abbrev pub unit_decimal_text : UnitSettings → SignedValue Number → List ℕ
unit_decimal_text s d = text_between (sign_pair s d.sign) (unsigned_text s.tables d.absolute)

-- ---- the text with its parts

-- the part that a unit is
abbrev pub unit_part : UnitKind → PartName
unit_part Currency = record { category = codes "dimension"; value = codes "currency" }
unit_part Percent = record { category = codes "dimension"; value = codes "percentSign" }

abbrev pub unit_events : UnitName → List Event
unit_events u = as_part (unit_part u.kind) u.text

-- the part that the affixes of a sign's own are
abbrev pub sign_part : Sign → Option PartName
sign_part NoSign = None
sign_part Negative = Some (decimal_part (codes "minusSign"))
sign_part Positive = Some (decimal_part (codes "plusSign"))

abbrev pub in_part : Option PartName → List Event → List Event
in_part None es = es
in_part (Some part) es = opening part ++ (es ++ closing)

-- an affix with a unit in its place
abbrev pub affix_events : AffixText → UnitName → List Event
affix_events (literal text) unit = bytes text
affix_events (around before after) unit = bytes before ++ (unit_events unit ++ bytes after)

-- a number without its sign, its affixes with the unit, and the sign whose own they are
pub record UnitNumber : Type 0 where
  pub number : PlainNumber
  pub affixes : AffixesText
  pub unit : UnitName
  pub own : Sign

-- each affix is the part of the sign whose own it is
abbrev pub side_events : Sign → AffixText → UnitName → List Event
side_events own affix unit = in_part (sign_part own) (affix_events affix unit)

abbrev pub in_unit_events : UnitNumber → List Event
in_unit_events n =
    side_events n.own (before_in n.affixes) n.unit ++ (unsigned_events n.number ++ side_events n.own (after_in n.affixes) n.unit)

-- between the affixes that the sign has in the symbols, or alone between its own
abbrev pub formatted_by : Option AffixesText → AffixesText → Option AffixTexts → Sign → PlainNumber → UnitName → WithSign UnitNumber
formatted_by None unsigned affixes sign number unit =
    record { value = record { number = number; affixes = unsigned; unit = unit; own = NoSign }; affixes = affixes }
formatted_by (Some own) unsigned affixes sign number unit =
    record { value = record { number = number; affixes = own; unit = unit; own = sign }; affixes = None }

-- what a decimal is written as
abbrev pub unit_formatted : UnitSettings → SignedValue Number → WithSign UnitNumber
unit_formatted s d =
    formatted_by (own_affixes s.pattern d.sign) s.pattern.unsigned (affixes_of s.tables.symbols.strings d.sign) d.sign
    (record { number = d.absolute; tables = s.tables }) s.unit

abbrev pub unit_decimal_events : WithSign UnitNumber → List Event
unit_decimal_events s = events_with_sign in_unit_events s
