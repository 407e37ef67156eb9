-- The texts that held affixes borrow.
-- Defined in docs/plain-text.md, "Affixes".
-- Cited by the view of `FormattedSign` and by its private steps.
use Rattle.std.specs.Prelude.{codes}
use Rattle.writeable.specs.PartName.{PartName}
use Rattle.icu_decimal_plain.specs.declared.formatted_sign.Affixes.{Affixes}
use Rattle.icu_decimal_plain.specs.declared.formatted_sign.SignPart.{SignPart}
use Rattle.icu_decimal_plain.specs.declared.formatted_sign.SignPart.TheVariants.{Minus, Plus}
use Rattle.icu_decimal_plain.specs.Affixes.{AffixTexts, decimal_part}

-- the part that an affix of a sign is
abbrev pub part_name : SignPart → PartName
part_name Minus = decimal_part (codes "minusSign")
part_name Plus = decimal_part (codes "plusSign")

abbrev pub texts_of : Affixes → AffixTexts
texts_of a = record { part = part_name a.part; prefix = a.prefix.now; suffix = a.suffix.now }
