-- The parts of a text as the reader holds them, borrowed from it.
-- Defined in docs/numbers.md, "The text".
-- Cited by the private functions that read, and by no public clause.
use Rattle.fixed_decimal_unsigned.specs.declared.text_parts.TextParts.{TextParts}
use Rattle.fixed_decimal_unsigned.specs.NumberText.{Parts}

-- the parts that the borrowed ones show
abbrev pub parts_of : TextParts → Parts
parts_of p = record { integer = p.integer.now; fraction = p.fraction.now; negative = p.negative; exponent = p.exponent.now }
