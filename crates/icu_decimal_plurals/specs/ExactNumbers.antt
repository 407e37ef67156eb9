-- When operands are those of one whole number, shown as it is.
-- Defined in docs/plurals.md, "Whole numbers".
-- Cited by `is_exactly`.
use Rattle.std.specs.Prelude.{ℕ, Bool, false, ◌&&◌, ◌==◌, Option, None, Some}
use Rattle.icu_decimal_plurals.specs.declared.operand.Operand.{Operand}
use Rattle.icu_decimal_plurals.specs.Operands.{Operands}
use Rattle.icu_decimal_plurals.specs.Conditions.{value_of}

-- an operand is this whole number
abbrev pub is_number : ℕ → Option ℕ → Bool
is_number x None = false
is_number x (Some y) = y == x

-- the number is x, and neither a fraction digit nor an exponent is shown
abbrev pub is_exactly : ℕ → Operands → Bool
is_exactly x o = is_number x (value_of Operand.N o) && (o.v == 0 && o.c == 0)
