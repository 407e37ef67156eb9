-- The operands of plural rules: what is seen of a number that is shown.
-- UTS 35, part 3 (numbers), section 5.1.1 (operands); docs/plurals.md, "Operands".
-- Cited by `PluralOperands` and by all that asks for a category.
use Rattle.std.specs.Prelude.{ℕ, zero, suc, ◌+◌, ◌-◌, ◌*◌, ◌/◌, ◌%◌, ◌^◌, ◌==◌, cond, min}
use Rattle.fixed_decimal.specs.Number.{Number}

pub record Operands : Type 0 where
  -- the integer digits, as a number
  pub i : ℕ
  -- how many fraction digits are shown
  pub v : ℕ
  -- these digits, as a number
  pub f : ℕ
  -- the fraction digits up to the last one that is not zero, as a number
  pub t : ℕ
  -- how many these are
  pub w : ℕ
  -- the exponent of ten that is beside the number
  pub c : ℕ

-- so many digits of a count, from a place on, as a number
abbrev pub part_of : ℕ → ℕ → ℕ → ℕ
part_of count place places = count / 10 ^ place % 10 ^ places

-- of so many digits, those up to the last one that is not zero: as a number, and how many they are
abbrev pub trimmed : ℕ → ℕ → ℕ × ℕ
trimmed zero digits = (digits, 0)
trimmed (suc k) digits = cond (digits % 10 == 0) (trimmed k (digits / 10)) (digits, suc k)

-- the operands of these integer digits, so many fraction digits, these, and an exponent
abbrev pub operands_shown : ℕ → ℕ → ℕ → ℕ → Operands
operands_shown i v f c = record { i = i; v = v; f = f; t = (trimmed v f).0; w = (trimmed v f).1; c = c }

-- the operands of a count of which so many fraction digits are kept, where `ones` is the place of the ones
abbrev pub operands_with : ℕ → ℕ → ℕ → ℕ → Operands
operands_with ones count v c = operands_shown (part_of count ones 18) v (part_of count (ones - v) v) c

-- the operands of a number with an exponent: those of the number times ten to the exponent, with at most 18 of the fraction digits
-- that it then shows, and the exponent
abbrev pub operands_of : Number → ℕ → Operands
operands_of number c = operands_with 32768 (number.count * 10 ^ c) (min (32768 - (number.low + c)) 18) c
