-- The number that a rounding makes, as a function: the least multiples around a count, and the one of them that the mode takes.
-- Defined in docs/numbers.md, "Rounding"; a law of `locale_numbers_answers` says that it is the number which the relations of `fixed_decimal` name.
-- Cited by `NumberOptions::change`, and by `answer` and `run`, through Answer.antt of `locale_numbers`.
use Rattle.std.specs.Prelude.{ℕ, zero, suc, ◌+◌, ◌-◌, ◌*◌, ◌/◌, ◌%◌, ◌^◌, ◌==◌, nat_le, nat_lt, min, max, Bool, true, false, if◌then◌else◌}
use Rattle.fixed_decimal.specs.Number.{Number}
use Rattle.fixed_decimal.specs.Rounding.{increment_number, count_limit}
use Rattle.fixed_decimal.specs.SignedRounding.{size_mode}
use Rattle.fixed_decimal.specs.SignedValue.{SignedValue}
use Rattle.fixed_decimal.specs.declared.UnsignedRoundingMode.{UnsignedRoundingMode}
use Rattle.fixed_decimal.specs.declared.UnsignedRoundingMode.TheVariants.{Expand, Trunc, HalfExpand, HalfTrunc, HalfEven}
use Rattle.fixed_decimal.specs.declared.RoundingIncrement.{RoundingIncrement}
use Rattle.fixed_decimal.specs.declared.SignedRoundingMode.{SignedRoundingMode}

-- whether the upper of two multiples is taken, by the unit, the rest above the lower one, and how many units make that
abbrev pub takes_upper : UnsignedRoundingMode → ℕ → ℕ → ℕ → Bool
takes_upper Expand unit rest units = true
takes_upper Trunc unit rest units = false
takes_upper HalfExpand unit rest units = nat_le unit (2 * rest)
takes_upper HalfTrunc unit rest units = nat_lt unit (2 * rest)
takes_upper HalfEven unit rest units = if 2 * rest == unit then units % 2 == 1 else nat_lt unit (2 * rest)

-- the multiple that a mode names: the count itself, where it is one
abbrev pub multiple_of : UnsignedRoundingMode → ℕ → ℕ → ℕ
multiple_of mode unit count =
    if count % unit == 0 then count
    else if takes_upper mode unit (count % unit) (count / unit) then count / unit * unit + unit
    else count / unit * unit

-- zero in place of a count whose size is ten to the power 32768 at least
abbrev pub limited : ℕ → ℕ
limited count = if nat_lt count count_limit then count else 0

-- the first place from one upwards, of so many, that holds a count
abbrev pub holding_from : ℕ → ℕ → ℕ → ℕ
holding_from zero from count = from
holding_from (suc more) from count = if nat_lt count (10 ^ (from + 1)) then from else holding_from more (suc from) count

-- the highest place shown: that of the number, one below the position, or that of the first digit
abbrev pub highest_of : ℕ → ℕ → ℕ → ℕ
highest_of old at count = holding_from count (max old (at - 1)) count

-- a number without its sign, rounded at a place
abbrev pub rounded_size : UnsignedRoundingMode → RoundingIncrement → ℕ → Number → Number
rounded_size mode increment at old =
    let count = limited (multiple_of mode (increment_number increment * 10 ^ at) old.count) in
    record { count = count; low = min at 32768; high = highest_of old.high at count }

-- a number rounded at a place: its sign is kept
abbrev pub rounded : SignedRoundingMode → RoundingIncrement → ℕ → SignedValue Number → SignedValue Number
rounded mode increment at value = record { sign = value.sign; absolute = rounded_size (size_mode value.sign mode) increment at value.absolute }
