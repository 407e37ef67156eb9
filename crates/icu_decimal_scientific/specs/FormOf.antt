-- The form of a number as a function, and what is shown of a number where its significand is changed.
-- Defined in docs/scientific-text.md, "The form" and "Changed significands".
-- Cited by `make_significand`, `has_form`, `carry_significand` and `ScientificNumber::carry`, and by the laws of forms as functions: that it is the form need not be believed.
use Rattle.std.specs.Prelude.{ℕ, zero, suc, ℤ, pos, negsuc, ◌+◌, ◌-◌, ◌*◌, ◌/◌, ◌%◌, ◌^◌, ◌+ℤ◌, ◌==◌, ◌&&◌, nat_lt, Bool, if◌then◌else◌}
use Rattle.fixed_decimal.specs.Number.{Number}
use Rattle.fixed_decimal.specs.Shifts.{fall, rise}
use Rattle.fixed_decimal.specs.SignedValue.{SignedValue}
use Rattle.icu_decimal_scientific.specs.declared.notation.ScientificNotation.{ScientificNotation}
use Rattle.icu_decimal_scientific.specs.declared.notation.ScientificNotation.TheVariants.{Scientific, Engineering}
use Rattle.icu_decimal_scientific.specs.Scientific.{ScientificParts}

-- ---- the form

-- the lowest place from one upwards, of so many more, that holds a count
unfoldable pub holding : ℕ → ℕ → ℕ → ℕ
holding zero from count = from
holding (suc more) from count = if nat_lt count (10 ^ (from + 1)) then from else holding more (suc from) count

-- the highest place, at most so high, below which a count has no digit
unfoldable pub ending : ℕ → ℕ → ℕ
ending zero count = 0
ending (suc most) count = if count % 10 ^ suc most == 0 then suc most else ending most count

-- a number without zeros at its ends
unfoldable pub bare : ℕ → Number
bare count = record { count = count; low = ending 32768 count; high = holding 32768 32768 count }

-- an exponent that is counted from -32769 up
abbrev pub counted : ℕ → ℤ
counted n = if nat_lt n 32769 then negsuc (32768 - n) else pos (n - 32769)

-- the greatest one of a notation that is not above the magnitude of a place
abbrev pub exponent_at : ScientificNotation → ℕ → ℤ
exponent_at Scientific place = counted (place + 1)
exponent_at Engineering place = counted ((place + 1) / 3 * 3)

-- the exponent of a number
unfoldable pub exponent_in : ScientificNotation → ℕ → ℤ
exponent_in notation count = if count == 0 then pos 0 else exponent_at notation (holding 65536 0 count)

-- the number divided by ten to an exponent
abbrev pub divided : ℤ → ℕ → Number
divided exponent count = bare (count * 10 ^ fall exponent / 10 ^ rise exponent)

abbrev pub form_of : ScientificNotation → SignedValue Number → ScientificParts
form_of notation d = let exponent = exponent_in notation d.absolute.count in
    record { significand = record { sign = d.sign; absolute = divided exponent d.absolute.count }; exponent = exponent }

-- what would be below the least place: zero, where there is a form
abbrev pub below_form : ScientificNotation → ℕ → ℕ
below_form notation count = count % 10 ^ rise (exponent_in notation count)

-- ---- changed significands

-- how far a significand reached above those of its notation: 1 of 10.0, and in engineering notation 3 of 1000
abbrev pub reach : ScientificNotation → ℕ → ℕ
reach notation count = rise (exponent_in notation count)

-- it is divided again where it reached above them, and no digit is lost
abbrev pub does_carry : ScientificNotation → ℕ → Bool
does_carry notation count = nat_lt 0 (reach notation count) && (count % 10 ^ reach notation count == 0)

abbrev pub raised : ℕ → ScientificParts → ScientificParts
raised by form = record {
  significand = record { sign = form.significand.sign; absolute = bare (form.significand.absolute.count / 10 ^ by) };
  exponent = form.exponent +ℤ pos by;
}

abbrev pub carried : ScientificNotation → ScientificParts → ScientificParts
carried notation form =
    if does_carry notation form.significand.absolute.count then raised (reach notation form.significand.absolute.count) form else form

-- a form with another significand
abbrev pub with_change : (SignedValue Number → SignedValue Number) → ScientificParts → ScientificParts
with_change change form = record { significand = change form.significand; exponent = form.exponent }

-- what a change leaves of a form, and again where that reached a higher exponent
abbrev pub settled : (SignedValue Number → SignedValue Number) → ScientificNotation → ScientificParts → ScientificParts
settled change notation once =
    if does_carry notation once.significand.absolute.count then with_change change (carried notation once) else once

-- what is shown of a number where its significand is changed
abbrev pub shown_form : (SignedValue Number → SignedValue Number) → ScientificNotation → SignedValue Number → ScientificParts
shown_form change notation d = settled change notation (with_change change (form_of notation d))
