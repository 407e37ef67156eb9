-- Rows of docs/numbers.md on roundings, in units of which ten make the unit at the position, so that a wrong definition does not pass.
use Rattle.std.proofs.Common.{◌≡◌, ◌*◌, refl, arith, lit≤}
use Rattle.fixed_decimal_digits.specs.Rounding.{IsRounded, TakesOdd, increment_number}
use Rattle.fixed_decimal_digits.specs.declared.modes.UnsignedRoundingMode.TheVariants.{Expand, Trunc, HalfExpand, HalfTrunc, HalfEven}
use Rattle.fixed_decimal_digits.specs.declared.modes.RoundingIncrement.TheVariants.{MultiplesOf25}

up_to_the_next : IsRounded Expand 10 21 30
up_to_the_next = record { multiple = (3, refl); over = lit≤ tt; least = λ other m over. let is = m.1 in omega arith }

a_multiple_stays : IsRounded Expand 10 20 20
a_multiple_stays = record { multiple = (2, refl); over = lit≤ tt; least = λ other m over. over }

down_to_the_last : IsRounded Trunc 10 29 20
down_to_the_last = record { multiple = (2, refl); under = lit≤ tt; greatest = λ other m under. let is = m.1 in omega arith }

tie_up : IsRounded HalfExpand 10 25 30
tie_up = record { multiple = (3, refl); nearest = λ other m. let is = m.1 in omega arith; tied = λ other m ne e. let is = m.1 in omega arith }

tie_down : IsRounded HalfTrunc 10 25 20
tie_down = record { multiple = (2, refl); nearest = λ other m. let is = m.1 in omega arith; tied = λ other m ne e. let is = m.1 in omega arith }

tie_to_two : IsRounded HalfEven 10 25 20
tie_to_two = record { multiple = (2, refl); nearest = λ other m. let is = m.1 in omega arith; tied = λ other m ne e. (1, refl) }

tie_to_four : IsRounded HalfEven 10 35 40
tie_to_four = record { multiple = (4, refl); nearest = λ other m. let is = m.1 in omega arith; tied = λ other m ne e. (2, refl) }

no_tie_to_three : ¬ (IsRounded HalfEven 10 25 30)
no_tie_to_three h =
    let even = h.tied 20 (2, refl) (λ e. absurd (omega (arith, e))) refl in let is = even.1 in absurd (omega arith)

-- 37.5 by 25: twice 25 is even, once is not
tie_by_twenty_five : IsRounded HalfEven (increment_number MultiplesOf25 * 10) 375 500
tie_by_twenty_five = record { multiple = (2, refl); nearest = λ other m. let is = m.1 in omega arith; tied = λ other m ne e. (1, refl) }

-- by 25, 11000000000000010 is rounded up to an odd count of 25, 11000000000000025, and down to an even one, 11000000000000000
pub up_to_an_odd_count : TakesOdd Expand 25 11000000000000010
up_to_an_odd_count = record {
  multiple = 11000000000000025;
  rounded = record { multiple = (440000000000001, refl); over = lit≤ tt; least = λ other m over. let is = m.1 in omega arith };
  odd = λ m. let is = m.1 in omega arith;
}

pub down_to_an_even_count : ¬ (TakesOdd Trunc 25 11000000000000010)
down_to_an_even_count h =
    let is = h.rounded.multiple.1 in let under = h.rounded.under in let reach = h.rounded.greatest 11000000000000000 (440000000000000, refl) (lit≤ tt) in
    let same : h.multiple ≡ 220000000000000 * 50 = omega arith in
    h.odd (220000000000000, same)
