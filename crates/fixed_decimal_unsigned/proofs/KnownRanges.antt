-- Rows of docs/numbers.md on ranges, shifts, concatenation and the digits that take memory, so that a wrong definition does not pass. Where a row needs no real size it is in small units: there the ones are not at place 32768.
use Rattle.std.proofs.Common.{◌≡◌, ℕ, zero, suc, pos, negsuc, ◌+◌, ◌*◌, ◌%◌, ◌^◌, ◌<◌, ◌≤◌, inl, refl, subst, arith, lit≤, ⊎_elim, inr}
use Rattle.std.proofs.lemmas.Bool.{cases_lt}
use Rattle.fixed_decimal_unsigned.specs.Number.{Number, digit}
use Rattle.fixed_decimal_unsigned.specs.DigitCount.{IsLong}
use Rattle.fixed_decimal_unsigned.specs.Range.{IsHighest, IsLowest}
use Rattle.fixed_decimal_unsigned.specs.Shifts.{Shifts, Cuts, plain_zero, TrimsStart, TrimsEnd, PadsStart, PadsEnd}
use Rattle.fixed_decimal_unsigned.specs.NonzeroPlaces.{IsFirstPlace, IsLastPlace}
use Rattle.fixed_decimal_unsigned.specs.Concatenation.{Overlaps, Concatenates}
use Rattle.fixed_decimal_digits.proofs.TenLemmas.{tens_apart, digit_above}
use Rattle.std.proofs.Math.Nat.{mul-mod_left}
use Rattle.fixed_decimal_unsigned.specs.Integers.{IsInteger}
use Rattle.fixed_decimal_digits.specs.Rounding.{IsLimited, count_limit}
use Rattle.fixed_decimal_unsigned.proofs.LongLemmas.{last_above, long_count, not_long}
use Rattle.fixed_decimal_unsigned.proofs.RangeLemmas.{below_limit}

-- sixteen digits need no memory, seventeen may, and zeros at the end do not count

sixteen_are_short : ¬ (IsLong 1234567890123456)
sixteen_are_short = not_long 1234567890123456 (lit≤ tt)

seventeen_are_long : IsLong 12345678901234567
seventeen_are_long = long_count 12345678901234567 0 12345678901234567 refl (lit≤ tt) (lit≤ tt)

zeros_do_not_count : ¬ (IsLong 123456789012345600)
zeros_do_not_count long = long 2 (record { whole = refl; below = lit≤ tt })

-- a count below the limit stays, the limit itself does not

small_stays : IsLimited 5 5
small_stays = inl (below_limit 5 1 (lit≤ tt) (lit≤ tt), refl)

limit_is_zero : IsLimited count_limit 0
limit_is_zero = inr (omega arith, refl)

-- the first digit that is not zero, where it is above the ones
first_shown : (count p : ℕ) → 32768 ≤ p → 10 ^ p ≤ count → count < 10 ^ (p + 1) → IsHighest 32768 0 count p
first_shown count p above reach holds = record {
  keeps = above;
  position = omega arith;
  holds = holds;
  lowest = λ h _ _ under. ⊎_elim (λ less. let up = tens_apart (h + 1) p (omega arith) in absurd (omega arith)) (λ over. over) (cases_lt h p);
}

-- 250 is shown as `250`
two_hundred_fifty : IsInteger 250 (record { count = 250 * 10 ^ 32768; low = 32768; high = 32770 })
two_hundred_fifty = record { count = refl; low = refl; high = first_shown (250 * 10 ^ 32768) 32770 (lit≤ tt) (lit≤ tt) (lit≤ tt) }

-- `012` is trimmed to `12`, `1.20` to `1.2`
zero_before : TrimsStart (record { count = 12 * 10 ^ 32768; low = 32768; high = 32770 }) (record { count = 12 * 10 ^ 32768; low = 32768; high = 32769 })
zero_before = record { count = refl; low = refl; high = first_shown (12 * 10 ^ 32768) 32769 (lit≤ tt) (lit≤ tt) (lit≤ tt) }

last_shown : (n : ℕ) → 0 < n % 10 → IsLowest 32768 (n * 10 ^ 32767) 32767
last_shown n last = record { under = lit≤ tt; whole = mul-mod_left n (10 ^ 32767); highest = λ p _ whole. last_above n 32767 (n * 10 ^ 32767) p refl last whole }

zero_after : TrimsEnd (record { count = 12 * 10 ^ 32767; low = 32766; high = 32768 }) (record { count = 12 * 10 ^ 32767; low = 32767; high = 32768 })
zero_after = record { count = refl; low = last_shown 12 (lit≤ tt); high = refl }

-- `12` padded up to magnitude 4 is `0012`, `12.3` down to -2 is `12.30`
padded_before : PadsStart 32772 (record { count = 12 * 10 ^ 32768; low = 32768; high = 32769 }) (record { count = 12 * 10 ^ 32768; low = 32768; high = 32771 })
padded_before = record {
  count = refl;
  low = refl;
  high = λ _. record { keeps = lit≤ tt; position = lit≤ tt; holds = lit≤ tt; lowest = λ h _ at _. omega arith };
  same = λ under. absurd (omega arith);
}

padded_after : PadsEnd 32766 (record { count = 123 * 10 ^ 32767; low = 32767; high = 32769 }) (record { count = 123 * 10 ^ 32767; low = 32766; high = 32769 })
padded_after = record {
  count = refl;
  high = refl;
  low = λ _. record { under = lit≤ tt; whole = refl; highest = λ p h _. h };
  same = λ over. absurd (omega arith);
}

-- ends of ranges

highest_of_1234 : IsHighest 0 0 1234 3
highest_of_1234 = record {
  keeps = lit≤ tt;
  position = lit≤ tt;
  holds = lit≤ tt;
  lowest = λ h _ _ holds. ⊎_elim (λ under. let up = tens_apart (h + 1) 3 (omega arith) in absurd (omega arith)) (λ over. over) (cases_lt h 3);
}

-- a position shows zeros above the number
highest_at_a_position : IsHighest 2 6 1234 5
highest_at_a_position = record { keeps = lit≤ tt; position = lit≤ tt; holds = lit≤ tt; lowest = λ h _ at _. omega arith }

lowest_of_1200 : IsLowest 4 1200 2
lowest_of_1200 = record { under = lit≤ tt; whole = refl; highest = not_higher }
  where
    not_higher : (p : ℕ) → p ≤ 4 → 1200 % 10 ^ p ≡ 0 → p ≤ 2
    not_higher zero h e = lit≤ tt
    not_higher (suc zero) h e = lit≤ tt
    not_higher (suc (suc zero)) h e = lit≤ tt
    not_higher (suc (suc (suc zero))) h e = absurd (omega (arith, e))
    not_higher (suc (suc (suc (suc zero)))) h e = absurd (omega (arith, e))
    not_higher (suc (suc (suc (suc (suc p))))) h e = absurd (omega arith)

lowest_of_zero : IsLowest 4 0 4
lowest_of_zero = record { under = lit≤ tt; whole = refl; highest = λ p h e. h }

-- shifts: `05` times ten, and moved by 32767, where a zero that is only shown passes the last magnitude

five_shown_twice : Number
five_shown_twice = record { count = 5 * 10 ^ 32768; low = 32768; high = 32769 }

five_by_ten : Shifts (pos 1) five_shown_twice (record { count = 5 * 10 ^ 32769; low = 32768; high = 32770 })
unfolding five_shown_twice
five_by_ten = record {
  within = λ _. record { count = refl; low = refl; high = refl };
  beyond = λ bad. absurd (bad (record { low = lit≤ tt; high = lit≤ tt }));
}

five_by_a_tenth : Shifts (negsuc 0) five_shown_twice (record { count = 5 * 10 ^ 32767; low = 32767; high = 32768 })
unfolding five_shown_twice
five_by_a_tenth = record {
  within = λ _. record { count = refl; low = refl; high = refl };
  beyond = λ bad. absurd (bad (record { low = lit≤ tt; high = lit≤ tt }));
}

five_moved_away : Shifts (pos 32767) five_shown_twice plain_zero
unfolding five_shown_twice
five_moved_away = record { within = λ h. let high = h.high in absurd (omega arith); beyond = λ _. refl }

-- `1234.5` cut at magnitude 2
cut_at_two : Cuts 32770 (record { count = 12345 * 10 ^ 32767; low = 32767; high = 32771 }) (record { count = 345 * 10 ^ 32767; low = 32767; high = 32769 })
cut_at_two = record { count = refl; low = refl; high = refl }

-- concatenation

twelve_and_three_tenths : Concatenates (record { count = 12 * 10 ^ 32768; low = 32768; high = 32769 }) (record { count = 3 * 10 ^ 32767; low = 32767; high = 32768 })
    (record { count = 123 * 10 ^ 32767; low = 32767; high = 32769 })
twelve_and_three_tenths = record { count = refl; low = refl; high = refl }

-- in tenths: 12.3 and 0.3 overlap, 12 and 0.3 do not
ends_at_tenths : IsLastPlace 123 0
ends_at_tenths = record { nonzero = lit≤ tt; lowest = λ other some. omega arith }

begins_at_tenths : IsFirstPlace 3 0
begins_at_tenths = record {
  nonzero = lit≤ tt;
  highest = λ other some. ⊎_elim (λ above. let none = digit_above 3 1 other (lit≤ tt) above in absurd (omega arith)) (λ under. under) (cases_lt 0 other);
}

tenths_overlap : Overlaps (record { count = 123; low = 0; high = 2 }) (record { count = 3; low = 0; high = 1 })
tenths_overlap = record { last = 0; first = 0; ends = ends_at_tenths; begins = begins_at_tenths; meet = lit≤ tt }

tenths_apart : ¬ (Overlaps (record { count = 120; low = 1; high = 2 }) (record { count = 3; low = 0; high = 1 }))
tenths_apart o =
    let under = begins_at_tenths.highest o.first o.begins.nonzero in
    let meet = o.meet in
    let at : o.last ≡ 0 = omega arith in
    let none : 0 < digit 120 0 = subst (λ p. 0 < digit 120 p) at o.ends.nonzero in
    absurd (omega arith)
