-- Rows of docs/numbers.md on places, digits, texts and equality, so that a wrong definition does not pass.
use Rattle.std.proofs.Common.{◌≡◌, ℕ, pos, negsuc, ◌*◌, ◌^◌, ◌≤◌, false, inl, List, [], ◌∷◌, ◌++◌, length, codes, refl, ap, arith, lit≤, length-append}
use Rattle.std.proofs.lemmas.Int.{ints}
use Rattle.fixed_decimal_unsigned.specs.Number.{Number, place, digit}
use Rattle.fixed_decimal_unsigned.specs.NumberText.{Parts, Spells, Reads, IsBeyond, IsNoText, IsWithin, AreEndsIn, text_of, after_point}
use Rattle.fixed_decimal_unsigned.specs.ReadNumber.{IsInLimits, ReadsAs}
use Rattle.fixed_decimal_unsigned.specs.Shifts.{plain_zero}
use Rattle.fixed_decimal_unsigned.specs.Equality.{are_equal}

-- places and digits

tenths : place (negsuc 0) ≡ 32767
tenths = refl

ones : place (pos 0) ≡ 32768
ones = refl

lowest : place (negsuc 32767) ≡ 0
lowest = refl

highest : place (pos 32767) ≡ 65535
highest = refl

digit_two : digit 1234 2 ≡ 2
digit_two = refl

digit_past : digit 1234 4 ≡ 0
digit_past = refl

-- texts

-- 12.3, the magnitudes 2 and -2 shown too
shown : Number
shown = record { count = 123 * 10 ^ 32767; low = 32766; high = 32770 }

shown_text : text_of shown ≡ codes "012.30"
unfolding shown
shown_text = refl

zero_text : text_of plain_zero ≡ codes "0"
zero_text = refl

-- `0.50e1`
half_times_ten : Parts
half_times_ten = record { integer = codes "0"; fraction = codes "50"; negative = false; exponent = codes "1" }

half_spelled : Spells (codes "0.50e1") half_times_ten
unfolding half_times_ten
half_spelled = record {
  last = codes "e1";
  whole = refl;
  integer_digits = (lit≤ tt, tt);
  fraction_digits = (lit≤ tt, (lit≤ tt, tt));
  some = lit≤ tt;
  power = record { mark = 101; is_mark = inl refl; digits = (lit≤ tt, tt); whole = refl };
}

half_within : IsWithin half_times_ten
unfolding half_times_ten
half_within = record { exponent_high = lit≤ tt; exponent_low = lit≤ tt; first = lit≤ tt; last = lit≤ tt }

half_read : Reads (codes "0.50e1") (record { count = 5 * 10 ^ 32768; low = 32767; high = 32769 })
unfolding half_times_ten
half_read = record { parts = half_times_ten; spells = half_spelled; within = half_within; is = refl }

-- the same, by its exponent 1: the last digit has magnitude -1
half_in_limits : IsInLimits half_times_ten
unfolding half_times_ten
half_in_limits = record { exponent_low = omega (arith, ints); exponent_high = omega (arith, ints); lowest = omega (arith, ints); highest = omega (arith, ints) }

half_read_as : ReadsAs (codes "0.50e1") (record { count = 5 * 10 ^ 32768; low = 32767; high = 32769 })
unfolding half_times_ten
half_read_as = record { parts = half_times_ten; spells = half_spelled; within = half_in_limits; is = refl }

-- an exponent above 32767 is past the limits, also where the digits are not: `.1e32768`
tenth_high : Parts
tenth_high = record { integer = []; fraction = codes "1"; negative = false; exponent = codes "32768" }

tenth_past : ¬ (IsInLimits tenth_high)
unfolding tenth_high
tenth_past h = let most = h.exponent_high in absurd (omega (arith, ints, most))

-- the number that is read so is shown as `05.0`
half_text : text_of (record { count = 5 * 10 ^ 32768; low = 32767; high = 32769 }) ≡ codes "05.0"
half_text = refl

-- the exponent of zero counts as 0, whatever its size
zero_parts : Parts
zero_parts = record { integer = codes "0"; fraction = []; negative = false; exponent = codes "99999" }

zero_read : Reads (codes "0e99999") plain_zero
unfolding zero_parts
zero_read = record {
  parts = zero_parts;
  spells = record {
    last = codes "e99999";
    whole = refl;
    integer_digits = (lit≤ tt, tt);
    fraction_digits = tt;
    some = lit≤ tt;
    power = record { mark = 101; is_mark = inl refl; digits = (lit≤ tt, (lit≤ tt, (lit≤ tt, (lit≤ tt, (lit≤ tt, tt))))); whole = refl };
  };
  within = record { exponent_high = lit≤ tt; exponent_low = lit≤ tt; first = lit≤ tt; last = lit≤ tt };
  is = refl;
}

-- the exponent of another number is within the limits or not
one_beyond : IsBeyond (codes "1e32768")
one_beyond = record {
  parts = record { integer = codes "1"; fraction = []; negative = false; exponent = codes "32768" };
  spells = record {
    last = codes "e32768";
    whole = refl;
    integer_digits = (lit≤ tt, tt);
    fraction_digits = tt;
    some = lit≤ tt;
    power = record { mark = 101; is_mark = inl refl; digits = (lit≤ tt, (lit≤ tt, (lit≤ tt, (lit≤ tt, (lit≤ tt, tt))))); whole = refl };
  };
  beyond = λ h. let most = h.exponent_high in absurd (omega arith);
}

least_within : AreEndsIn 1 0 0 32768
least_within = record { exponent_high = lit≤ tt; exponent_low = lit≤ tt; first = lit≤ tt; last = lit≤ tt }

least_beyond : ¬ (AreEndsIn 1 1 0 32768)
least_beyond h = let last = h.last in absurd (omega arith)

empty_is_no_text : IsNoText []
empty_is_no_text parts h =
    let some = h.some in
    let whole = ap length h.whole in
    let behind : length (after_point parts.fraction) ≡ length (after_point parts.fraction) = refl in
    let digits = length_after parts.fraction in
    absurd (omega (arith, whole, length-append parts.integer (after_point parts.fraction ++ h.last), length-append (after_point parts.fraction) h.last))
  where
    length_after : (ds : List ℕ) → length ds ≤ length (after_point ds)
    length_after [] = lit≤ tt
    length_after (d ∷ ds) = omega arith

-- `0.5` and `0.50` are one number with two texts
not_one_text : are_equal (record { count = 50; low = 1; high = 2 }) (record { count = 50; low = 0; high = 2 }) ≡ false
not_one_text = refl
