-- Rows of docs/compact-text.md, at the places of a decimal, so that a wrong definition does not pass.
use Rattle.std.proofs.Common.{◌≡◌, ℕ, ◌*◌, ◌^◌, [], Some, codes, refl, ap, lit≤}
use Rattle.icu_decimal_patterns.specs.Pattern.{around}
use Rattle.icu_decimal.specs.CompactText.{CompactNumber, compact_of, lowest_place, text_in}
use Rattle.icu_decimal.proofs.KnownTables.{almost_one, apart, close, long, low, same_letter, short, small, whole, wide}
use Rattle.icu_decimal.proofs.ShownRowLemmas.{said, said_at, shown_at}

in_pattern : text_in (Some (around [] (codes "K"))) (codes "1.6") ≡ codes "1.6K"
in_pattern = refl

-- ---- the short form

-- below the first entry
zero_alone : said (compact_of short (whole 0 1)) ≡ (codes "0", 0)
unfolding lowest_place lib.Utf8.encode
zero_alone = refl

two : said (compact_of short (whole 2 1)) ≡ (codes "2", 0)
unfolding lowest_place lib.Utf8.encode
two = said_at short (whole 2 1) 32768 32768 (lit≤ tt) (lit≤ tt) (lit≤ tt) (lit≤ tt)

hundreds : said (compact_of short (whole 843 3)) ≡ (codes "843", 0)
unfolding lowest_place lib.Utf8.encode
hundreds = said_at short (whole 843 3) 32770 32770 (lit≤ tt) (lit≤ tt) (lit≤ tt) (lit≤ tt)

-- two digits, or all digits before the point
thousands : said (compact_of short (whole 2207 4)) ≡ (codes "2.2K", 3)
unfolding lowest_place lib.Utf8.encode
thousands = said_at short (whole 2207 4) 32771 32768 (lit≤ tt) (lit≤ tt) (lit≤ tt) (lit≤ tt)

ten_thousands : said (compact_of short (whole 15127 5)) ≡ (codes "15K", 3)
unfolding lowest_place lib.Utf8.encode
ten_thousands = said_at short (whole 15127 5) 32772 32769 (lit≤ tt) (lit≤ tt) (lit≤ tt) (lit≤ tt)

millions : said (compact_of short (whole 3010349 7)) ≡ (codes "3M", 6)
unfolding lowest_place lib.Utf8.encode
millions = said_at short (whole 3010349 7) 32774 32768 (lit≤ tt) (lit≤ tt) (lit≤ tt) (lit≤ tt)

-- a zero after the point goes
without_tenths : said (compact_of short (whole 1950 4)) ≡ (codes "2K", 3)
unfolding lowest_place lib.Utf8.encode
without_tenths = said_at short (whole 1950 4) 32771 32768 (lit≤ tt) (lit≤ tt) (lit≤ tt) (lit≤ tt)

-- a tie goes to the even count
tie_to_even : said (compact_of short (whole 1650 4)) ≡ (codes "1.6K", 3)
unfolding lowest_place lib.Utf8.encode
tie_to_even = said_at short (whole 1650 4) 32771 32768 (lit≤ tt) (lit≤ tt) (lit≤ tt) (lit≤ tt)

-- 1 under the next entry, with its exponent
carried : said (compact_of short (whole 999500 6)) ≡ (codes "1M", 6)
unfolding lowest_place lib.Utf8.encode
carried = said_at short (whole 999500 6) 32773 32768 (lit≤ tt) (lit≤ tt) (lit≤ tt) (lit≤ tt)

below_the_carry : said (compact_of short (whole 999499 6)) ≡ (codes "999K", 3)
unfolding lowest_place lib.Utf8.encode
below_the_carry = said_at short (whole 999499 6) 32773 32770 (lit≤ tt) (lit≤ tt) (lit≤ tt) (lit≤ tt)

-- zeros in front stay
padded : said (compact_of short (whole 1234 6)) ≡ (codes "001.2K", 3)
unfolding lowest_place lib.Utf8.encode
padded = said_at short (whole 1234 6) 32771 32768 (lit≤ tt) (lit≤ tt) (lit≤ tt) (lit≤ tt)

-- digits in groups
grouped : said (compact_of short (whole 10000000000 11)) ≡ (codes "10,000M", 6)
unfolding lowest_place lib.Utf8.encode
grouped = said_at short (whole 10000000000 11) 32778 32772 (lit≤ tt) (lit≤ tt) (lit≤ tt) (lit≤ tt)

-- 0.2222
fraction : said (compact_of short small) ≡ (codes "0.22", 0)
unfolding lowest_place lib.Utf8.encode
fraction = said_at short small 32767 32767 (lit≤ tt) (lit≤ tt) (lit≤ tt) (lit≤ tt)

-- ---- other tables

repeated_letter : said (compact_of same_letter (whole 1000000 7)) ≡ (codes "1,000K", 3)
unfolding lowest_place lib.Utf8.encode
repeated_letter = said_at same_letter (whole 1000000 7) 32774 32771 (lit≤ tt) (lit≤ tt) (lit≤ tt) (lit≤ tt)

-- types 3 and 7 with the exponents 3 and 6
apart_below : said (compact_of apart (whole 999499 6)) ≡ (codes "999K", 3)
unfolding lowest_place lib.Utf8.encode
apart_below = said_at apart (whole 999499 6) 32773 32770 (lit≤ tt) (lit≤ tt) (lit≤ tt) (lit≤ tt)

apart_carried : said (compact_of apart (whole 999500 6)) ≡ (codes "1M", 6)
unfolding lowest_place lib.Utf8.encode
apart_carried = said_at apart (whole 999500 6) 32773 32768 (lit≤ tt) (lit≤ tt) (lit≤ tt) (lit≤ tt)

-- types 3 and 5, both with the exponent 3: 99999 is shown under the first, 100000 under the second
close_shown : said (compact_of close (whole 99999 5)) ≡ (codes "100K", 3)
unfolding lowest_place lib.Utf8.encode
close_shown = said_at close (whole 99999 5) 32772 32770 (lit≤ tt) (lit≤ tt) (lit≤ tt) (lit≤ tt)

close_reached : said (compact_of close (whole 100000 6)) ≡ (codes "100k", 3)
unfolding lowest_place lib.Utf8.encode
close_reached = said_at close (whole 100000 6) 32773 32770 (lit≤ tt) (lit≤ tt) (lit≤ tt) (lit≤ tt)

-- type 20 with the exponent 5: 10^20 is shown as 10^15
abbrev shown_count : CompactNumber → ℕ × ℕ
shown_count c = (c.plain.number.count, c.exponent)

fifteen_zeros : shown_count (compact_of wide (whole 100000000000000000000 21)) ≡ (10 ^ 32783, 5)
unfolding lowest_place
fifteen_zeros = ap shown_count (shown_at wide (whole 100000000000000000000 21) 32788 32783 (lit≤ tt) (lit≤ tt) (lit≤ tt) (lit≤ tt))

-- type 3 with the exponent 0: 0.996
next_by_exponent : said (compact_of low almost_one) ≡ (codes "1K", 0)
unfolding lowest_place lib.Utf8.encode
next_by_exponent = said_at low almost_one 32767 32768 (lit≤ tt) (lit≤ tt) (lit≤ tt) (lit≤ tt)

-- ---- plurals

-- the slot is that of what is shown
one_exactly : said (compact_of long (whole 1000 4)) ≡ (codes "a thousand", 3)
unfolding lowest_place lib.Utf8.encode
one_exactly = said_at long (whole 1000 4) 32771 32768 (lit≤ tt) (lit≤ tt) (lit≤ tt) (lit≤ tt)

shown_as_one : said (compact_of long (record { count = 9996 * 10 ^ 32767; low = 32767; high = 32770 })) ≡ (codes "a thousand", 3)
unfolding lowest_place lib.Utf8.encode
shown_as_one = said_at long (record { count = 9996 * 10 ^ 32767; low = 32767; high = 32770 }) 32770 32768 (lit≤ tt) (lit≤ tt) (lit≤ tt) (lit≤ tt)

two_thousands : said (compact_of long (whole 2000 4)) ≡ (codes "2-thousands", 3)
unfolding lowest_place lib.Utf8.encode
two_thousands = said_at long (whole 2000 4) 32771 32768 (lit≤ tt) (lit≤ tt) (lit≤ tt) (lit≤ tt)

-- the last eighteen digits are 1
one_modulo : said (compact_of long (whole 1000000000000000001000 22)) ≡ (codes "a thousand", 3)
unfolding lowest_place lib.Utf8.encode
one_modulo = said_at long (whole 1000000000000000001000 22) 32789 32786 (lit≤ tt) (lit≤ tt) (lit≤ tt) (lit≤ tt)
