-- Rows of docs/compact-text.md, so that a wrong definition does not pass. The ones are at place 2, so 123 is 1.23, where no other place is said.
use Rattle.std.proofs.Common.{◌≡◌, ℕ, List, [], ◌∷◌, map, Option, None, Some, refl, ap, arith, lit≤}
use Rattle.fixed_decimal.specs.Rounding.{count_limit}
use Rattle.icu_decimal_compact_value.specs.declared.entry.CompactEntry.{CompactEntry}
use Rattle.icu_decimal_compact_value.specs.Choice.{CanShow, Choice, chosen, exact_entry, shown_under}
use Rattle.icu_decimal_compact_value.specs.Entries.{Rises}
use Rattle.icu_decimal_compact_value.specs.ExactLaws.{IsFlat, UsesShownEntry, WritesSame}
use Rattle.icu_decimal_compact_value.specs.ShownValue.{magnitude}

-- thousands and millions
abbrev short : List CompactEntry
short = record { log10_type = 3; exponent = 3 } ∷ record { log10_type = 6; exponent = 6 } ∷ []

abbrev thousand : Option CompactEntry
thousand = Some (record { log10_type = 3; exponent = 3 })

abbrev million : Option CompactEntry
million = Some (record { log10_type = 6; exponent = 6 })

abbrev made : ℕ → ℕ → Option CompactEntry → Choice
made count exponent entry = record { count = count; exponent = exponent; entry = entry }

magnitudes : map (magnitude 2) (0 ∷ 1 ∷ 99 ∷ 100 ∷ 99950000 ∷ []) ≡ 2 ∷ 0 ∷ 1 ∷ 2 ∷ 7 ∷ []
magnitudes = refl

-- 999499.99 is 999K, 999500 is 1M
below_the_carry : chosen 2 short 99949999 ≡ made 99900 3 thousand
below_the_carry = refl

carried : chosen 2 short 99950000 ≡ made 100 6 million
carried = refl

-- ties go to the even count: 1650 is 1.6K, 1750 is 1.8K
tie_down : chosen 2 short 165000 ≡ made 160 3 thousand
tie_down = refl

tie_up : chosen 2 short 175000 ≡ made 180 3 thousand
tie_up = refl

-- rounded once: 1149.6 is 1.1K, not 1.2K by way of 1150
once : chosen 2 short 114960 ≡ made 110 3 thousand
once = refl

one_million : chosen 2 short 117270000 ≡ made 120 6 million
one_million = refl

many_millions : chosen 2 short 1000000000000 ≡ made 1000000 6 million
many_millions = refl

-- the ones at place 4: 0.2222 is 0.22
no_entry : chosen 4 short 2222 ≡ made 2200 0 None
no_entry = refl

nothing : chosen 2 short 0 ≡ made 0 0 None
nothing = refl

smallest : chosen 2 short 1 ≡ made 1 0 None
smallest = refl

-- 1000, 999.6 and 1049999
exact_thousand : chosen 2 short 100000 ≡ made 100 3 thousand
exact_thousand = refl

into_the_first : chosen 2 short 99960 ≡ made 100 3 thousand
into_the_first = refl

not_quite : chosen 2 short 104999900 ≡ made 100 6 million
not_quite = refl

-- of 1000000 where both exponents are 3, 1000 is shown under the second entry
same_exponents : chosen 2 (record { log10_type = 3; exponent = 3 } ∷ record { log10_type = 6; exponent = 3 } ∷ []) 100000000 ≡ made 100000 3 (Some (record { log10_type = 6; exponent = 3 }))
same_exponents = refl

-- types 3 and 7 with exponents 3 and 6: 999499 is 999K, 999500 is 1M, and 1c6 is no exact form
abbrev apart : List CompactEntry
apart = record { log10_type = 3; exponent = 3 } ∷ record { log10_type = 7; exponent = 6 } ∷ []

apart_below : chosen 2 apart 99949900 ≡ made 99900 3 thousand
apart_below = refl

apart_carried : chosen 2 apart 99950000 ≡ made 100 6 (Some (record { log10_type = 7; exponent = 6 }))
apart_carried = refl

apart_refused : exact_entry 2 apart 100 6 ≡ None
apart_refused = refl

-- types 3 and 5, both of exponent 3: 99999 is 100 under the first, and 100c3 is written under the second
abbrev close : List CompactEntry
close = record { log10_type = 3; exponent = 3 } ∷ record { log10_type = 5; exponent = 3 } ∷ []

close_shown : chosen 2 close 9999900 ≡ made 10000 3 thousand
close_shown = refl

close_exact : exact_entry 2 close 10000 3 ≡ Some (Some (record { log10_type = 5; exponent = 3 }))
close_exact = refl

-- the step to the next entry asks its exponent, not its type: the ones at place 3, type 3 with exponent 0, 0.996 is 1 under it
next_by_exponent : chosen 3 (record { log10_type = 3; exponent = 0 } ∷ []) 996 ≡ made 1000 0 (Some (record { log10_type = 3; exponent = 0 }))
next_by_exponent = refl

-- type 12: 10^15 is 1000 under it. Type 0 is for the ones too, and type 255 for none of these
trillions : chosen 2 (record { log10_type = 12; exponent = 12 } ∷ []) 100000000000000000 ≡ made 100000 12 (Some (record { log10_type = 12; exponent = 12 }))
trillions = refl

ends_of_types : chosen 2 (record { log10_type = 0; exponent = 0 } ∷ record { log10_type = 255; exponent = 255 } ∷ []) 843 ≡ made 840 0 (Some (record { log10_type = 0; exponent = 0 }))
ends_of_types = refl

-- exact forms: 1.20c6 and 0c6 are not alike, 1.2c5 is refused, 843 has no entry
exact_million : exact_entry 2 short 120 6 ≡ Some million
exact_million = refl

exact_zero : exact_entry 2 short 0 6 ≡ Some million
exact_zero = refl

exact_refused : exact_entry 2 short 120 5 ≡ None
exact_refused = refl

exact_alone : exact_entry 2 short 84300 0 ≡ Some None
exact_alone = refl

-- ---- what the laws ask for

short_rises : Rises 0 short
short_rises = (omega arith, record { within = omega arith; zeros = omega arith }, (omega arith, record { within = omega arith; zeros = omega arith }, tt))

zero_can_be_shown : CanShow short 0
unfolding count_limit
zero_can_be_shown = record { below = lit≤ tt }

-- an exponent above its type: 1000 has no part of 10^6, so significand and exponent do not make the shown value
not_rising : chosen 2 (record { log10_type = 3; exponent = 6 } ∷ []) 100000 ≡ made 0 6 (Some (record { log10_type = 3; exponent = 6 }))
not_rising = refl

-- each type is its exponent: 999500 is 1M, of another magnitude
short_is_flat : IsFlat short
short_is_flat = (refl, (refl, tt))

flat_uses : UsesShownEntry 2 short 99950000
flat_uses = refl

-- types 3 and 5, both of exponent 3: 1650 and its 1600 have one magnitude
close_keeps : magnitude 2 (shown_under 2 close 165000) ≡ magnitude 2 165000
close_keeps = refl

-- 9995 is 10K, of another magnitude, and that has the same entry
close_uses : UsesShownEntry 2 close 999500
close_uses = refl

-- 99999 is 100K, and nothing of this holds: the exact form is 100k
close_is_not_flat : IsFlat close → ⊥
close_is_not_flat flat = let bad : 3 ≡ 5 = flat.1.0 in absurd (omega (arith, bad))

close_moves : magnitude 2 (shown_under 2 close 9999900) ≡ magnitude 2 9999900 → ⊥
close_moves same = let bad : 7 ≡ 6 = same in absurd (omega (arith, bad))

abbrev type_in : Option CompactEntry → ℕ
type_in None = 0
type_in (Some entry) = entry.log10_type

close_uses_another : UsesShownEntry 2 close 9999900 → ⊥
close_uses_another same = let bad : 5 ≡ 3 = ap type_in same in absurd (omega (arith, bad))

abbrev entry_written : Option (Option CompactEntry) → ℕ
entry_written None = 0
entry_written (Some entry) = type_in entry

close_writes_another : WritesSame 2 close 9999900 → ⊥
close_writes_another same = let bad : 5 ≡ 3 = ap entry_written same in absurd (omega (arith, bad))

-- types 3 and 7 with exponents 3 and 6: 999500 is 1M, whose exact form is refused
apart_uses_another : UsesShownEntry 2 apart 99950000 → ⊥
apart_uses_another same = let bad : 3 ≡ 7 = ap type_in same in absurd (omega (arith, bad))
