-- Rows of docs/compact-text.md on exact forms, signs and operands, so that a wrong definition does not pass.
use Rattle.std.proofs.Common.{◌≡◌, ℕ, ◌*◌, ◌^◌, false, true, List, [], ◌∷◌, Option, None, Some, option_map, codes, refl, ap, arith, lit≤}
use Rattle.writeable.specs.AnnotatedText.{AnnotatedText, Interval, annotated, bytes, closing, opening}
use Rattle.fixed_decimal.specs.declared.Sign.{Sign}
use Rattle.fixed_decimal.specs.declared.Sign.TheVariants.{None as NoSign, Negative}
use Rattle.fixed_decimal.specs.CompactText.{CompactValue}
use Rattle.fixed_decimal.specs.Number.{IsNumber, Number}
use Rattle.fixed_decimal.specs.SignedValue.{SignedValue}
use Rattle.icu_decimal_patterns.specs.Pattern.{InPattern}
use Rattle.icu_decimal_patterns.specs.SmallEntries.{AreSmall}
use Rattle.icu_decimal_plurals.specs.declared.category.PluralCategory.TheVariants.{Many, Other}
use Rattle.icu_decimal_plurals.specs.declared.operand.Operand.TheVariants as operand
use Rattle.icu_decimal_plurals.specs.Operands.{operands_of}
use Rattle.icu_decimal_plurals.specs.Rules.{Rules, category_of}
use Rattle.icu_decimal_compact_value.specs.Choice.{chosen}
use Rattle.icu_decimal_symbols.specs.Symbols.{english_symbols}
use Rattle.icu_decimal_plain.specs.Affixes.{WithSign, affixes_of, decimal_part}
use Rattle.icu_decimal_plain.specs.PlainText.{PlainNumber}
use Rattle.icu_decimal.specs.AbstractText.{plain_operands, shown_operands}
use Rattle.icu_decimal.specs.CompactText.{CompactNumber, compact_decimal_events, compact_formatted, lowest_place, value_shown}
use Rattle.icu_decimal.specs.ExactText.{exact_events, exact_formatted, exact_text}
use Rattle.icu_decimal.proofs.KnownTables.{apart, close, long, short, typed, whole}
use Rattle.icu_decimal.proofs.ShownRowLemmas.{shown_at, text_at_place, written_at_place}

-- ---- exact forms

abbrev decimal : Sign → Number → SignedValue Number
decimal sign number = record { sign = sign; absolute = number }

-- 1.20, 1.2 and 1.0
abbrev one_point_two_zero : Number
one_point_two_zero = record { count = 120 * 10 ^ 32766; low = 32766; high = 32768 }

abbrev one_point_two : Number
one_point_two = record { count = 12 * 10 ^ 32767; low = 32767; high = 32768 }

abbrev one_point_zero : Number
one_point_zero = record { count = 10 * 10 ^ 32767; low = 32767; high = 32768 }

abbrev written : Option (WithSign (InPattern PlainNumber)) → Option AnnotatedText
written form = option_map (λ s. annotated (exact_events s)) form

abbrev part : ℕ → ℕ → List ℕ → Interval
part start end value = record { start = start; end = end; part = decimal_part value }

-- the digits as they are, with their parts
as_given : written (exact_formatted short (decimal Negative one_point_two_zero) 6)
    ≡ Some (record { text = codes "-1.20M"; parts = part 0 1 (codes "minusSign") ∷ part 1 2 (codes "integer") ∷ part 2 3 (codes "decimal") ∷ part 3 5 (codes "fraction") ∷ [] })
unfolding bytes opening closing lib.Utf8.encode
as_given = ap written (written_at_place short (decimal Negative one_point_two_zero) 6 32768 (lit≤ tt) (lit≤ tt))

-- another exponent than that of the magnitude
refused : exact_formatted short (decimal NoSign one_point_two) 5 ≡ None
refused = written_at_place short (decimal NoSign one_point_two) 5 32768 (lit≤ tt) (lit≤ tt)

apart_refused : exact_formatted apart (decimal NoSign (whole 1 1)) 6 ≡ None
apart_refused = written_at_place apart (decimal NoSign (whole 1 1)) 6 32768 (lit≤ tt) (lit≤ tt)

-- zero is at the exponent
zero_millions : written (exact_formatted short (decimal NoSign (whole 0 1)) 6) ≡ Some (record { text = codes "0M"; parts = part 0 1 (codes "integer") ∷ [] })
unfolding bytes opening closing lib.Utf8.encode
zero_millions = refl

-- the plural is that of the digits given
other_thousands : exact_text long (decimal NoSign one_point_zero) 3 ≡ Some (codes "1.0-thousands")
unfolding lib.Utf8.encode
other_thousands = text_at_place long (decimal NoSign one_point_zero) 3 32768 (lit≤ tt) (lit≤ tt)

close_exact : exact_text close (decimal NoSign (whole 100 3)) 3 ≡ Some (codes "100k")
unfolding lib.Utf8.encode
close_exact = text_at_place close (decimal NoSign (whole 100 3)) 3 32770 (lit≤ tt) (lit≤ tt)

-- ---- what is shown, sent back

abbrev value_in : CompactNumber → CompactValue
value_in c = record { significand = decimal NoSign c.plain.number; exponent = c.exponent }

abbrev and_exponent : Number → ℕ → CompactValue
and_exponent number exponent = record { significand = decimal NoSign number; exponent = exponent }

-- 1650 shows 1.6 with the exponent 3, which has the same text
abbrev one_point_six : Number
one_point_six = record { count = 16 * 10 ^ 32767; low = 32767; high = 32768 }

short_value : value_shown short (decimal NoSign (whole 1650 4)) ≡ and_exponent one_point_six 3
unfolding lowest_place
short_value = ap value_in (shown_at short (whole 1650 4) 32771 32768 (lit≤ tt) (lit≤ tt) (lit≤ tt) (lit≤ tt))

short_again : exact_text short (decimal NoSign one_point_six) 3 ≡ Some (codes "1.6K")
unfolding lib.Utf8.encode
short_again = text_at_place short (decimal NoSign one_point_six) 3 32768 (lit≤ tt) (lit≤ tt)

-- 99999 is 100K, and what it shows is 100k: `close_exact`
close_value : value_shown close (decimal NoSign (whole 99999 5)) ≡ and_exponent (whole 100 3) 3
unfolding lowest_place
close_value = ap value_in (shown_at close (whole 99999 5) 32772 32770 (lit≤ tt) (lit≤ tt) (lit≤ tt) (lit≤ tt))

-- 999500 is 1M, and what it shows is refused: `apart_refused`
apart_value : value_shown apart (decimal NoSign (whole 999500 6)) ≡ and_exponent (whole 1 1) 6
unfolding lowest_place
apart_value = ap value_in (shown_at apart (whole 999500 6) 32773 32768 (lit≤ tt) (lit≤ tt) (lit≤ tt) (lit≤ tt))

-- what the laws ask of a number and of entries is met
zero_is_number : IsNumber (whole 0 1)
zero_is_number = record { low = lit≤ tt; ones = lit≤ tt; high = lit≤ tt; whole = refl; below = lit≤ tt }

short_is_small : AreSmall short.patterns.entries
short_is_small = ((omega arith, omega arith), ((omega arith, omega arith), tt))

-- the exponent of an entry that does not fit into a byte, the ones at place 2
not_small : (chosen 2 (typed 300 300 ∷ []) (10 ^ 302)).exponent ≡ 300
not_small = refl

-- ---- signs, and operands

-- the affixes stand outside the pattern, and are the only parts
negative : annotated (compact_decimal_events (compact_formatted short (decimal Negative (whole 1172700 7)))) ≡ record { text = codes "-1.2M"; parts = part 0 1 (codes "minusSign") ∷ [] }
unfolding bytes opening closing lowest_place lib.Utf8.encode
negative = ap (λ c. annotated (compact_decimal_events (record { value = c; affixes = affixes_of english_symbols.strings Negative }))) (shown_at short (whole 1172700 7) 32774 32768 (lit≤ tt) (lit≤ tt) (lit≤ tt) (lit≤ tt))

-- one: i = 0,1; many: e != 0..5
abbrev french : Rules
french = record {
  zero = None;
  one = Some ((record { operand = operand.I; modulus = None; is_denied = false; intervals = record { low = 0; high = 0 } ∷ record { low = 1; high = 1 } ∷ [] } ∷ []) ∷ []);
  two = None;
  few = None;
  many = Some ((record { operand = operand.C; modulus = None; is_denied = true; intervals = record { low = 0; high = 5 } ∷ [] } ∷ []) ∷ []);
}

plain_category : category_of french (plain_operands (whole 999999 6)) ≡ Other
plain_category = refl

-- 999999 is shown as 1 with the exponent 6
shown_category : category_of french (shown_operands short (whole 999999 6)) ≡ Many
unfolding lowest_place
shown_category = ap (λ c. category_of french (operands_of c.plain.number c.exponent)) (shown_at short (whole 999999 6) 32773 32768 (lit≤ tt) (lit≤ tt) (lit≤ tt) (lit≤ tt))
