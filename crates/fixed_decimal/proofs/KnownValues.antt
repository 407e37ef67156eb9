-- Rows of docs/numbers.md on whole, compact and scientific texts, equality and calls, so that a wrong definition does not pass.
use Rattle.std.proofs.Math.Nat.{mul-le-mul_right}
use Rattle.std.proofs.lemmas.Bool.{cases_lt}
use Rattle.std.proofs.Common.{◌≡◌, ℕ, ◌+◌, ◌*◌, ◌^◌, ◌<◌, ◌≤◌, ℤ, pos, true, false, inl, inr, List, [], ◌∷◌, codes, refl, sym, subst, arith, lit≤, ⊎_elim}
use Rattle.fixed_decimal_signed.specs.Number.{Number}
use Rattle.fixed_decimal_signed.specs.NumberText.{Reads, digit_zero}
use Rattle.fixed_decimal_signed.proofs.KnownValues.{padded, one, one_read, minus_one_read, plain_one_read}
use Rattle.fixed_decimal_signed.proofs.TextPartsLemmas.{cons_head, cons_tail}
use Rattle.fixed_decimal_signed.proofs.TenLemmas.{tens_positive}
use Rattle.fixed_decimal.specs.Calls.{Run, MayGrowIn}
use Rattle.fixed_decimal.specs.CompactText.{after_compact_mark, StartsNoZero, SpellsCompact, ReadsCompact, IsBeyondCompact, IsNoCompactText, compact_text_of}
use Rattle.fixed_decimal.specs.IntegerText.{ReadsInteger, ReadsFraction}
use Rattle.fixed_decimal.specs.PlainText.{MarksExponent, HasNoMark, compact_mark}
use Rattle.fixed_decimal.specs.ScientificText.{ReadsScientific, scientific_text_of}
use Rattle.fixed_decimal.specs.ExponentEquality.{are_equal_compact}
use Rattle.fixed_decimal_signed.specs.SignedText.{ReadsSigned}
use Rattle.fixed_decimal.specs.declared.call.Call.TheVariants.{Round, SetSign, ApplySignDisplay}
use Rattle.fixed_decimal_signed.specs.declared.Sign.TheVariants.{None, Negative, Positive}
use Rattle.fixed_decimal_signed.specs.declared.SignDisplay.TheVariants as choice
use Rattle.fixed_decimal_signed.specs.declared.RoundingIncrement.TheVariants.{MultiplesOf25}
use Rattle.fixed_decimal_signed.specs.declared.SignedRoundingMode.TheVariants.{Unsigned}
use Rattle.fixed_decimal_signed.specs.declared.UnsignedRoundingMode.TheVariants.{Trunc}
use Rattle.fixed_decimal_signed.specs.Rounding.{TakesOdd}
use Rattle.fixed_decimal.proofs.CompactTextLemmas.{found_compact}

-- texts

-- 1.0
one_and_tenths : Number
one_and_tenths = record { count = 10 * 10 ^ 32767; low = 32767; high = 32768 }

whole_one : ReadsInteger (codes "-1") (record { sign = Negative; absolute = one })
unfolding one
whole_one = record { reads = minus_one_read; whole = refl }

-- `10e-1` shows a digit after the point
tenths_shown : ReadsFraction (codes "10e-1")
unfolding one_and_tenths
tenths_shown = record {
  number = record { sign = None; absolute = one_and_tenths };
  reads = record {
    rest = codes "10e-1";
    whole = refl;
    reads = record {
      parts = record { integer = codes "10"; fraction = []; negative = true; exponent = codes "1" };
      spells = record {
        last = codes "e-1";
        whole = refl;
        integer_digits = (lit≤ tt, (lit≤ tt, tt));
        fraction_digits = tt;
        some = lit≤ tt;
        power = record { mark = 101; is_mark = inl refl; digits = (lit≤ tt, tt); whole = refl };
      };
      within = record { exponent_high = lit≤ tt; exponent_low = lit≤ tt; first = lit≤ tt; last = lit≤ tt };
      is = refl;
    };
  };
  below = lit≤ tt;
}

-- compact texts

one_digit_plain : HasNoMark (codes "1")
one_digit_plain = (no_letter, tt)
  where
    no_letter : ¬ (MarksExponent 49)
    no_letter (inl e) = omega arith
    no_letter (inr (inl e)) = omega arith
    no_letter (inr (inr e)) = omega arith

not_zero : ¬ (50 ≡ digit_zero)
not_zero e = omega arith

compact_printed : compact_text_of (record { significand = record { sign = None; absolute = one }; exponent = 12 }) ≡ codes "1c12"
unfolding one
compact_printed = refl

no_exponent_printed : compact_text_of (record { significand = record { sign = Negative; absolute = one }; exponent = 0 }) ≡ codes "-1"
unfolding one
no_exponent_printed = refl

beyond_spelled : SpellsCompact (codes "1c256") (codes "1") (codes "256")
beyond_spelled = record { whole = refl; plain = one_digit_plain; are_digits = (lit≤ tt, (lit≤ tt, (lit≤ tt, tt))); first = not_zero }

exponent_256 : IsBeyondCompact (codes "1c256")
exponent_256 = record {
  front = codes "1";
  digits = codes "256";
  spells = beyond_spelled;
  beyond = inr (record { number = record { sign = None; absolute = one }; reads = plain_one_read; above = lit≤ tt });
}

compact_read : ReadsCompact (codes "1c255") (record { significand = record { sign = None; absolute = one }; exponent = 255 })
compact_read = record {
  front = codes "1";
  digits = codes "255";
  spells = record { whole = refl; plain = one_digit_plain; are_digits = (lit≤ tt, (lit≤ tt, (lit≤ tt, tt))); first = not_zero };
  significand = plain_one_read;
  exponent = refl;
  fits = lit≤ tt;
}

starts_with_zero : (digits : List ℕ) → codes "c06" ≡ after_compact_mark digits → StartsNoZero digits → ⊥
starts_with_zero [] e first = absurd (cc)
starts_with_zero (d ∷ ds) e first = first (sym (cons_head 48 d (codes "6") ds (cons_tail 99 compact_mark (codes "06") (d ∷ ds) e)))

leading_zero : IsNoCompactText (codes "1c06")
leading_zero front digits h = absurd (starts_with_zero digits (found_compact (codes "1c06") (codes "1") (codes "c06") refl one_digit_plain (inl refl) front digits h).1 h.first)

no_compact_mark : (digits : List ℕ) → codes "e3" ≡ after_compact_mark digits → ⊥
no_compact_mark [] e = absurd (cc)
no_compact_mark (d ∷ ds) e = let bad : 101 + 0 ≡ 99 = cons_head 101 compact_mark (codes "3") (d ∷ ds) e in omega arith

small_mark_refused : IsNoCompactText (codes "1e3")
small_mark_refused front digits h = absurd (no_compact_mark digits (found_compact (codes "1e3") (codes "1") (codes "e3") refl one_digit_plain (inr (inl refl)) front digits h).1)

-- scientific texts

scientific_printed : scientific_text_of (record { significand = record { sign = None; absolute = padded }; exponent = record { sign = Negative; absolute = one } }) ≡ codes "012.30e-1"
unfolding padded one
scientific_printed = refl

minus_plain : HasNoMark (codes "-1")
minus_plain = (no_letter, one_digit_plain)
  where
    no_letter : ¬ (MarksExponent 45)
    no_letter (inl e) = omega arith
    no_letter (inr (inl e)) = omega arith
    no_letter (inr (inr e)) = omega arith

scientific_read : ReadsScientific (codes "1e-1") (record { significand = record { sign = None; absolute = one }; exponent = record { sign = Negative; absolute = one } })
scientific_read = record {
  left = codes "1";
  right = codes "-1";
  spells = record { whole = refl; left_plain = one_digit_plain; right_plain = minus_plain };
  significand = plain_one_read;
  exponent = whole_one;
}

-- equality

exponents_tell : are_equal_compact (record { significand = record { sign = None; absolute = one }; exponent = 3 }) (record { significand = record { sign = None; absolute = one }; exponent = 4 }) ≡ false
unfolding one
exponents_tell = refl

-- calls

signs_in_turn : Run (SetSign Negative ∷ (ApplySignDisplay choice.Never ∷ [])) (record { sign = Positive; absolute = one }) (record { sign = None; absolute = one })
signs_in_turn = (record { sign = Negative; absolute = one }, (refl, (record { sign = None; absolute = one }, (refl, refl))))

-- in units of any size: down to a multiple of 25, 110000010 becomes 110000000, an even count of 25
down_to_an_even_count : (unit : ℕ) → 0 < unit → ¬ (TakesOdd Trunc (25 * unit) (110000010 * unit))
down_to_an_even_count unit some h =
    let count = h.rounded.multiple.0 in
    let is : h.multiple ≡ count * (25 * unit) = h.rounded.multiple.1 in
    let under : h.multiple ≤ 110000010 * unit = h.rounded.under in
    let reach : 4400000 * (25 * unit) ≤ h.multiple = h.rounded.greatest (4400000 * (25 * unit)) (4400000, refl) (omega arith) in
    let least : 4400000 ≤ count =
    ⊎_elim (λ less. let more : (count + 1) * (25 * unit) ≤ 4400000 * (25 * unit) = mul-le-mul_right (25 * unit) (omega (arith, less)) in absurd (omega arith)) (λ over. over) (cases_lt count 4400000) in
    let most : count ≤ 4400000 =
    ⊎_elim (λ more. let over : 4400001 * (25 * unit) ≤ count * (25 * unit) = mul-le-mul_right (25 * unit) (omega (arith, more)) in absurd (omega arith)) (λ within. within) (cases_lt 4400000 count) in
    let same : count ≡ 4400000 = omega arith in
    let all : h.multiple ≡ 4400000 * (25 * unit) = subst (λ c. h.multiple ≡ c * (25 * unit)) same is in
    h.odd (2200000, omega arith)

-- down to a multiple of 25 at the ones, 110000010 becomes 110000000, and that wants no memory
no_memory_to_an_even_count : ¬ (MayGrowIn (Round (pos 0) (Unsigned Trunc) MultiplesOf25 ∷ []) (record { sign = None; absolute = record { count = 110000010 * 10 ^ 32768; low = 32768; high = 32776 } }))
no_memory_to_an_even_count (inl h) = down_to_an_even_count (10 ^ 32768) (tens_positive 32768) h.odd
no_memory_to_an_even_count (inr h) = h.1.1
