-- A number that was rounded to the digits of a currency is its own rounding; what is read so is what was written.
use Rattle.std.proofs.Common.{◌≡◌, ◌==◌, ◌||◌, Bool, true, false, cond, Option, Some, None, refl, subst, ap, ◌∙◌}
use Rattle.fixed_decimal.specs.Number.{Number}
use Rattle.fixed_decimal.specs.SignChoice.{chosen_sign}
use Rattle.fixed_decimal.specs.SignedEquality.{are_equal_decimals}
use Rattle.fixed_decimal.specs.SignedValue.{SignedValue}
use Rattle.fixed_decimal.specs.TextLaws.{IsDecimal}
use Rattle.fixed_decimal.proofs.SignedEqualityLemmas.{decimals_decide}
use Rattle.icu_decimal.specs.PlainReading.{PlainReading, decimal, not_written, unreadable}
use Rattle.icu_dimension_fractions.specs.declared.Fraction.{Fraction}
use Rattle.icu_dimension_fractions.specs.declared.FractionInfo.{FractionInfo}
use Rattle.locale_numbers_formats.specs.AmountRounding.{amount_rounded, amount_size}
use Rattle.locale_numbers_formats.specs.Changed.{changed, rounded_by, signed_as}
use Rattle.locale_numbers_formats.specs.declared.NumberOptions.{NumberOptions}
use Rattle.locale_numbers_formats.specs.declared.Rounding.{Rounding}
use Rattle.locale_numbers_formats.specs.declared.Rounding.TheVariants.{Usual, Cash, AsGiven, At, Significant, Either}
use Rattle.locale_numbers_formats.specs.declared.SignAsked.{SignAsked}
use Rattle.locale_numbers_formats.specs.declared.SignAsked.TheVariants.{Keep, Show}
use Rattle.locale_numbers_answers.specs.Laws.{FitDecimals, TrimsNothing}
use Rattle.locale_numbers_answers.specs.ReadAnswer.{fraction_asked, is_own_rounding, own_reading}
use Rattle.locale_numbers_answers.proofs.NumberBounds.{amount_again, changed_as}
use Rattle.locale_numbers_requests.specs.RoundingField.{is_cash, keeps_digits}

-- ---- what is written

own_amount : (f : Fraction) (sign : SignAsked) (value : SignedValue Number) → are_equal_decimals (amount_rounded f (signed_as sign (amount_rounded f value))) (signed_as sign (amount_rounded f value)) ≡ true
own_amount f Keep value =
    (decimals_decide (amount_rounded f (amount_rounded f value)) (amount_rounded f value)).1 (λ i. record { sign = value.sign; absolute = amount_again f value.absolute i })
own_amount f (Show display) value =
    (decimals_decide (amount_rounded f (signed_as (Show display) (amount_rounded f value))) (signed_as (Show display) (amount_rounded f value))).1
    (λ i. record { sign = chosen_sign display value.sign ((amount_size f value.absolute).count == 0); absolute = amount_again f value.absolute i })

own_signed : (fractions : Option FractionInfo) (asked : Rounding) (sign : SignAsked) (value : SignedValue Number)
    → is_own_rounding (fraction_asked fractions asked) (signed_as sign (rounded_by asked fractions value)) ≡ true
own_signed None asked sign value = refl
own_signed (Some fractions) Usual sign value = own_amount fractions.standard sign value
own_signed (Some fractions) Cash sign value = own_amount fractions.cash sign value
own_signed (Some fractions) AsGiven sign value = refl
own_signed (Some fractions) (At position mode increment) sign value = refl
own_signed (Some fractions) (Significant digits mode) sign value = refl
own_signed (Some fractions) (Either priority position digits mode) sign value = refl

pub own_of_changed : (options : NumberOptions) (fractions : Option FractionInfo) (value : SignedValue Number) → TrimsNothing options → FitDecimals options → IsDecimal value
    → is_own_rounding (fraction_asked fractions options.rounding) (changed options fractions value) ≡ true
own_of_changed options fractions value nothing fits is =
    ap (is_own_rounding (fraction_asked fractions options.rounding)) (changed_as options fractions value nothing fits is)
    ∙ own_signed fractions options.rounding options.sign value

-- ---- what is read

own_rounded : (fractions : Option FractionInfo) (asked : Rounding) (value : SignedValue Number) → (keeps_digits asked || is_cash asked) ≡ true
    → is_own_rounding (fraction_asked fractions asked) value ≡ true → rounded_by asked fractions value ≡ value
own_rounded None Usual value usual own = refl
own_rounded None Cash value usual own = refl
own_rounded fractions AsGiven value usual own = absurd (cc)
own_rounded fractions (At position mode increment) value usual own = absurd (cc)
own_rounded fractions (Significant digits mode) value usual own = absurd (cc)
own_rounded fractions (Either priority position digits mode) value usual own = absurd (cc)
own_rounded (Some fractions) Usual value usual own = (decimals_decide (amount_rounded fractions.standard value) value).0 own
own_rounded (Some fractions) Cash value usual own = (decimals_decide (amount_rounded fractions.cash value) value).0 own

-- a number that is its own rounding stays, where no other rounding is asked for
pub own_stays : (options : NumberOptions) (fractions : Option FractionInfo) (value : SignedValue Number) → TrimsNothing options → options.sign ≡ Keep
    → FitDecimals options → IsDecimal value → (keeps_digits options.rounding || is_cash options.rounding) ≡ true
    → is_own_rounding (fraction_asked fractions options.rounding) value ≡ true → changed options fractions value ≡ value
own_stays options fractions value nothing keeps fits is usual own =
    changed_as options fractions value nothing fits is
    ∙ ap (λ (sign : SignAsked). signed_as sign (rounded_by options.rounding fractions value)) keeps
    ∙ own_rounded fractions options.rounding value usual own

-- what is read is what the text says, and its own rounding
pub own_parts : (fraction : Option Fraction) (reading : PlainReading) (value : SignedValue Number) → own_reading fraction reading ≡ decimal value
    → (reading ≡ decimal value) × (is_own_rounding fraction value ≡ true)
own_parts fraction unreadable value is = absurd (cc)
own_parts fraction not_written value is = absurd (cc)
own_parts fraction (decimal u) value is = at (is_own_rounding fraction u) refl is
  where
    at : (b : Bool) → is_own_rounding fraction u ≡ b → cond b (decimal u) not_written ≡ decimal value → (decimal u ≡ decimal value) × (is_own_rounding fraction value ≡ true)
    at true own same = let one : u ≡ value = cc in (same, subst (λ v. is_own_rounding fraction v ≡ true) one own)
    at false own same = absurd (cc)
