-- Which sign a number is shown with, by the choice that was made and the number.
-- After ICU's sign display of number formatting; docs/numbers.md, "Signs".
-- Cited by `apply_sign_display` and `with_sign_display`.
use Rattle.std.specs.Prelude.{Bool, true, false}
use Rattle.fixed_decimal_signed.specs.declared.sign.Sign.{Sign}
use Rattle.fixed_decimal_signed.specs.declared.sign.Sign.TheVariants.{None, Negative, Positive}
use Rattle.fixed_decimal_signed.specs.declared.sign.SignDisplay.{SignDisplay}
use Rattle.fixed_decimal_signed.specs.declared.sign.SignDisplay.TheVariants as choice

-- a plus where there was no sign
abbrev pub with_plus : Sign → Sign
with_plus None = Positive
with_plus Negative = Negative
with_plus Positive = Positive

-- no sign where there was a plus
abbrev pub without_plus : Sign → Sign
without_plus None = None
without_plus Negative = Negative
without_plus Positive = None

-- the sign that is shown, where the third argument says whether the number is zero
abbrev pub chosen_sign : SignDisplay → Sign → Bool → Sign
chosen_sign choice.Auto sign zero = without_plus sign
chosen_sign choice.Never sign zero = None
chosen_sign choice.Always sign zero = with_plus sign
chosen_sign choice.ExceptZero sign true = None
chosen_sign choice.ExceptZero sign false = with_plus sign
chosen_sign choice.Negative sign true = None
chosen_sign choice.Negative sign false = without_plus sign
