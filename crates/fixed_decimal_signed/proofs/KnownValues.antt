-- Rows of docs/numbers.md on signs, signed texts and equality, so that a wrong definition does not pass.
use Rattle.std.proofs.Common.{◌≡◌, ℕ, ◌+◌, ◌*◌, ◌^◌, true, false, inl, inr, List, [], ◌∷◌, codes, refl, lit≤}
use Rattle.fixed_decimal_unsigned.specs.Number.{Number}
use Rattle.fixed_decimal_unsigned.specs.NumberText.{Reads}
use Rattle.fixed_decimal_signed.specs.SignChoice.{chosen_sign}
use Rattle.fixed_decimal_signed.specs.SignedEquality.{are_equal_decimals}
use Rattle.fixed_decimal_signed.specs.SignedText.{ReadsSigned, signed_text_of}
use Rattle.fixed_decimal_signed.specs.declared.sign.Sign.TheVariants.{None, Negative, Positive}
use Rattle.fixed_decimal_signed.specs.declared.sign.SignDisplay.TheVariants as choice

-- the choice of sign

minus_stays : chosen_sign choice.Auto Negative false ≡ Negative
minus_stays = refl

plus_goes : chosen_sign choice.Auto Positive false ≡ None
plus_goes = refl

plus_comes : chosen_sign choice.Always None true ≡ Positive
plus_comes = refl

none_at_zero : chosen_sign choice.ExceptZero Negative true ≡ None
none_at_zero = refl

plus_but_at_zero : chosen_sign choice.ExceptZero None false ≡ Positive
plus_but_at_zero = refl

minus_of_zero_goes : chosen_sign choice.Negative Negative true ≡ None
minus_of_zero_goes = refl

plus_never : chosen_sign choice.Negative Positive false ≡ None
plus_never = refl

-- texts

-- 12.3 with the magnitudes 2 and -2 shown too, and the ones
unfoldable pub padded : Number
padded = record { count = 123 * 10 ^ 32767; low = 32766; high = 32770 }

unfoldable pub one : Number
one = record { count = 1 * 10 ^ 32768; low = 32768; high = 32768 }

minus_text : signed_text_of (record { sign = Negative; absolute = padded }) ≡ codes "-012.30"
unfolding padded
minus_text = refl

plus_text : signed_text_of (record { sign = Positive; absolute = one }) ≡ codes "+1"
unfolding one
plus_text = refl

pub one_read : Reads (codes "1") one
unfolding one
one_read = record {
  parts = record { integer = codes "1"; fraction = []; negative = false; exponent = [] };
  spells = record {
    last = [];
    whole = refl;
    integer_digits = (lit≤ tt, tt);
    fraction_digits = tt;
    some = lit≤ tt;
    power = record { mark = 101; is_mark = inl refl; digits = tt; whole = refl };
  };
  within = record { exponent_high = lit≤ tt; exponent_low = lit≤ tt; first = lit≤ tt; last = lit≤ tt };
  is = refl;
}

pub minus_one_read : ReadsSigned (codes "-1") (record { sign = Negative; absolute = one })
minus_one_read = record { rest = codes "1"; whole = refl; reads = one_read }

pub plain_one_read : ReadsSigned (codes "1") (record { sign = None; absolute = one })
plain_one_read = record { rest = codes "1"; whole = refl; reads = one_read }

-- equality

signs_tell : are_equal_decimals (record { sign = None; absolute = one }) (record { sign = Positive; absolute = one }) ≡ false
signs_tell = refl
