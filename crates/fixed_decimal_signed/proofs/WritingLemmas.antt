-- The events of a decimal are the bytes of its printed text.
use Rattle.std.proofs.Common.{◌≡◌, ◌≤◌, inl, inr, ◌++◌, length, map, sym, ap, ◌∙◌, arith}
use Rattle.writeable.specs.AnnotatedText.{bytes}
use Rattle.fixed_decimal_unsigned.specs.Number.{Number, IsNumber, whole_digits, fraction_digits}
use Rattle.fixed_decimal_unsigned.specs.NumberText.{character, after_point, text_of as printed}
use Rattle.writeable.proofs.AnnotatedTextLemmas.{bytes_joined}
use Rattle.fixed_decimal_unsigned.proofs.PrintedLemmas.{text_with_fraction, text_without_fraction}
use Rattle.std.proofs.lemmas.Bool.{cases_lt}
use Rattle.fixed_decimal_signed.specs.SignedText.{sign_text, signed_text_of}
use Rattle.fixed_decimal_signed.specs.declared.sign.Sign.{Sign}
use Rattle.fixed_decimal_signed.specs.declared.sign.Sign.TheVariants.{None, Negative, Positive}
use Rattle.fixed_decimal_signed.specs.SignedValue.{SignedValue}

pub decimal_events : (v : SignedValue Number) → bytes (sign_text v.sign) ++ (bytes (map character (whole_digits v.absolute)) ++ bytes (after_point (map character (fraction_digits v.absolute)))) ≡ bytes (signed_text_of v)
decimal_events v =
    let whole = map character (whole_digits v.absolute) in
    let part = after_point (map character (fraction_digits v.absolute)) in
    ap (λ es. bytes (sign_text v.sign) ++ es) (sym (bytes_joined whole part)) ∙ sym (bytes_joined (sign_text v.sign) (whole ++ part))

-- how long a printed text is at most, and a sign
pub number_fits : (v : Number) → IsNumber v → length (printed v) ≤ 65537
number_fits v n =
    let low = n.low in let ones = n.ones in let high = n.high in
    elim (cases_lt v.low 32768) [
      | inl less ↦ omega (arith, text_with_fraction v ones less)
      | inr more ↦ omega (arith, text_without_fraction v ones (omega arith))
    ]

pub sign_fits : (sign : Sign) → length (sign_text sign) ≤ 1
sign_fits None = omega arith
sign_fits Negative = omega arith
sign_fits Positive = omega arith
