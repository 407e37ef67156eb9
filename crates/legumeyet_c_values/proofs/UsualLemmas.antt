-- Options that are looked at one by one are those of no words.
use Rattle.std.proofs.Common.{◌≡◌, ℕ, ℤ, pos, negsuc, Bool, true, ◌&&◌, refl, ap}
use Rattle.std.proofs.lemmas.Bool.{and_parts, eqb-true, false≢true}
use Rattle.locale_numbers_formats.specs.declared.LeadingZeros.{LeadingZeros}
use Rattle.locale_numbers_formats.specs.declared.LeadingZeros.TheVariants.{TrimRoundedZero}
use Rattle.locale_numbers_formats.specs.declared.NumberOptions.{NumberOptions}
use Rattle.locale_numbers_formats.specs.declared.Rounding.{Rounding}
use Rattle.locale_numbers_formats.specs.declared.Rounding.TheVariants.{Usual}
use Rattle.locale_numbers_formats.specs.declared.SignAsked.{SignAsked}
use Rattle.locale_numbers_formats.specs.declared.SignAsked.TheVariants as sign
use Rattle.locale_numbers_formats.specs.declared.TrailingZeros.{TrailingZeros}
use Rattle.locale_numbers_formats.specs.declared.TrailingZeros.TheVariants as trailing
use Rattle.legumeyet_c_values.specs.UsualOptions.{is_usual, is_usual_rounding, keeps_sign, keeps_zeros, trims_rounded_zero}
use Rattle.legumeyet_c_values.specs.Words.{is_zero, usual}

rounding_is : (rounding : Rounding) → is_usual_rounding rounding ≡ true → rounding ≡ Usual
rounding_is Usual is = refl
rounding_is _ is = absurd (false≢true is)

front_is : (zeros : LeadingZeros) → trims_rounded_zero zeros ≡ true → zeros ≡ TrimRoundedZero
front_is TrimRoundedZero is = refl
front_is _ is = absurd (false≢true is)

end_is : (zeros : TrailingZeros) → keeps_zeros zeros ≡ true → zeros ≡ trailing.Keep
end_is trailing.Keep is = refl
end_is _ is = absurd (false≢true is)

sign_is : (asked : SignAsked) → keeps_sign asked ≡ true → asked ≡ sign.Keep
sign_is sign.Keep is = refl
sign_is (sign.Show display) is = absurd (false≢true is)

zero_is : (word : ℤ) → is_zero word ≡ true → word ≡ pos 0
zero_is (pos number) is = ap (λ (n : ℕ). pos n) (eqb-true number 0 is)
zero_is (negsuc number) is = absurd (false≢true is)

pub usual_is : (options : NumberOptions) → is_usual options ≡ true → options ≡ usual
usual_is o is =
    let f : Bool = is_usual_rounding o.rounding in
    let e = and_parts (f && trims_rounded_zero o.leading_zeros && keeps_zeros o.zeros && is_zero o.integer_digits && is_zero o.fraction_digits) (keeps_sign o.sign) is in
    let d = and_parts (f && trims_rounded_zero o.leading_zeros && keeps_zeros o.zeros && is_zero o.integer_digits) (is_zero o.fraction_digits) e.0 in
    let c = and_parts (f && trims_rounded_zero o.leading_zeros && keeps_zeros o.zeros) (is_zero o.integer_digits) d.0 in
    let b = and_parts (f && trims_rounded_zero o.leading_zeros) (keeps_zeros o.zeros) c.0 in
    let a = and_parts f (trims_rounded_zero o.leading_zeros) b.0 in
    let rounding = rounding_is o.rounding a.0 in
    let front = front_is o.leading_zeros a.1 in
    let end = end_is o.zeros b.1 in
    let whole = zero_is o.integer_digits c.1 in
    let fraction = zero_is o.fraction_digits d.1 in
    let kept = sign_is o.sign e.1 in
    λ i. record { rounding = rounding i; leading_zeros = front i; zeros = end i; integer_digits = whole i; fraction_digits = fraction i; sign = kept i }
