-- Whether options are those of no words, which leave a number that is no amount as it is given.
-- Defined in include/legumeyet.h, `legumeyet_options`.
-- Cited by `is_usual`.
use Rattle.std.specs.Prelude.{◌&&◌, Bool, true, false}
use Rattle.locale_numbers_formats.specs.declared.LeadingZeros.{LeadingZeros}
use Rattle.locale_numbers_formats.specs.declared.LeadingZeros.TheVariants.{TrimRoundedZero}
use Rattle.locale_numbers_formats.specs.declared.NumberOptions.{NumberOptions}
use Rattle.locale_numbers_formats.specs.declared.Rounding.{Rounding}
use Rattle.locale_numbers_formats.specs.declared.Rounding.TheVariants.{Usual}
use Rattle.locale_numbers_formats.specs.declared.SignAsked.{SignAsked}
use Rattle.locale_numbers_formats.specs.declared.SignAsked.TheVariants as sign
use Rattle.locale_numbers_formats.specs.declared.TrailingZeros.{TrailingZeros}
use Rattle.locale_numbers_formats.specs.declared.TrailingZeros.TheVariants as trailing
use Rattle.legumeyet_c_values.specs.Words.{is_zero}

abbrev pub is_usual_rounding : Rounding → Bool
is_usual_rounding Usual = true
is_usual_rounding _ = false

abbrev pub trims_rounded_zero : LeadingZeros → Bool
trims_rounded_zero TrimRoundedZero = true
trims_rounded_zero _ = false

abbrev pub keeps_zeros : TrailingZeros → Bool
keeps_zeros trailing.Keep = true
keeps_zeros _ = false

abbrev pub keeps_sign : SignAsked → Bool
keeps_sign sign.Keep = true
keeps_sign (sign.Show display) = false

abbrev pub is_usual : NumberOptions → Bool
is_usual options =
    is_usual_rounding options.rounding
    && trims_rounded_zero options.leading_zeros
    && keeps_zeros options.zeros
    && is_zero options.integer_digits
    && is_zero options.fraction_digits
    && keeps_sign options.sign
