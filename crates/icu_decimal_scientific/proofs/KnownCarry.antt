-- Rows of docs/scientific-text.md, "Changed significands", so that a wrong definition does not pass.
use Rattle.std.proofs.Common.{◌≡◌, pos, ◌+ℤ◌, ◌*◌, ◌/◌, ◌%◌, ◌^◌, ◌<◌, false, true, refl, sym, ap, subst, ◌∙◌, lit≤, inr}
use Rattle.fixed_decimal.specs.Number.{IsNumber, Number}
use Rattle.fixed_decimal.specs.Shifts.{rise}
use Rattle.fixed_decimal.specs.declared.Sign.TheVariants.{None as NoSign}
use Rattle.icu_decimal_scientific.specs.FormOf.{bare, carried, does_carry, reach}
use Rattle.icu_decimal_scientific.specs.Scientific.{IsForm}
use Rattle.icu_decimal_scientific.specs.declared.notation.ScientificNotation.TheVariants.{Scientific, Engineering}
use Rattle.icu_decimal_scientific.proofs.BareLemmas.{bare_is}
use Rattle.icu_decimal_scientific.proofs.FormLawLemmas.{normal_is_the_form}
use Rattle.icu_decimal_scientific.proofs.FormOfLemmas.{carried_some, carries, exponent_known, reaches_nothing}
use Rattle.icu_decimal_scientific.proofs.KnownValues.{highest_at, highest_ones, lowest_ones}

-- 10 and 1
ten : Number
ten = record { count = 10 * 10 ^ 32768; low = 32768; high = 32769 }

one : Number
one = record { count = 10 ^ 32768; low = 32768; high = 32768 }

is_ten : IsNumber ten
unfolding ten
is_ten = record { low = lit≤ tt; ones = lit≤ tt; high = lit≤ tt; whole = refl; below = lit≤ tt }

-- in scientific notation 10 is 1 and 1
scientific : IsForm Scientific ten one (pos 1)
unfolding ten one
scientific =
    normal_is_the_form Scientific ten one (pos 1) is_ten (record { count = refl; low = lowest_ones (10 ^ 32768) refl; high = highest_ones (10 ^ 32768) (lit≤ tt) })
    (inr (record { multiple = refl; least = lit≤ tt; below = lit≤ tt }))

reach_of_ten : reach Scientific ten.count ≡ 1
reach_of_ten = ap rise (sym (exponent_known Scientific ten (pos 1) is_ten scientific.power))

ten_carries : does_carry Scientific ten.count ≡ true
unfolding ten
ten_carries = carries Scientific ten.count (subst (λ k. 0 < k) (sym reach_of_ten) (lit≤ tt)) (ap (λ k. ten.count % 10 ^ k) reach_of_ten)

bare_one : bare (ten.count / 10 ^ reach Scientific ten.count) ≡ one
unfolding ten one
bare_one =
    ap (λ k. bare (ten.count / 10 ^ k)) reach_of_ten
    ∙ sym (bare_is one (lit≤ tt) (lowest_ones (10 ^ 32768) refl) (highest_ones (10 ^ 32768) (lit≤ tt)))

-- so 10 and 0 become 1 and 1
ten_is_carried : carried Scientific (record { significand = record { sign = NoSign; absolute = ten }; exponent = pos 0 }) ≡ record { significand = record { sign = NoSign; absolute = one }; exponent = pos 1 }
ten_is_carried =
    carried_some Scientific (record { significand = record { sign = NoSign; absolute = ten }; exponent = pos 0 }) ten_carries
    ∙ (λ i. record { significand = record { sign = NoSign; absolute = bare_one i }; exponent = ap (λ k. pos 0 +ℤ pos k) reach_of_ten i })

-- and 10.00 and 5, to which 9.99999 and 5 are rounded with three significant digits, become 1 and 6
rounded_is_carried : carried Scientific (record { significand = record { sign = NoSign; absolute = record { count = ten.count; low = 32766; high = 32769 } }; exponent = pos 5 }) ≡ record { significand = record { sign = NoSign; absolute = one }; exponent = pos 6 }
rounded_is_carried =
    carried_some Scientific (record { significand = record { sign = NoSign; absolute = record { count = ten.count; low = 32766; high = 32769 } }; exponent = pos 5 }) ten_carries
    ∙ (λ i. record { significand = record { sign = NoSign; absolute = bare_one i }; exponent = ap (λ k. pos 5 +ℤ pos k) reach_of_ten i })

-- in engineering notation 10 stays
engineering : IsForm Engineering ten ten (pos 0)
unfolding ten
engineering =
    normal_is_the_form Engineering ten ten (pos 0) is_ten (record { count = refl; low = lowest_ones (10 * 10 ^ 32768) refl; high = highest_at (10 * 10 ^ 32768) 32769 (lit≤ tt) (lit≤ tt) (lit≤ tt) })
    (inr (record { multiple = refl; least = lit≤ tt; below = lit≤ tt }))

ten_stays : does_carry Engineering ten.count ≡ false
ten_stays = reaches_nothing Engineering ten.count (sym (ap rise (exponent_known Engineering ten (pos 0) is_ten engineering.power)))
