-- Rows of docs/scientific-text.md, "Changed significands" and "The decimal", so that a wrong definition of what is read back does not pass.
use Rattle.std.proofs.Common.{pos, negsuc, ◌*◌, ◌^◌, ◌<◌, refl, sym, subst, lit≤, arith}
use Rattle.fixed_decimal.specs.Number.{IsNumber, Number}
use Rattle.fixed_decimal.specs.SignedValue.{SignedValue}
use Rattle.fixed_decimal.specs.declared.Sign.TheVariants.{None as NoSign}
use Rattle.icu_decimal_scientific.specs.ShownLaws.{IsWithinPlaces, KeepsSignificands}
use Rattle.icu_decimal_scientific.specs.declared.notation.ScientificNotation.TheVariants.{Scientific}
use Rattle.icu_decimal_scientific.proofs.ShownLawLemmas.{less}

-- 1.0 and 32767 are a decimal, and 1.0 and 32768, to which 9.99 and 32767 are rounded with two digits, are none
one : SignedValue Number
one = record { sign = NoSign; absolute = record { count = 10 ^ 32768; low = 32767; high = 32768 } }

highest : IsWithinPlaces (record { significand = one; exponent = pos 32767 })
unfolding one
highest = record { above = lit≤ tt; below = refl }

too_high : ¬ (IsWithinPlaces (record { significand = one; exponent = pos 32768 }))
unfolding one
too_high within = let above = within.above in absurd (omega (arith, above))

-- nor are 1.25 and -32767, to which 1.3 and -32767 are rounded by quarters
quarters : SignedValue Number
quarters = record { sign = NoSign; absolute = record { count = 125 * 10 ^ 32766; low = 32766; high = 32768 } }

too_low : ¬ (IsWithinPlaces (record { significand = quarters; exponent = negsuc 32766 }))
unfolding quarters
too_low within = let below = within.below in absurd (omega (arith, below))

-- a number as it is is kept; a rounding to hundreds keeps no significand
as_it_is : KeepsSignificands Scientific (λ v. v)
as_it_is = record {
  zero = λ d is none. none;
  some = λ d is least below. record { least = least; most = less d.absolute.count (10 ^ 32769) below };
  one = λ d is count. subst (λ n. n < 10 ^ 32769) (sym count) (lit≤ tt);
}

nothing : SignedValue Number
nothing = record { sign = NoSign; absolute = record { count = 0; low = 32768; high = 32768 } }

is_one : IsNumber one.absolute
unfolding one
is_one = record { low = lit≤ tt; ones = lit≤ tt; high = lit≤ tt; whole = refl; below = lit≤ tt }

to_hundreds : ¬ (KeepsSignificands Scientific (λ v. nothing))
unfolding one nothing
to_hundreds keeps = let within = keeps.some one is_one (lit≤ tt) (lit≤ tt) in let least = within.least in absurd (omega (arith, least))
