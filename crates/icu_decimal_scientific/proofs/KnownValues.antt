-- Rows of docs/scientific-text.md, so that a wrong definition does not pass.
use Rattle.std.proofs.Common.{◌≡◌, ℕ, pos, negsuc, ◌+◌, ◌*◌, ◌%◌, ◌^◌, ◌<◌, ◌≤◌, refl, lit≤, inl, inr, ⊎_elim, arith}
use Rattle.std.proofs.lemmas.Bool.{cases_lt}
use Rattle.fixed_decimal.specs.Number.{Number, IsNumber}
use Rattle.fixed_decimal.specs.Range.{IsHighest, IsLowest}
use Rattle.fixed_decimal.proofs.TenLemmas.{tens_apart}
use Rattle.icu_decimal_scientific.specs.declared.notation.ScientificNotation.TheVariants.{Scientific, Engineering}
use Rattle.icu_decimal_scientific.specs.Scientific.{IsForm}
use Rattle.icu_decimal_scientific.proofs.DivisionLemmas.{whole_below}
use Rattle.icu_decimal_scientific.proofs.FormLawLemmas.{normal_is_the_form}

pub lowest_ones : (n : ℕ) → n % 10 ^ 32768 ≡ 0 → IsLowest 32768 n 32768
lowest_ones n w = record { under = omega arith; whole = w; highest = λ p l _. l }

lowest_at : (n low : ℕ) → low ≤ 32768 → n % 10 ^ low ≡ 0 → ¬ (n % 10 ^ (low + 1) ≡ 0) → IsLowest 32768 n low
lowest_at n low l w part = record {
  under = l;
  whole = w;
  highest = λ p _ h. ⊎_elim (λ above. absurd (part (whole_below n p (low + 1) h (omega arith)))) (λ below. below) (cases_lt low p);
}

pub highest_ones : (n : ℕ) → n < 10 ^ 32769 → IsHighest 32768 0 n 32768
highest_ones n b = record { keeps = omega arith; position = omega arith; holds = b; lowest = λ h l _ _. l }

pub highest_at : (n high : ℕ) → 32768 ≤ high → 10 ^ high ≤ n → n < 10 ^ (high + 1) → IsHighest 32768 0 n high
highest_at n high l r b = record {
  keeps = l;
  position = omega arith;
  holds = b;
  lowest = λ h _ _ few. ⊎_elim (λ below. let up = tens_apart (h + 1) high (omega arith) in absurd (omega arith)) (λ above. above) (cases_lt h high);
}

-- 12000.0
twelve_thousand : Number
twelve_thousand = record { count = 12 * 10 ^ 32771; low = 32767; high = 32772 }

is_twelve_thousand : IsNumber twelve_thousand
unfolding twelve_thousand
is_twelve_thousand = record { low = lit≤ tt; ones = lit≤ tt; high = lit≤ tt; whole = refl; below = lit≤ tt }

-- 1.2 and 4
scientific : IsForm Scientific twelve_thousand (record { count = 12 * 10 ^ 32767; low = 32767; high = 32768 }) (pos 4)
unfolding twelve_thousand
scientific =
    normal_is_the_form Scientific twelve_thousand (record { count = 12 * 10 ^ 32767; low = 32767; high = 32768 }) (pos 4) is_twelve_thousand
    (record { count = refl; low = lowest_at (12 * 10 ^ 32767) 32767 (lit≤ tt) refl (λ e. omega (arith, e)); high = highest_ones (12 * 10 ^ 32767) (lit≤ tt) })
    (inr (record { multiple = refl; least = lit≤ tt; below = lit≤ tt }))

-- 12 and 3
engineering : IsForm Engineering twelve_thousand (record { count = 12 * 10 ^ 32768; low = 32768; high = 32769 }) (pos 3)
unfolding twelve_thousand
engineering =
    normal_is_the_form Engineering twelve_thousand (record { count = 12 * 10 ^ 32768; low = 32768; high = 32769 }) (pos 3) is_twelve_thousand
    (record { count = refl; low = lowest_ones (12 * 10 ^ 32768) refl; high = highest_at (12 * 10 ^ 32768) 32769 (lit≤ tt) (lit≤ tt) (lit≤ tt) })
    (inr (record { multiple = refl; least = lit≤ tt; below = lit≤ tt }))

-- 0.00012
small : Number
small = record { count = 12 * 10 ^ 32763; low = 32763; high = 32768 }

is_small : IsNumber small
unfolding small
is_small = record { low = lit≤ tt; ones = lit≤ tt; high = lit≤ tt; whole = refl; below = lit≤ tt }

-- 1.2 and -4
small_scientific : IsForm Scientific small (record { count = 12 * 10 ^ 32767; low = 32767; high = 32768 }) (negsuc 3)
unfolding small
small_scientific =
    normal_is_the_form Scientific small (record { count = 12 * 10 ^ 32767; low = 32767; high = 32768 }) (negsuc 3) is_small
    (record { count = refl; low = lowest_at (12 * 10 ^ 32767) 32767 (lit≤ tt) refl (λ e. omega (arith, e)); high = highest_ones (12 * 10 ^ 32767) (lit≤ tt) })
    (inr (record { multiple = refl; least = lit≤ tt; below = lit≤ tt }))

-- 120 and -6
small_engineering : IsForm Engineering small (record { count = 12 * 10 ^ 32769; low = 32768; high = 32770 }) (negsuc 5)
unfolding small
small_engineering =
    normal_is_the_form Engineering small (record { count = 12 * 10 ^ 32769; low = 32768; high = 32770 }) (negsuc 5) is_small
    (record { count = refl; low = lowest_ones (12 * 10 ^ 32769) refl; high = highest_at (12 * 10 ^ 32769) 32770 (lit≤ tt) (lit≤ tt) (lit≤ tt) })
    (inr (record { multiple = refl; least = lit≤ tt; below = lit≤ tt }))

-- 0.00 is 0 and 0
nothing : IsForm Engineering (record { count = 0; low = 32766; high = 32768 }) (record { count = 0; low = 32768; high = 32768 }) (pos 0)
nothing =
    normal_is_the_form Engineering (record { count = 0; low = 32766; high = 32768 }) (record { count = 0; low = 32768; high = 32768 }) (pos 0)
    (record { low = lit≤ tt; ones = lit≤ tt; high = lit≤ tt; whole = refl; below = lit≤ tt })
    (record { count = refl; low = lowest_ones 0 refl; high = highest_ones 0 (lit≤ tt) })
    (inl (refl, refl))
