-- What trims and pads of `fixed_decimal` leave is what the functions of `specs/Changed.antt` answer.
use Rattle.std.proofs.Common.{◌≡◌, ℕ, zero, suc, ℤ, ◌+◌, ◌-◌, ◌*◌, ◌/◌, ◌%◌, ◌^◌, ◌==◌, ◌<◌, ◌≤◌, Bool, true, false, cond, max, min, Option, refl, sym, ap, subst, ◌∙◌, arith, ⊎_elim}
use Rattle.std.proofs.Math.Nat.{lt_of_lt_of_le, mul-mod_left, mul_assoc, pow-le-pow_right}
use Rattle.std.proofs.lemmas.Nat.{div-add-mod', pow-add}
use Rattle.std.proofs.lemmas.Bool.{cases_lt, eq-eqb, eqb-true, false≢true}
use Rattle.std.proofs.lemmas.Bool.Decides.{nat_tests}
use Rattle.fixed_decimal.specs.Number.{IsNumber, Number, place}
use Rattle.fixed_decimal.specs.Range.{IsHighest, IsLowest}
use Rattle.fixed_decimal.specs.Shifts.{PadsEnd, PadsStart, TrimsEnd, TrimsStart, TrimsWhole}
use Rattle.fixed_decimal.specs.SignedValue.{SignedValue}
use Rattle.icu_dimension_fractions.specs.declared.FractionInfo.{FractionInfo}
use Rattle.locale_numbers_formats.specs.Changed.{changed, fraction_trimmed, front_padded, padded_down, shown, start_trimmed, unchanged, whole_from, whole_trimmed}
use Rattle.locale_numbers_formats.specs.Rounded.{holding_from}
use Rattle.locale_numbers_formats.proofs.RoundedLemmas.{holding_holds, holding_keeps, holding_lowest}

-- two numbers with the same fields are one
pub same_fields : (a b : Number) → a.count ≡ b.count → a.low ≡ b.low → a.high ≡ b.high → a ≡ b
same_fields a b count low high = λ i. record { count = count i; low = low i; high = high i }

-- ---- the highest digit shown

pub highest_is : (least count was high : ℕ) → least ≤ was → count < 10 ^ (was + 1) → IsHighest least 0 count high → high ≡ holding_from (was - least) least count
highest_is least count was high ones below is =
    let whole : was + 1 ≡ least + (was - least) + 1 = omega (arith, ones) in
    let keeps = holding_keeps (was - least) least count in
    let holds = holding_holds (was - least) least count (subst (λ (k : ℕ). count < 10 ^ k) whole below) in
    let under = is.lowest (holding_from (was - least) least count) keeps (omega arith) holds in
    let over = holding_lowest (was - least) least count high is.keeps is.holds in
    omega (arith, under, over)

pub trims_start_is : (old new : Number) → IsNumber old → TrimsStart old new → new ≡ start_trimmed old
trims_start_is old new number trims =
    same_fields new (start_trimmed old) trims.count trims.low (highest_is 32768 old.count old.high new.high number.ones number.below trims.high)

-- ---- the lowest digit shown

-- without a digit below a place there is none below a lower one
pub whole_below : (n a b : ℕ) → n % 10 ^ b ≡ 0 → a ≤ b → n % 10 ^ a ≡ 0
whole_below n a b whole under =
    let split = div-add-mod' n (10 ^ b) in
    let multiple : n ≡ n / 10 ^ b * 10 ^ b = omega (arith, split, whole) in
    let joined : (b - a) + a ≡ b = omega (arith, under) in
    let power : 10 ^ b ≡ 10 ^ (b - a) * 10 ^ a = ap (λ (k : ℕ). 10 ^ k) (sym joined) ∙ pow-add 10 (b - a) a in
    ap (λ (m : ℕ). m % 10 ^ a)
    (multiple ∙ ap (λ (t : ℕ). n / 10 ^ b * t) power ∙ sym (mul_assoc (n / 10 ^ b) (10 ^ (b - a)) (10 ^ a)))
    ∙ mul-mod_left (n / 10 ^ b * 10 ^ (b - a)) (10 ^ a)

pub whole_under : (more from count : ℕ) → whole_from more from count ≤ from + more
whole_under zero from count = omega arith
whole_under (suc more) from count = at (count % 10 ^ (from + 1) == 0) (whole_under more (suc from) count)
  where
    at : (b : Bool) → whole_from more (suc from) count ≤ suc from + more → cond b (whole_from more (suc from) count) from ≤ from + suc more
    at true next = omega (arith, next)
    at false next = omega arith

pub whole_whole : (more from count : ℕ) → count % 10 ^ from ≡ 0 → count % 10 ^ (whole_from more from count) ≡ 0
whole_whole zero from count whole = whole
whole_whole (suc more) from count whole = at (count % 10 ^ (from + 1) == 0) refl (whole_whole more (suc from) count)
  where
    at : (b : Bool) → (count % 10 ^ (from + 1) == 0) ≡ b → (count % 10 ^ suc from ≡ 0 → count % 10 ^ (whole_from more (suc from) count) ≡ 0)
        → count % 10 ^ (cond b (whole_from more (suc from) count) from) ≡ 0
    at true is next = next (let one : from + 1 ≡ suc from = omega arith in subst (λ k. count % 10 ^ k ≡ 0) one (let none : count % 10 ^ (from + 1) ≡ 0 = grind (arith, nat_tests) in none))
    at false is next = whole

pub whole_highest : (more from count p : ℕ) → p ≤ from + more → count % 10 ^ p ≡ 0 → p ≤ whole_from more from count
whole_highest zero from count p under whole = omega (arith, under)
whole_highest (suc more) from count p under whole = at (count % 10 ^ (from + 1) == 0) refl (whole_highest more (suc from) count p (omega (arith, under)) whole)
  where
    at : (b : Bool) → (count % 10 ^ (from + 1) == 0) ≡ b → p ≤ whole_from more (suc from) count → p ≤ cond b (whole_from more (suc from) count) from
    at true is next = next
    at false is next =
        ⊎_elim (λ above. let none : count % 10 ^ (from + 1) ≡ 0 = whole_below count (from + 1) p whole (omega (arith, above)) in absurd (grind (arith, nat_tests)))
        (λ under. under)
        (cases_lt from p)

pub lowest_is : (most count from low : ℕ) → from ≤ most → count % 10 ^ from ≡ 0 → IsLowest most count low → low ≡ whole_from (most - from) from count
lowest_is most count from low inside whole is =
    let bound = whole_under (most - from) from count in
    let under = whole_highest (most - from) from count low (omega (arith, is.under, inside)) is.whole in
    let over = is.highest (whole_from (most - from) from count) (omega (arith, bound, inside)) (whole_whole (most - from) from count whole) in
    omega (arith, under, over)

pub trims_end_is : (old new : Number) → IsNumber old → TrimsEnd old new → new ≡ fraction_trimmed old
trims_end_is old new number trims =
    same_fields new (fraction_trimmed old) trims.count
    (lowest_is 32768 old.count old.low new.low number.low number.whole trims.low) trims.high

pub trims_whole_is : (old new : Number) → TrimsWhole old new → new ≡ whole_trimmed old
trims_whole_is old new trims = at (old.count % 10 ^ 32768 == 0) refl
  where
    at : (b : Bool) → (old.count % 10 ^ 32768 == 0) ≡ b → new ≡ cond b (record old { low = 32768 }) old
    at true is = trims.whole (eqb-true (old.count % 10 ^ 32768) 0 is)
    at false is = trims.fraction (λ none. false≢true (sym is ∙ eq-eqb (old.count % 10 ^ 32768) 0 none))

-- ---- padded

-- the highest digit that a pad above the ones shows
pub padded_highest : (least place count was high : ℕ) → count < 10 ^ (was + 1) → was + 1 < place → least ≤ was → IsHighest least place count high → high ≡ max was (place - 1)
padded_highest least place count was high below above ones highest =
    let at = highest.position in
    let same : place ≡ place - 1 + 1 = omega (arith, above) in
    let wider : count < 10 ^ place = lt_of_lt_of_le below (pow-le-pow_right {n = 10} (omega arith) {i = was + 1} {j = place} (omega (arith, above))) in
    let most = highest.lowest (place - 1) (omega (arith, above, ones)) (omega arith) (subst (λ (k : ℕ). count < 10 ^ k) same wider) in
    omega (arith, at, most, above)

-- the lowest digit that a pad below the ones shows
pub padded_lowest : (place count was low : ℕ) → count % 10 ^ was ≡ 0 → place ≤ was → IsLowest place count low → low ≡ min was place
padded_lowest place count was low whole under lowest =
    let most = lowest.under in
    let reached = lowest.highest place (omega arith) (whole_below count place was whole under) in
    omega (arith, most, reached, under)

pub pads_start_is : (digits : ℤ) (old new : Number) → IsNumber old → old.high + 1 < place digits → PadsStart (place digits) old new → new ≡ front_padded digits old
pads_start_is digits old new number above pads =
    let beyond : 32768 < place digits = omega (arith, number.ones, above) in
    same_fields new (front_padded digits old) pads.count pads.low
    (padded_highest 32768 (place digits) old.count old.high new.high number.below above number.ones (pads.high beyond))

pub pads_down_is : (at : ℕ) (old new : Number) → IsNumber old → at ≤ old.low → PadsEnd at old new → new ≡ padded_down at old
pads_down_is at old new number under pads =
    same_fields new (padded_down at old) pads.count
    (padded_lowest at old.count old.low new.low number.whole under (pads.low (omega (arith, number.low, under)))) pads.high

-- ---- options that change nothing

pub unchanged_shows : (n : Number) → IsNumber n → shown unchanged.rounding unchanged n ≡ n
unchanged_shows n number = same_fields (shown unchanged.rounding unchanged n) n refl (omega (arith, number.low)) (omega (arith, number.ones))

pub unchanged_changes_nothing : (fractions : Option FractionInfo) (value : SignedValue Number) → IsNumber value.absolute → changed unchanged fractions value ≡ value
unchanged_changes_nothing fractions value number = λ i. record { sign = value.sign; absolute = unchanged_shows value.absolute number i }
