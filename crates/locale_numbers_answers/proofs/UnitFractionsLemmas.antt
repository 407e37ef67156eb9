-- A number that shows no more fraction digits than are put is rounded to the digits of its currency as it is put: `specs/UnitFractions.antt`.
use Rattle.std.proofs.Common.{◌≡◌, ℕ, ◌+◌, ◌-◌, ◌*◌, ◌/◌, ◌%◌, ◌^◌, ◌<◌, ◌≤◌, ◌==◌, ◌&&◌, true, min, Option, None, Some, IfSome, inl, refl, sym, ap, ◌∙◌, subst, arith}
use Rattle.std.proofs.Math.Nat.{div-add-mod', lt_of_lt_of_le, pow-le-pow_right}
use Rattle.std.proofs.lemmas.Bool.{and_from, and_parts, eq-eqb, eqb-true}
use Rattle.fixed_decimal.specs.Number.{IsNumber, Number}
use Rattle.fixed_decimal.specs.Rounding.{IsMultiple, count_limit}
use Rattle.fixed_decimal.specs.SignedValue.{SignedValue}
use Rattle.fixed_decimal.specs.declared.UnsignedRoundingMode.TheVariants.{HalfEven}
use Rattle.fixed_decimal.proofs.RoundingLemmas.{exact}
use Rattle.icu_decimal_direct.specs.HeldUnits.{unit_texts}
use Rattle.icu_decimal_direct.specs.UnitTexts.{IsShownBy, UnitTexts, shown_down}
use Rattle.icu_decimal_direct.specs.declared.UnitTextTables.{UnitTextTables}
use Rattle.icu_dimension_fractions.specs.FractionRounding.{RoundsToFraction}
use Rattle.icu_dimension_fractions.specs.Fractions.{increment_of, last_place, step}
use Rattle.icu_dimension_fractions.specs.declared.CurrencyUsage.TheVariants.{Standard}
use Rattle.icu_dimension_fractions.specs.declared.Fraction.{Fraction}
use Rattle.icu_dimension_fractions.specs.declared.FractionIncrement.{FractionIncrement}
use Rattle.icu_dimension_fractions.specs.declared.FractionIncrement.TheVariants.{MultiplesOf1, MultiplesOf2, MultiplesOf5, MultiplesOf10, MultiplesOf20, MultiplesOf25, MultiplesOf50}
use Rattle.icu_dimension_fractions.specs.declared.FractionInfo.{FractionInfo}
use Rattle.locale_numbers_formats.specs.AmountRounding.{amount_rounded}
use Rattle.locale_numbers_formats.specs.Changed.{amount_by}
use Rattle.locale_numbers_formats.proofs.AmountLemmas.{amount_is}
use Rattle.locale_numbers_formats.proofs.ChangedLemmas.{same_fields, whole_below}
use Rattle.locale_numbers_answers.specs.UnitFractions.{has_digits_of, is_one}

-- a count that is shown within the places is below the limit
pub under_limit : (n k : ℕ) → n < 10 ^ k → k ≤ 65536 → n < count_limit
unfolding count_limit
under_limit n k less most = lt_of_lt_of_le less (pow-le-pow_right {n = 10} (omega arith) {i = k} {j = 65536} most)

-- a number without a digit below the last one of the currency is a multiple of it
is_multiple : (f : Fraction) (old : Number) → IsNumber old → f.increment ≡ MultiplesOf1 → last_place f ≤ old.low → IsMultiple (step f) old.count
is_multiple f old is one shows =
    let tens : ℕ = 10 ^ last_place f in
    let count : ℕ = old.count / tens in
    let whole : old.count % tens ≡ 0 = whole_below old.count (last_place f) old.low is.whole shows in
    let split = div-add-mod' old.count tens in
    let single : 1 * tens ≡ tens = omega arith in
    let unit : step f ≡ tens = ap (λ i. increment_of i * tens) one ∙ single in
    let multiple : old.count ≡ count * tens = omega (arith, split, whole) in
    (count, multiple ∙ ap (λ (u : ℕ). count * u) (sym unit))

put_size : (f : Fraction) (old : Number) → IsNumber old → f.increment ≡ MultiplesOf1 → last_place f ≤ old.low
    → RoundsToFraction f old (record old { low = min old.low (32768 - f.digits) })
put_size f old is one shows = record {
  taken = record {
    multiple = old.count;
    rounded = exact HalfEven (step f) old.count (is_multiple f old is one shows);
    is = inl (under_limit old.count (old.high + 1) is.below (let high = is.high in omega (arith, high)), refl);
  };
  low = omega (arith, shows);
  keeps = omega arith;
  holds = is.below;
  lowest = λ h over below. over;
}

amount_put : (f : Fraction) (v : SignedValue Number) → IsNumber v.absolute → f.increment ≡ MultiplesOf1 → last_place f ≤ v.absolute.low
    → amount_rounded f v ≡ shown_down f.digits v
amount_put f v is one shows = sym (amount_is f v (shown_down f.digits v) (record { sign = refl; size = put_size f v.absolute is one shows }))

-- no digits at least change nothing
pub as_it_is : (v : SignedValue Number) → IsNumber v.absolute → shown_down 0 v ≡ v
as_it_is v is =
    let low = is.low in
    ap (λ (n : Number). record { sign = v.sign; absolute = n })
    (same_fields (record v.absolute { low = min v.absolute.low (32768 - 0) }) v.absolute refl (omega (arith, low)) refl)

one_so : (increment : FractionIncrement) → is_one increment ≡ true → increment ≡ MultiplesOf1
one_so MultiplesOf1 one = refl
one_so MultiplesOf2 one = absurd (cc)
one_so MultiplesOf5 one = absurd (cc)
one_so MultiplesOf10 one = absurd (cc)
one_so MultiplesOf20 one = absurd (cc)
one_so MultiplesOf25 one = absurd (cc)
one_so MultiplesOf50 one = absurd (cc)

pub put_so : (fractions : Option FractionInfo) (u : UnitTexts) → has_digits_of fractions u ≡ true → (v : SignedValue Number) → IsNumber v.absolute → IsShownBy u v
    → amount_by fractions Standard v ≡ shown_down u.least v
put_so None u digits v is shown = sym (ap (λ (n : ℕ). shown_down n v) (eqb-true u.least 0 digits) ∙ as_it_is v is)
put_so (Some info) u digits v is shown =
    let f = info.standard in
    let parts = and_parts (is_one f.increment) ((u.least == f.digits) && (u.most == f.digits)) digits in
    let ends = and_parts (u.least == f.digits) (u.most == f.digits) parts.1 in
    amount_put f v is (one_so f.increment parts.0) (subst (λ (n : ℕ). 32768 - n ≤ v.absolute.low) (eqb-true u.most f.digits ends.1) shown)
    ∙ ap (λ (n : ℕ). shown_down n v) (sym (eqb-true u.least f.digits ends.0))

-- ---- the tables that are made

pub percents_put : (found : Option UnitTextTables) → IfSome found (λ tables. (unit_texts tables).least ≡ 0) → IfSome found (λ tables. has_digits_of None (unit_texts tables) ≡ true)
percents_put None least = tt
percents_put (Some tables) least = eq-eqb (unit_texts tables).least 0 least

pub amounts_put : (info : FractionInfo) (found : Option UnitTextTables) → is_one info.standard.increment ≡ true
    → IfSome found (λ tables. (unit_texts tables).least ≡ info.standard.digits) → IfSome found (λ tables. (unit_texts tables).most ≡ info.standard.digits)
    → IfSome found (λ tables. has_digits_of (Some info) (unit_texts tables) ≡ true)
amounts_put info None one least most = tt
amounts_put info (Some tables) one least most =
    let u = unit_texts tables in
    let d = info.standard.digits in
    and_from (is_one info.standard.increment) ((u.least == d) && (u.most == d)) one (and_from (u.least == d) (u.most == d) (eq-eqb u.least d least) (eq-eqb u.most d most))
