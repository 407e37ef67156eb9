-- Options that round no digit of a number away make of it what `specs/DigitChange.antt` says.
use Rattle.std.proofs.Common.{◌≡◌, ℕ, zero, suc, ℤ, pos, negsuc, ◌+◌, ◌-◌, ◌*◌, ◌/◌, ◌%◌, ◌^◌, ◌≤◌, ◌==◌, ◌&&◌, Bool, false, nat_lt, max, min, None, inl, refl, sym, ap, ◌∙◌, arith}
use Rattle.std.proofs.Math.Nat.{div-add-mod'}
use Rattle.std.proofs.lemmas.Bool.Decides.{nat_tests}
use Rattle.std.specs.Prelude.{if◌then◌else◌, neg_ℤ}
use Rattle.fixed_decimal.specs.Number.{IsNumber, Number, place}
use Rattle.fixed_decimal.specs.Range.{Rounds}
use Rattle.fixed_decimal.specs.Rounding.{IsMultiple}
use Rattle.fixed_decimal.specs.SignedRounding.{size_mode}
use Rattle.fixed_decimal.specs.SignedValue.{SignedValue}
use Rattle.fixed_decimal.specs.declared.RoundingIncrement.TheVariants.{MultiplesOf1, MultiplesOf2, MultiplesOf5, MultiplesOf25}
use Rattle.fixed_decimal.specs.declared.SignedRoundingMode.{SignedRoundingMode}
use Rattle.fixed_decimal.specs.declared.UnsignedRoundingMode.{UnsignedRoundingMode}
use Rattle.fixed_decimal.proofs.RoundingLemmas.{exact}
use Rattle.icu_decimal_direct.specs.UnitTexts.{shown_down}
use Rattle.locale_numbers_formats.specs.Changed.{changed, changed_by, end_padded, end_trimmed, front_padded, front_trimmed, padded_down, rounded_by, settled_rounding, shown, shown_signed, signed_as, start_trimmed, whole_shown, zeros_by}
use Rattle.locale_numbers_formats.specs.Rounded.{rounded}
use Rattle.locale_numbers_formats.specs.declared.LeadingZeros.{LeadingZeros}
use Rattle.locale_numbers_formats.specs.declared.LeadingZeros.TheVariants as leading
use Rattle.locale_numbers_formats.specs.declared.NumberOptions.{NumberOptions}
use Rattle.locale_numbers_formats.specs.declared.Rounding.{Rounding}
use Rattle.locale_numbers_formats.specs.declared.Rounding.TheVariants.{Usual, Cash, AsGiven, At, Significant, Either}
use Rattle.locale_numbers_formats.specs.declared.SignAsked.{SignAsked}
use Rattle.locale_numbers_formats.specs.declared.TrailingZeros.{TrailingZeros}
use Rattle.locale_numbers_formats.specs.declared.TrailingZeros.TheVariants as trailing
use Rattle.locale_numbers_formats.proofs.ChangedLemmas.{same_fields, whole_below}
use Rattle.locale_numbers_formats.proofs.RoundedLemmas.{rounds_as}
use Rattle.locale_numbers_answers.specs.DigitChange.{ChangesSo, KeepsZeros, LeavesTo, digits_changed}
use Rattle.locale_numbers_answers.specs.declared.digit_change.DigitChange.{DigitChange}
use Rattle.locale_numbers_answers.proofs.UnitFractionsLemmas.{as_it_is, under_limit}

-- ---- rounded

-- a number without a digit below a place is a multiple of the power there
multiple_at : (old : Number) (at : ℕ) → IsNumber old → at ≤ old.low → IsMultiple (1 * 10 ^ at) old.count
multiple_at old at is shows =
    let tens : ℕ = 10 ^ at in
    let whole : old.count % tens ≡ 0 = whole_below old.count at old.low is.whole shows in
    let split = div-add-mod' old.count tens in
    let single : 1 * tens ≡ tens = omega arith in
    let multiple : old.count ≡ old.count / tens * tens = omega (arith, split, whole) in
    (old.count / tens, multiple ∙ ap (λ (u : ℕ). old.count / tens * u) (sym single))

-- so it is rounded there as it is, shown down to the place
rounds_so : (mode : UnsignedRoundingMode) (old : Number) (most : ℕ) → IsNumber old → most ≤ 32 → 32768 - most ≤ old.low
    → Rounds mode MultiplesOf1 (32768 - most) old (record old { low = min old.low (32768 - most) })
rounds_so mode old most is few shows = record {
  taken = record {
    multiple = old.count;
    rounded = exact mode (1 * 10 ^ (32768 - most)) old.count (multiple_at old (32768 - most) is shows);
    is = inl (under_limit old.count (old.high + 1) is.below (let high = is.high in omega (arith, high)), refl);
  };
  low = omega (arith, shows, few);
  high = record {
    keeps = omega arith;
    position = let ones = is.ones in omega (arith, ones);
    holds = is.below;
    lowest = λ h over at below. over;
  };
}

rounded_at : (mode : SignedRoundingMode) (position : ℤ) (v : SignedValue Number) (most : ℕ) → IsNumber v.absolute → most ≤ 32 → place position ≡ 32768 - most → 32768 - most ≤ v.absolute.low
    → rounded mode MultiplesOf1 (place position) v ≡ shown_down most v
rounded_at mode position v most is few at shows =
    ap (λ (k : ℕ). rounded mode MultiplesOf1 k v) at
    ∙ ap (λ (k : ℕ). rounded mode MultiplesOf1 k v) (sym at)
    ∙ sym (rounds_as mode MultiplesOf1 position v (shown_down most v)
    (record { sign = refl; size = rw (at) (rounds_so (size_mode v.sign mode) v.absolute most is few shows) }))

-- ---- by each rounding

pub least_few : (asked : Rounding) (least most : ℕ) → LeavesTo asked least most → least ≤ 32
least_few Usual least most leaves = omega (arith, leaves.0)
least_few Cash least most leaves = omega (arith, leaves.0)
least_few AsGiven least most leaves = omega (arith, leaves.0)
least_few (At position mode MultiplesOf1) least most leaves = omega (arith, leaves.0, leaves.1.0)
least_few (At position mode MultiplesOf2) least most leaves = absurd leaves
least_few (At position mode MultiplesOf5) least most leaves = absurd leaves
least_few (At position mode MultiplesOf25) least most leaves = absurd leaves
least_few (Significant digits mode) least most leaves = absurd leaves
least_few (Either priority position digits mode) least most leaves = absurd leaves

pub most_few : (asked : Rounding) (least most : ℕ) → LeavesTo asked least most → most ≤ 32
most_few Usual least most leaves = omega (arith, leaves.1)
most_few Cash least most leaves = omega (arith, leaves.1)
most_few AsGiven least most leaves = omega (arith, leaves.1)
most_few (At position mode MultiplesOf1) least most leaves = leaves.1.0
most_few (At position mode MultiplesOf2) least most leaves = absurd leaves
most_few (At position mode MultiplesOf5) least most leaves = absurd leaves
most_few (At position mode MultiplesOf25) least most leaves = absurd leaves
most_few (Significant digits mode) least most leaves = absurd leaves
most_few (Either priority position digits mode) least most leaves = absurd leaves

settles : (asked : Rounding) (least most : ℕ) (v : SignedValue Number) → LeavesTo asked least most → settled_rounding asked v ≡ asked
settles Usual least most v leaves = refl
settles Cash least most v leaves = refl
settles AsGiven least most v leaves = refl
settles (At position mode increment) least most v leaves = refl
settles (Significant digits mode) least most v leaves = absurd leaves
settles (Either priority position digits mode) least most v leaves = absurd leaves

rounds_to : (asked : Rounding) (least most : ℕ) (v : SignedValue Number) → LeavesTo asked least most → IsNumber v.absolute → 32768 - most ≤ v.absolute.low → rounded_by asked None v ≡ shown_down least v
rounds_to Usual least most v leaves is shows = sym (ap (λ (n : ℕ). shown_down n v) leaves.0 ∙ as_it_is v is)
rounds_to Cash least most v leaves is shows = sym (ap (λ (n : ℕ). shown_down n v) leaves.0 ∙ as_it_is v is)
rounds_to AsGiven least most v leaves is shows = sym (ap (λ (n : ℕ). shown_down n v) leaves.0 ∙ as_it_is v is)
rounds_to (At position mode MultiplesOf1) least most v leaves is shows =
    rounded_at mode position v most is leaves.1.0 leaves.1.1 shows ∙ ap (λ (n : ℕ). shown_down n v) (sym leaves.0)
rounds_to (At position mode MultiplesOf2) least most v leaves is shows = absurd leaves
rounds_to (At position mode MultiplesOf5) least most v leaves is shows = absurd leaves
rounds_to (At position mode MultiplesOf25) least most v leaves is shows = absurd leaves
rounds_to (Significant digits mode) least most v leaves is shows = absurd leaves
rounds_to (Either priority position digits mode) least most v leaves is shows = absurd leaves

-- ---- zeros

-- no number that is rounded at the ones, or below them, is trimmed as one that is rounded above
below_ones : (p : ℕ) (n : Number) → p ≤ 32768 → (if nat_lt 32768 p && (n.count == 0) then start_trimmed n else n) ≡ n
below_ones p n under =
    let no : nat_lt 32768 p ≡ false = grind (arith, nat_tests, under) in
    ap (λ (b : Bool). if b && (n.count == 0) then start_trimmed n else n) no

trims_none : (front : LeadingZeros) (end : TrailingZeros) (asked : Rounding) (least most : ℕ) (n : Number) → KeepsZeros front end → LeavesTo asked least most
    → end_trimmed (zeros_by asked end) (front_trimmed front asked n) ≡ n
trims_none leading.Keep trailing.Keep Usual least most n keeps leaves = refl
trims_none leading.Keep trailing.Keep Cash least most n keeps leaves = refl
trims_none leading.Keep trailing.Keep AsGiven least most n keeps leaves = refl
trims_none leading.Keep trailing.Keep (At position mode increment) least most n keeps leaves = refl
trims_none leading.TrimRoundedZero trailing.Keep Usual least most n keeps leaves = refl
trims_none leading.TrimRoundedZero trailing.Keep Cash least most n keeps leaves = refl
trims_none leading.TrimRoundedZero trailing.Keep AsGiven least most n keeps leaves = refl
trims_none leading.TrimRoundedZero trailing.Keep (At position mode MultiplesOf1) least most n keeps leaves = below_ones (place position) n (omega (arith, leaves.1.1))
trims_none leading.TrimRoundedZero trailing.Keep (At position mode MultiplesOf2) least most n keeps leaves = absurd leaves
trims_none leading.TrimRoundedZero trailing.Keep (At position mode MultiplesOf5) least most n keeps leaves = absurd leaves
trims_none leading.TrimRoundedZero trailing.Keep (At position mode MultiplesOf25) least most n keeps leaves = absurd leaves
trims_none front trailing.Keep (Significant digits mode) least most n keeps leaves = absurd leaves
trims_none front trailing.Keep (Either priority position digits mode) least most n keeps leaves = absurd leaves
trims_none leading.Trim trailing.Keep asked least most n keeps leaves = absurd keeps
trims_none leading.Keep trailing.Trim asked least most n keeps leaves = absurd keeps
trims_none leading.TrimRoundedZero trailing.Trim asked least most n keeps leaves = absurd keeps
trims_none leading.Trim trailing.Trim asked least most n keeps leaves = absurd keeps
trims_none leading.Keep trailing.TrimWhole asked least most n keeps leaves = absurd keeps
trims_none leading.TrimRoundedZero trailing.TrimWhole asked least most n keeps leaves = absurd keeps
trims_none leading.Trim trailing.TrimWhole asked least most n keeps leaves = absurd keeps
trims_none leading.Keep trailing.TrimAll asked least most n keeps leaves = absurd keeps
trims_none leading.TrimRoundedZero trailing.TrimAll asked least most n keeps leaves = absurd keeps
trims_none leading.Trim trailing.TrimAll asked least most n keeps leaves = absurd keeps

shows_all : (front : LeadingZeros) (end : TrailingZeros) (n : Number) → KeepsZeros front end → whole_shown end n ≡ n
shows_all leading.Keep trailing.Keep n keeps = refl
shows_all leading.TrimRoundedZero trailing.Keep n keeps = refl
shows_all leading.Trim trailing.Keep n keeps = absurd keeps
shows_all leading.Keep trailing.Trim n keeps = absurd keeps
shows_all leading.TrimRoundedZero trailing.Trim n keeps = absurd keeps
shows_all leading.Trim trailing.Trim n keeps = absurd keeps
shows_all leading.Keep trailing.TrimWhole n keeps = absurd keeps
shows_all leading.TrimRoundedZero trailing.TrimWhole n keeps = absurd keeps
shows_all leading.Trim trailing.TrimWhole n keeps = absurd keeps
shows_all leading.Keep trailing.TrimAll n keeps = absurd keeps
shows_all leading.TrimRoundedZero trailing.TrimAll n keeps = absurd keeps
shows_all leading.Trim trailing.TrimAll n keeps = absurd keeps

pads_down : (asked : Rounding) (digits : ℤ) (least most : ℕ) (n : Number) → LeavesTo asked least most → end_padded asked digits n ≡ padded_down (place (neg_ℤ digits)) n
pads_down Usual digits least most n leaves = refl
pads_down Cash digits least most n leaves = refl
pads_down AsGiven digits least most n leaves = refl
pads_down (At position mode increment) digits least most n leaves = refl
pads_down (Significant significant mode) digits least most n leaves = absurd leaves
pads_down (Either priority position significant mode) digits least most n leaves = absurd leaves

-- so many fraction digits more, where they are asked for by a number that may be below zero
down_to : (digits : ℤ) (low least : ℕ) → low ≤ 32768 → least ≤ 32 → place digits ≤ 32800
    → min (min low (32768 - least)) (place (neg_ℤ digits)) ≡ min low (32768 - max (place digits - 32768) least)
down_to (pos zero) low least under few asked = omega (arith, under)
down_to (pos (suc n)) low least under few asked = omega (arith, under, few, asked)
down_to (negsuc n) low least under few asked = omega (arith, under, few)

-- ---- the whole

module _ (o : NumberOptions) (change : DigitChange) (least : ℕ) (leaves : LeavesTo o.rounding least change.most) (keeps : KeepsZeros o.leading_zeros o.zeros) (few : least ≤ 32)
    (whole : place o.integer_digits ≤ 32769) (more : place o.fraction_digits ≤ 32800) (counts : change.least ≡ max (place o.fraction_digits - 32768) least) (sign : change.sign ≡ o.sign) where
  shown_so : (v : Number) → IsNumber v → shown o.rounding o (record v { low = min v.low (32768 - least) }) ≡ record v { low = min v.low (32768 - change.least) }
  shown_so v is =
      let down : Number = record v { low = min v.low (32768 - least) } in
      let front : Number = front_trimmed o.leading_zeros o.rounding down in
      let end : Number = end_trimmed (zeros_by o.rounding o.zeros) front in
      let low = is.low in
      let ones = is.ones in
      let to = down_to o.fraction_digits v.low least low few more in
      shows_all o.leading_zeros o.zeros (end_padded o.rounding o.fraction_digits (front_padded o.integer_digits end)) keeps
      ∙ pads_down o.rounding o.fraction_digits least change.most (front_padded o.integer_digits end) leaves
      ∙ ap (λ (n : Number). padded_down (place (neg_ℤ o.fraction_digits)) (front_padded o.integer_digits n)) (trims_none o.leading_zeros o.zeros o.rounding least change.most down keeps leaves)
      ∙ same_fields (padded_down (place (neg_ℤ o.fraction_digits)) (front_padded o.integer_digits down)) (record v { low = min v.low (32768 - change.least) }) refl
      (to ∙ ap (λ (k : ℕ). min v.low (32768 - k)) (sym counts)) (omega (arith, whole, ones))

  changed_so : (v : SignedValue Number) → IsNumber v.absolute → 32768 - change.most ≤ v.absolute.low → changed o None v ≡ digits_changed change v
  changed_so v is shows =
      ap (λ (asked : Rounding). changed_by asked o None v) (settles o.rounding least change.most v leaves)
      ∙ ap (shown_signed o.rounding o) (rounds_to o.rounding least change.most v leaves is shows)
      ∙ ap (λ (n : Number). signed_as o.sign (record { sign = v.sign; absolute = n })) (shown_so v.absolute is)
      ∙ ap (λ (s : SignAsked). signed_as s (shown_down change.least v)) (sym sign)

  pub changes_so : change.most ≤ 32 → ChangesSo o change
  changes_so most = record { few = omega (arith, counts, few, more); most = most; same = changed_so }
