use Rattle.std.proofs.Common.{◌≡◌, ◌+◌, ◌-◌, min, ap, ◌∙◌, subst, refl, arith, IsTrue}
use Rattle.icu_decimal_compact_value.specs.Choice.{entry_at, exponent_of, exponent_place}
use Rattle.icu_decimal_compact_value.specs.ShownValue.{unit_place}
use Rattle.icu_decimal_compact_value.specs.Steps.{IsNines}
use Rattle.icu_decimal_compact_value.proofs.ShowableLemmas.{can_below, can_when}
use Rattle.icu_decimal_compact_value.proofs.shown.can_show.Goals as goal

pub returns-then-place-lt65535 : goal.returns-then-place-lt65535
returns-then-place-lt65535 c = (λ _. can_below c.args.entries.now c.args.number.now.count c.magnitude_place-place.result c.magnitude_place-place.ensures c.if-place-lt65535.true, λ _. refl)

pub returns : goal.returns
returns c =
    let exponent : c.exponent_at-exponent.result ≡ exponent_of (entry_at 32768 c.args.entries.now c.magnitude_place-place.result) = c.exponent_at-exponent.ensures ∙ ap exponent_of c.entry_index.ensures.entry in
    let place : c.rounding_place.result ≡ unit_place (exponent_place 32768 c.args.entries.now) c.magnitude_place-place.result =
    c.rounding_place.ensures ∙ ap (λ x. min (32768 + x) (c.magnitude_place-place.result - 1)) exponent in
    let last : 65535 ≡ c.magnitude_place-place.result = let a = c.if-place-lt65535.false in let b = c.magnitude_place-place.type_inv in omega arith in
    can_when c.args.entries.now c.args.number.now.count c.magnitude_place-place.result c.magnitude_place-place.ensures (omega arith) c.rounding_place.result place c.are_nines.result
    (subst (λ k. (IsTrue c.are_nines.result → IsNines c.rounding_place.result k c.args.number.now.count) × (IsNines c.rounding_place.result k c.args.number.now.count → IsTrue c.are_nines.result)) last c.are_nines.ensures)
