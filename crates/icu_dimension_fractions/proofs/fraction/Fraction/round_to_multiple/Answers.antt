use Rattle.std.proofs.Common.{◌≡◌, ◌≤◌, ap, arith, of_z, rules, subst, to_z, w16}
use Rattle.std.proofs.lemmas.Int.{to_z-of_z}
use Rattle.std.proofs.lemmas.Result.{on_ok_weaker}
use Rattle.fixed_decimal.specs.Number.{IsNumber, Number, place}
use Rattle.fixed_decimal.specs.Range.{Rounds}
use Rattle.fixed_decimal.specs.SignedValue.{SignedValue}
use Rattle.fixed_decimal.specs.declared.UnsignedRoundingMode.TheVariants.{HalfEven}
use Rattle.icu_dimension_fractions.specs.Fractions.{last_place}
use Rattle.icu_dimension_fractions.specs.RoundedDigit.{TakesMultiple, rounded_place}
use Rattle.icu_dimension_fractions.proofs.FractionLemmas.{multiple_taken, shown_multiple}
use Rattle.icu_dimension_fractions.proofs.fraction.Fraction.round_to_multiple.Goals as goal

pub returns-clause-size : goal.returns-clause-size
returns-clause-size c =
    let multiples = c.multiples-multiples.result in
    let magnitude = c.rounded_magnitude.result in
    let at : place (to_z w16 (of_z w16 magnitude)) ≡ rounded_place c.args.self = grind (arith, to_z-of_z, c.rounded_magnitude.ensures) in
    let same = ap (λ (amount : SignedValue Number). amount.absolute) c.amount.view_is in
    let given = c.args.amount.now.absolute in
    let rounded = c.round_with_mode_and_increment.new.self in
    on_ok_weaker c.round_with_mode_and_increment.result
    (λ rounds. multiple_taken c.args.self multiples given rounded.absolute (subst IsNumber same c.magnitude_range-range.ensures.number) c.multiples-multiples.ensures.value
    (subst (λ p. Rounds HalfEven multiples p given rounded.absolute) at rounds.size))
    c.round_with_mode_and_increment.ensures.value

-- a number that shows no digit after the last one
pub returns-then-last_magnitude-start-clause-size : goal.returns-then-last_magnitude-start-clause-size
returns-then-last_magnitude-start-clause-size c =
    let same = ap (λ (amount : SignedValue Number). amount.absolute) c.amount.view_is in
    let under : last_place c.args.self ≤ c.amount.inside.absolute.low = search rules in
    subst (λ number. TakesMultiple c.args.self number number) same
    (shown_multiple c.args.self c.amount.inside.absolute c.magnitude_range-range.ensures.number (c.is_one.ensures c.if-is_one.true) under)
