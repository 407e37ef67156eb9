use Rattle.std.proofs.Common.{◌≡◌, ◌+◌, ◌*◌, ◌%◌, ◌∙◌, ap, arith, of_z, sym, to_z, w16}
use Rattle.std.proofs.lemmas.Int.{to_z-of_z}
use Rattle.fixed_decimal.specs.Number.{digit, place}
use Rattle.icu_dimension_fractions.specs.Fractions.{increment_of, last_place}
use Rattle.icu_dimension_fractions.proofs.FractionLemmas.{has_even_digits, is_multiple, zero_tells, zero_told}
use Rattle.icu_dimension_fractions.proofs.fraction.Fraction.ends_in_multiple.Goals as goal

pub returns : goal.returns
returns c =
    let f = c.args.self in
    let v = c.args.number.now in
    let number = c.magnitude_range-number.ensures.number in
    let last = c.digit_at-last.result in
    let before = c.digit_at-before.result in
    let last_at : place (to_z w16 (of_z w16 c.last_magnitude.result)) ≡ last_place f = grind (arith, to_z-of_z, c.last_magnitude.ensures) in
    let before_at : place (to_z w16 (of_z w16 c.magnitude_before.result)) ≡ last_place f + 1 = grind (arith, to_z-of_z, c.magnitude_before.ensures) in
    let last_is : last ≡ digit v.count (last_place f) = c.digit_at-last.ensures.value ∙ ap (λ p. digit v.count p) last_at in
    let before_is : before ≡ digit v.count (last_place f + 1) = c.digit_at-before.ensures.value ∙ ap (λ p. digit v.count p) before_at in
    let same : (10 * before + last) % c.number.result ≡ (10 * digit v.count (last_place f + 1) + digit v.count (last_place f)) % increment_of f.increment =
    ap (λ b. (10 * b + last) % c.number.result) before_is
    ∙ ap (λ l. (10 * digit v.count (last_place f + 1) + l) % c.number.result) last_is
    ∙ ap (λ i. (10 * digit v.count (last_place f + 1) + digit v.count (last_place f)) % i) c.number.ensures.value in (
      λ even. is_multiple f v number c.requires (sym same ∙ zero_told ((10 * before + last) % c.number.result) even),
      λ multiple. zero_tells ((10 * before + last) % c.number.result) (same ∙ has_even_digits f v number c.requires multiple),
    )
