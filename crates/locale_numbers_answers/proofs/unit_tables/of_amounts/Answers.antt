use Rattle.std.proofs.Common.{◌≡◌, true, Some, IfSome, rules, subst}
use Rattle.icu_decimal_direct.specs.HeldUnits.{unit_texts}
use Rattle.icu_dimension.specs.declared.FractionInfo.{FractionInfo}
use Rattle.locale_numbers_answers.specs.UnitFractions.{has_digits_of, is_one}
use Rattle.locale_numbers_answers.proofs.UnitFractionsLemmas.{amounts_put}
use Rattle.locale_numbers_answers.proofs.unit_tables.of_amounts.Goals as goal

pub returns-in-Ok-clause-digits : goal.returns-in-Ok-clause-digits
returns-in-Ok-clause-digits c =
    let one : is_one c.fractions.result.standard.increment ≡ true = search rules in
    subst (λ (info : FractionInfo). IfSome c.with_affixes.result (λ tables. has_digits_of (Some info) (unit_texts tables) ≡ true)) c.fractions.ensures
    (amounts_put c.fractions.result c.with_affixes.result one c.with_affixes.ensures.least c.with_affixes.ensures.most)
