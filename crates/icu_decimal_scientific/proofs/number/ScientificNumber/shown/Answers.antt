use Rattle.std.proofs.Common.{◌∙◌, ap, rules, w32}
use Rattle.std.proofs.lemmas.Int.{to_z-of_z}
use Rattle.icu_decimal_scientific.specs.Scientific.{ScientificParts}
use Rattle.icu_decimal_scientific.specs.ShownNumbers.{shown_exponent}
use Rattle.icu_decimal_scientific.proofs.ShownExponentLemmas.{shown_exponent_is_function}
use Rattle.icu_decimal_scientific.proofs.number.ScientificNumber.shown.Goals as goal

pub returns-clause-value : goal.returns-clause-value
returns-clause-value c =
    let seen = ap (λ (v : ScientificParts). v.exponent) c.self.view_is in
    record {
      significand = ap (λ (v : ScientificParts). v.significand) c.self.view_is;
      exponent = (shown_exponent_is_function c.args.options c.args.self.exponent c.in_ok-exponent.exponent).1
          (c.in_ok-exponent.ensures.value ∙ ap (shown_exponent c.args.options) (to_z-of_z w32 c.self.inside.exponent (search rules) ∙ seen));
    }
