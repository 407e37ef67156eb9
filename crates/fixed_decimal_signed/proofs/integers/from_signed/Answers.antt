use Rattle.std.proofs.Common.{◌∙◌, ap, subst}
use Rattle.std.specs.Int.{w128}
use Rattle.std.proofs.lemmas.Int.{to_z-of_z}
use Rattle.fixed_decimal_unsigned.specs.Integers.{IsInteger}
use Rattle.fixed_decimal_signed.specs.WholeNumbers.{sign_of, size_of}
use Rattle.fixed_decimal_signed.proofs.integers.from_signed.Goals as goal

pub returns-clause-value : goal.returns-clause-value
returns-clause-value c =
    let same = to_z-of_z w128 c.args.integer c.ranges.integer in
    record {
      sign = c.sign_below-sign.ensures ∙ ap sign_of same;
      size = subst (λ n. IsInteger n c.in_ok-absolute.absolute) (c.size_without_sign.ensures ∙ ap size_of same) c.in_ok-absolute.ensures.value;
    }
