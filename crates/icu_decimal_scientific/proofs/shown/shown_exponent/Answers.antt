use Rattle.std.proofs.Common.{◌∙◌, ap, subst, sym, w32}
use Rattle.std.proofs.lemmas.Int.{to_z-of_z}
use Rattle.fixed_decimal.specs.Integers.{IsInteger}
use Rattle.fixed_decimal.specs.Number.{Number}
use Rattle.fixed_decimal.specs.SignedValue.{SignedValue}
use Rattle.fixed_decimal.specs.WholeNumbers.{IsSignedWhole, size_of}
use Rattle.icu_decimal_scientific.specs.ShownNumbers.{IsShownExponent, exponent_sign}
use Rattle.icu_decimal_scientific.proofs.ReaderLemmas.{exponent_made}
use Rattle.icu_decimal_scientific.proofs.ShownExponentLemmas.{shown_exponent_is_function}
use Rattle.icu_decimal_scientific.proofs.shown.shown_exponent.Goals as goal

pub returns-clause-value : goal.returns-clause-value
returns-clause-value c =
    let same = to_z-of_z w32 c.args.exponent c.ranges.exponent in
    let whole = subst (λ z. IsSignedWhole z c.in_ok-shown.shown) same c.in_ok-shown.ensures.value in
    let seen = ap (λ (v : SignedValue Number). v.absolute) c.shown.view_is in
    (shown_exponent_is_function c.args.options c.args.exponent c.with_sign.result).0
    (subst (IsShownExponent c.args.options c.args.exponent) (sym c.with_sign.ensures)
    (exponent_made c.args.options c.args.exponent c.sign_shown.result c.shown.inside.absolute c.pad.new.number
    (subst (IsInteger (size_of c.args.exponent)) (sym seen) whole.size) c.pad.ensures (c.sign_shown.ensures ∙ ap (exponent_sign c.args.options.sign) same)))
