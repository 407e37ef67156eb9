use Rattle.std.proofs.Common.{◌≡◌, ◌≢◌, ◌*◌, ◌^◌, ◌∙◌, ℤ, ap, of_z, rules, subst, sym, to_z, w32}
use Rattle.fixed_decimal.specs.Number.{Number}
use Rattle.fixed_decimal.specs.Shifts.{fall, rise}
use Rattle.fixed_decimal.specs.SignedValue.{SignedValue}
use Rattle.fixed_decimal.specs.WholeNumbers.{size_of}
use Rattle.fixed_decimal.specs.declared.Sign.TheVariants.{Negative}
use Rattle.icu_decimal_scientific.proofs.ShownExponentLemmas.{exponent_is_shown}
use Rattle.icu_decimal_scientific.proofs.exponent_reader.exponent_value.Goals as goal

pub returns-clause-some : goal.returns-clause-some
returns-clause-some c =
    let e : ℤ = to_z w32 (of_z w32 c.exponent_of_size.result) in
    let sign : c.exponent.inside.sign ≡ c.args.exponent.now.sign = ap (λ (v : SignedValue Number). v.sign) c.exponent.view_is in
    let absolute : c.exponent.inside.absolute ≡ c.args.exponent.now.absolute = ap (λ (v : SignedValue Number). v.absolute) c.exponent.view_is in
    let size : size_of e ≡ c.in-Some.size = search rules in
    let below : c.exponent.inside.sign ≡ Negative → rise e ≡ 0 = λ minus. let none = c.exponent_of_size.ensures.below minus in search rules in
    let above : c.exponent.inside.sign ≢ Negative → fall e ≡ 0 = λ other. let none = c.exponent_of_size.ensures.above other in search rules in
    exponent_is_shown c.args.exponent.now c.in-Some.size e (subst (λ (n : Number). n.count ≡ c.in-Some.size * 10 ^ 32768) absolute c.in-Some.ensures.some) size
    (λ minus. below (sign ∙ minus)) (λ other. above (λ minus. other (sym sign ∙ minus)))
