use Rattle.std.proofs.Common.{ℕ, ap, ◌∙◌}
use Rattle.fixed_decimal.specs.Number.{Number}
use Rattle.fixed_decimal.specs.SignedValue.{SignedValue}
use Rattle.icu_plurals.specs.Operands.{operands_of}
use Rattle.legumeyet_c.proofs.categories.operands_of.Goals as goal

pub returns : goal.returns
returns c =
    c.from_significand_and_exponent.ensures
    ∙ ap (λ (n : Number). operands_of n c.exponent.result) (ap (λ (d : SignedValue Number). d.absolute) (c.significand.view_is ∙ c.significand-significand.ensures))
    ∙ ap (λ (e : ℕ). operands_of c.args.form.now.significand.absolute e) c.exponent.ensures
