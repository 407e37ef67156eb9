use Rattle.std.proofs.Common.{rules, ℕ, ◌∙◌, ap}
use Rattle.fixed_decimal.specs.Number.{place}
use Rattle.fixed_decimal.specs.SignedRounding.{RoundsSigned}
use Rattle.fixed_decimal.specs.declared.RoundingIncrement.TheVariants.{MultiplesOf1}
use Rattle.locale_numbers_formats.specs.Rounded.{rounded}
use Rattle.locale_numbers_formats.proofs.RoundedLemmas.{rounds_as}
use Rattle.locale_numbers_formats.proofs.changing.round_whole.Goals as goal

pub returns : goal.returns
returns c =
    let rounds : RoundsSigned c.args.mode MultiplesOf1 (place c.magnitude_of.result) c.args.value.now c.round_with_mode.new.self = search rules in
    rounds_as c.args.mode MultiplesOf1 c.magnitude_of.result c.args.value.now c.round_with_mode.new.self rounds
    ∙ ap (λ (at : ℕ). rounded c.args.mode MultiplesOf1 at c.args.value.now) c.magnitude_of.ensures
