use Rattle.std.proofs.Common.{rules, ◌≡◌, ◌∙◌, ap, sym}
use Rattle.fixed_decimal.specs.Number.{place}
use Rattle.fixed_decimal.specs.declared.RoundingIncrement.TheVariants.{MultiplesOf1}
use Rattle.locale_numbers_formats.specs.Changed.{rounded_by, settled_by}
use Rattle.locale_numbers_formats.specs.Rounded.{rounded}
use Rattle.locale_numbers_formats.specs.declared.options.Rounding.{Rounding}
use Rattle.locale_numbers_formats.proofs.EitherLemmas.{same_where_both_are}
use Rattle.locale_numbers_formats.proofs.changing.round_where_both_are.Goals as goal

pub returns-clause-value : goal.returns-clause-value
returns-clause-value c = λ fractions.
    let whole : c.round_whole.new.value ≡ rounded c.args.mode MultiplesOf1 (place c.args.position) c.args.value.now = search rules in
    let settled : c.settled_by.result ≡ settled_by c.args.priority c.last_place_of-last.result c.args.position c.args.digits c.args.mode = search rules in
    whole
    ∙ same_where_both_are c.args.priority c.last_place_of-last.result c.args.position c.args.digits c.args.mode fractions c.args.value.now c.requires
    ∙ ap (λ (asked : Rounding). rounded_by asked fractions c.args.value.now) (sym settled)
