use Rattle.std.proofs.Common.{◌≡◌, ◌-◌, ◌+◌, ap, ◌∙◌, min}
use Rattle.icu_decimal_compact_value.specs.Choice.{entry_at, exponent_of, exponent_place}
use Rattle.icu_decimal_compact_value.specs.ShownValue.{magnitude, unit_place}
use Rattle.icu_decimal_compact_value.proofs.UnitLemmas.{rounded_to}
use Rattle.icu_decimal_compact_value.proofs.shown.round_to_unit.Goals as goal

pub returns : goal.returns
returns c =
    let at = c.requires.place in
    let exponent : c.exponent_at-exponent.result ≡ exponent_of (entry_at 32768 c.args.entries.now (magnitude 32768 c.args.number.now.count)) =
    c.exponent_at-exponent.ensures ∙ ap exponent_of (c.requires.entry ∙ ap (entry_at 32768 c.args.entries.now) at) in
    let place : c.rounding_place.result ≡ unit_place (exponent_place 32768 c.args.entries.now) (magnitude 32768 c.args.number.now.count) =
    c.rounding_place.ensures ∙ ap (λ x. min (32768 + x) (c.args.place - 1)) exponent
    ∙ ap (λ k. min (32768 + exponent_of (entry_at 32768 c.args.entries.now (magnitude 32768 c.args.number.now.count))) (k - 1)) at in
    let r = c.round_at.ensures in
    rounded_to c.args.entries.now c.args.number.now c.round_at.new.number c.requires.can c.rounding_place.result r.taken.multiple place r.taken.rounded r.taken.is r.low r.high
