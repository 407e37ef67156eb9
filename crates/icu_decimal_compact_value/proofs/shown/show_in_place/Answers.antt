use Rattle.std.proofs.Common.{ap, sym, ◌∙◌}
use Rattle.std.proofs.lemmas.Option.{slice_get-get_or}
use Rattle.icu_decimal_compact_value.specs.Choice.{exponent_of}
use Rattle.icu_decimal_compact_value.proofs.ShowLemmas.{plain_room, shows_carried, shows_plain}
use Rattle.icu_decimal_compact_value.proofs.shown.show_in_place.Goals as goal

pub divide-requires-in-None : goal.divide-requires-in-None
divide-requires-in-None c =
    plain_room c.args.entries.now c.args.number.now c.round_to_unit.new.number c.round_to_unit.ensures c.magnitude_place-place.result c.magnitude_place-place.ensures c.exponent_at-exponent.result
    (c.exponent_at-exponent.ensures ∙ ap exponent_of c.entry_index-entry.ensures.entry) c.exponent_at-exponent.type_inv

pub returns-in-Some : goal.returns-in-Some
returns-in-Some c =
    shows_carried c.args.entries.now c.args.number.now c.round_to_unit.new.number c.round_to_unit.ensures c.magnitude_place-place.result c.magnitude_place-place.ensures c.divide.new.rounded c.trim_start.new.self c.in-Some.next _ c.in-Some.ensures.carried c.in-Some.ensures.entry
    (ap exponent_of (sym (slice_get-get_or c.args.entries.now c.in-Some.next (record { log10_type = 0; exponent = 0 }) c.in-Some.ensures.within))) c.divide.ensures c.trim_start.ensures

pub returns-in-None : goal.returns-in-None
returns-in-None c =
    shows_plain c.args.entries.now c.args.number.now c.round_to_unit.new.number c.round_to_unit.ensures c.magnitude_place-place.result c.magnitude_place-place.ensures c.divide-in-None.new.rounded c.entry_index-entry.result c.exponent_at-exponent.result
    c.in-None.ensures.plain c.entry_index-entry.ensures.entry c.exponent_at-exponent.ensures c.divide-in-None.ensures
