use Rattle.std.proofs.Common.{◌+◌, nat_lt, sym, ◌∙◌}
use Rattle.std.proofs.lemmas.List.Quantifiers.{position-Some}
use Rattle.icu_decimal_compact_value.proofs.CarriedLemmas.{carried, kept, next_entry, no_next, stays}
use Rattle.icu_decimal_compact_value.proofs.shown.carried_index.Goals as goal

pub returns-then-magnitude_place-place-clause-plain : goal.returns-then-magnitude_place-place-clause-plain
returns-then-magnitude_place-place-clause-plain c = stays c.args.entries.now c.args.place c.args.rounded.now.count c.magnitude_place.result c.magnitude_place.ensures c.if-magnitude_place-place.true

pub returns-in_default-clause-plain : goal.returns-in_default-clause-plain
returns-in_default-clause-plain c = no_next c.args.entries.now c.args.place c.args.rounded.now.count c.magnitude_place.result c.magnitude_place.ensures c.next_index.result c.next_index.ensures c.in_default.is

pub returns-then-entries-next-clause-carried : goal.returns-then-entries-next-clause-carried
returns-then-entries-next-clause-carried c =
    carried c.args.entries.now c.args.place c.args.rounded.now.count c.magnitude_place.result c.magnitude_place.ensures c.requires c.if-magnitude_place-place.false c.in-Some.next (sym c.in-Some.is ∙ c.next_index.ensures)
    (record { log10_type = 0; exponent = 0 }) (position-Some (λ x. nat_lt c.args.place (32768 + x.log10_type)) c.args.entries.now c.in-Some.next (record { log10_type = 0; exponent = 0 }) (sym c.next_index.ensures ∙ c.in-Some.is)).0 c.if-entries-next.true

pub returns-then-entries-next-clause-entry : goal.returns-then-entries-next-clause-entry
returns-then-entries-next-clause-entry c =
    next_entry c.args.entries.now c.args.place c.args.rounded.now.count c.magnitude_place.result c.magnitude_place.ensures c.requires c.if-magnitude_place-place.false c.in-Some.next (sym c.in-Some.is ∙ c.next_index.ensures)

pub returns-else-entries-next-clause-plain : goal.returns-else-entries-next-clause-plain
returns-else-entries-next-clause-plain c =
    kept c.args.entries.now c.args.place c.args.rounded.now.count c.magnitude_place.result c.magnitude_place.ensures c.requires c.if-magnitude_place-place.false c.in-Some.next (sym c.in-Some.is ∙ c.next_index.ensures)
    (record { log10_type = 0; exponent = 0 }) (position-Some (λ x. nat_lt c.args.place (32768 + x.log10_type)) c.args.entries.now c.in-Some.next (record { log10_type = 0; exponent = 0 }) (sym c.next_index.ensures ∙ c.in-Some.is)).0 c.if-entries-next.false
