use Rattle.std.proofs.Common.{option_map, sym, ◌∙◌}
use Rattle.serde_json.specs.View.{items_view, view}
use Rattle.locale_numbers_book.proofs.PartLemmas.{five_alone}
use Rattle.locale_numbers_book.proofs.json.parts.units_of.Goals as goal

pub returns-in-Some-clause-some : goal.returns-in-Some-clause-some
returns-in-Some-clause-some c =
    let a = c.in-Some.arrays in
    five_alone (view c.args.value) (items_view a.first.items) (items_view a.second.items) (items_view a.third.items) (items_view a.fourth.items) (items_view a.fifth.items) (option_map (λ entries. items_view entries.items) a.sixth)
    (sym c.if-not-has_count.ensures) c.in-Some.ensures.some ∙ sym c.in_units.ensures
