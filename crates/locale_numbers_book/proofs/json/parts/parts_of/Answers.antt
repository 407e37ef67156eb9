use Rattle.std.proofs.Common.{option_map}
use Rattle.serde_json.specs.Data.{array}
use Rattle.serde_json.specs.View.{items_view, view}
use Rattle.locale_numbers_book.proofs.PartLemmas.{book_is, more_is, no_parts, parts_are, units_are}
use Rattle.locale_numbers_book.proofs.json.parts.parts_of.Goals as goal

pub returns-clause-some : goal.returns-clause-some
returns-clause-some c =
    parts_are c.all_of.result _ _ _ _
    (book_is c.args.values.items _ _ _ _ _ _ c.into_iter-values.ensures.rest c.next_value-book.ensures.rest c.next_value-units.ensures.rest c.next_value-book.ensures.first c.next_value-units.ensures.first c.next_of-more.ensures.first c.requires)
    (units_are c.args.values.items _ _ _ _ _ _ c.into_iter-values.ensures.rest c.next_value-book.ensures.rest c.next_value-units.ensures.rest c.next_value-book.ensures.first c.next_value-units.ensures.first c.next_of-more.ensures.first c.requires)
    (more_is c.args.values.items _ _ _ _ _ _ c.into_iter-values.ensures.rest c.next_value-book.ensures.rest c.next_value-units.ensures.rest c.next_value-book.ensures.first c.next_value-units.ensures.first c.next_of-more.ensures.first c.requires)
    c.all_of.ensures.book c.all_of.ensures.units c.all_of.ensures.more

pub returns-clause-none : goal.returns-clause-none
returns-clause-none c = λ none.
    no_parts (array (items_view c.args.values.items)) (view c.next_value-book.result) (view c.next_value-units.result) (option_map view c.next_of-more.result)
    (book_is c.args.values.items _ _ _ _ _ _ c.into_iter-values.ensures.rest c.next_value-book.ensures.rest c.next_value-units.ensures.rest c.next_value-book.ensures.first c.next_value-units.ensures.first c.next_of-more.ensures.first c.requires)
    (units_are c.args.values.items _ _ _ _ _ _ c.into_iter-values.ensures.rest c.next_value-book.ensures.rest c.next_value-units.ensures.rest c.next_value-book.ensures.first c.next_value-units.ensures.first c.next_of-more.ensures.first c.requires)
    (more_is c.args.values.items _ _ _ _ _ _ c.into_iter-values.ensures.rest c.next_value-book.ensures.rest c.next_value-units.ensures.rest c.next_value-book.ensures.first c.next_value-units.ensures.first c.next_of-more.ensures.first c.requires)
    (c.all_of.ensures.none none)
