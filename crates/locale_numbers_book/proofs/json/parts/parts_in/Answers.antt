use Rattle.std.proofs.Common.{ap, subst, sym, ◌∙◌}
use Rattle.std.specs.Prelude.{IfSome}
use Rattle.std.proofs.lemmas.Bool.{false≢true}
use Rattle.serde_json.specs.View.{items_view, view}
use Rattle.locale_numbers_book.specs.Arrays.{AreParts}
use Rattle.locale_numbers_book.specs.Form.{book_fault, has_parts}
use Rattle.locale_numbers_book.proofs.PartLemmas.{as_array_is, counted_array}
use Rattle.locale_numbers_book.proofs.json.parts.parts_in.Goals as goal

pub parts_of-requires : goal.parts_of-requires
parts_of-requires c = sym (ap has_parts (as_array_is (view c.args.value) (items_view c.in-Some.values.items) c.in-Some.ensures)) ∙ c.requires

pub returns-in-Some-clause-some : goal.returns-in-Some-clause-some
returns-in-Some-clause-some c =
    subst (λ d. IfSome c.parts_of.result (AreParts d))
    (sym (as_array_is (view c.args.value) (items_view c.in-Some.values.items) c.in-Some.ensures)) c.parts_of.ensures.some

pub returns-in-Some-clause-none : goal.returns-in-Some-clause-none
returns-in-Some-clause-none c = λ none.
    ap book_fault (as_array_is (view c.args.value) (items_view c.in-Some.values.items) c.in-Some.ensures) ∙ c.parts_of.ensures.none none

pub returns-in-None-clause-none : goal.returns-in-None-clause-none
returns-in-None-clause-none c = λ none. absurd (false≢true (sym (counted_array (view c.args.value) c.in-None.ensures) ∙ c.requires))
