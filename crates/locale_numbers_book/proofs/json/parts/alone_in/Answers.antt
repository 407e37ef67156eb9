use Rattle.std.proofs.Common.{refl, ◌∙◌}
use Rattle.serde_json.specs.View.{view}
use Rattle.locale_numbers_book.specs.Form.{more_part}
use Rattle.locale_numbers_book.proofs.PartLemmas.{alone_is, no_form, no_more_part, no_units_part, nothing_taken}
use Rattle.locale_numbers_book.proofs.json.parts.alone_in.Goals as goal

pub returns-in-Some-clause-some : goal.returns-in-Some-clause-some
returns-in-Some-clause-some c = record {
  book = alone_is (view c.args.value) c.requires ∙ c.in-Some.ensures.some;
  units = no_units_part (view c.args.value) c.requires;
  more = nothing_taken (more_part (view c.args.value)) (no_more_part (view c.args.value) c.requires);
}

pub returns-in-None-clause-none : goal.returns-in-None-clause-none
returns-in-None-clause-none c = λ none. no_form (view c.args.value) c.requires (c.in-None.ensures.none refl)
