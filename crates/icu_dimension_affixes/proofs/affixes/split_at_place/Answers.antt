use Rattle.std.proofs.lemmas.Str.Pattern.{split_text_parts}
use Rattle.icu_dimension_affixes.specs.UnitPlaces.{placeholder}
use Rattle.icu_dimension_affixes.proofs.PlaceLemmas.{cut_none, cut_some}
use Rattle.icu_dimension_affixes.proofs.affixes.split_at_place.Goals as goal

pub returns-clause-some : goal.returns-clause-some
returns-clause-some c = cut_some c.args.text.now _ (split_text_parts placeholder c.args.text.now _ c.split_once.ensures.cases)

pub returns-clause-none : goal.returns-clause-none
returns-clause-none c = cut_none c.args.text.now _ (split_text_parts placeholder c.args.text.now _ c.split_once.ensures.cases)
