use Rattle.icu_locale_core_subtag_lists.proofs.PlaceLemmas.{place_found}
use Rattle.icu_locale_core_subtag_lists.proofs.subtag_set.place.place_of.Goals as goal

pub returns : goal.returns
returns g c = place_found c.args.subtag.now c.args.items.now c.binary_search.result c.requires c.binary_search.ensures.bound c.binary_search.ensures.position
