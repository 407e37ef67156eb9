use Rattle.std.proofs.Common.{◌∙◌, ◌==◌, length, ap}
use Rattle.icu_locale_core_subtag_lists.proofs.GrowingLemmas.{no_item}
use Rattle.icu_locale_core_subtag_lists.proofs.growing_set.GrowingSet.is_empty.Goals as goal

pub returns : goal.returns
returns g c = c.is_empty.ensures ∙ ap (λ l. length l == 0) c.as_slice.ensures.value ∙ no_item c.self.inside.items.items ∙ ap (λ l. length l == 0) c.self.view_is
