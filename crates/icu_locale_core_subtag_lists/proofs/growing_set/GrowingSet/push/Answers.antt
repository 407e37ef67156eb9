use Rattle.std.proofs.Common.{◌∙◌, sym, subst}
use Rattle.icu_locale_core_grammar.specs.Collections.{Rises}
use Rattle.icu_locale_core_grammar.proofs.SetLemmas.{Rises-set_of}
use Rattle.icu_locale_core_subtag_lists.proofs.PlaceLemmas.{insert_contained}
use Rattle.icu_locale_core_subtag_lists.proofs.growing_set.GrowingSet.push.Goals as goal

pub returns-then-contains-clause-value : goal.returns-then-contains-clause-value
returns-then-contains-clause-value g c =
    sym (insert_contained c.args.subtag c.args.self.now (subst Rises c.self.view_is (Rises-set_of c.self.inside.items.items)) (sym c.contains.ensures ∙ c.if-contains.true))
