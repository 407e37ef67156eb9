use Rattle.std.proofs.Common.{rules, refl}
use Rattle.std.proofs.lemmas.Fn.{always_returns_same}
use Rattle.icu_locale_core_grammar.specs.Collections.{text_cmp}
use Rattle.icu_locale_core_keywords_fields.proofs.SearchLemmas.{searched}
use Rattle.icu_locale_core_keywords_fields.proofs.placing.place_in.Goals as goal

pub returns : goal.returns
returns g c =
    searched c.args.key.now _ _ c.args.entries.now _ refl refl c.requires c.binary_search_by.ensures.bound
    (c.binary_search_by.ensures.position (λ e. text_cmp e.0 c.args.key.now) (always_returns_same _ _ _ (λ a r f k. search rules)))
