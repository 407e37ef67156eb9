use Rattle.std.proofs.Common.{rules}
use Rattle.std.proofs.lemmas.Fn.{always_returns_same}
use Rattle.icu_locale_core_locale.proofs.WellFormedLemmas.{is_below, rises_by_pairs}
use Rattle.icu_locale_core_locale.proofs.well_formed.singletons_rise.Goals as goal

pub returns : goal.returns
returns c = rises_by_pairs c.args.others.now c.is_sorted_by.result (c.is_sorted_by.ensures.cases is_below (always_returns_same _ _ _ (λ x y f k. search rules)))
