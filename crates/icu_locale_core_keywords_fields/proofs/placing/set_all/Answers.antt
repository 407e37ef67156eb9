use Rattle.icu_locale_core_keywords_fields.proofs.NewKeyLemmas.{setting_goes_on}
use Rattle.icu_locale_core_keywords_fields.proofs.placing.set_all.Goals as goal

pub loop-key-preserved : goal.loop-key-preserved
loop-key-preserved g c =
    setting_goes_on _ _ _ _ _ _ (c.in-Some.key, c.in-Some.value) _ _ _ c.set_in.result c.loop-key.invariant c.in-Some.ensures.steps.0 c.loop-key.entries.ok.0
    c.set_in.ensures.there c.set_in.ensures.room c.set_in.ensures.ok c.set_in.ensures.capacity
