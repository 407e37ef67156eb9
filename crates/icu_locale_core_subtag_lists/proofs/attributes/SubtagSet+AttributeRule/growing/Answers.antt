use Rattle.std.proofs.Common.{◌∙◌, sym}
use Rattle.icu_locale_core_grammar.proofs.SetLemmas.{set_of_rising}
use Rattle.icu_locale_core_subtag_lists.proofs.JoiningLemmas.{fold_past}
use Rattle.icu_locale_core_subtag_lists.proofs.attributes.SubtagSet+AttributeRule.growing.Goals as goal

pub returns-clause-value : goal.returns-clause-value
returns-clause-value c =
    let items = c.as_slice-attribute-items.result.now in
    sym (fold_past c.loop-attribute.growing items c.loop-attribute.attribute-index c.loop-attribute-test.false) ∙ c.loop-attribute.invariant
    ∙ set_of_rising c.args.self.now c.as_slice-attribute-items.ensures.set.rises
