use Rattle.std.proofs.Common.{◌∙◌, ap, sym}
use Rattle.icu_locale_core_subtag_lists.specs.SubtagSets.{has_all_of}
use Rattle.icu_locale_core_subtag_lists.proofs.JoiningLemmas.{set_of_joined, fold_past, joined_to_all}
use Rattle.icu_locale_core_subtag_lists.proofs.attributes.SubtagSet+AttributeRule.joined.Goals as goal

pub returns-then-has_all-clause-value : goal.returns-then-has_all-clause-value
returns-then-has_all-clause-value c =
    joined_to_all c.args.self.now c.args.other (ap (has_all_of c.args.other) (sym c.as_slice.ensures.value) ∙ sym c.has_all.ensures ∙ c.if-has_all.true) c.texts_rise.ensures

pub returns-clause-value : goal.returns-clause-value
returns-clause-value c =
    let items = c.as_slice-attribute-items.result.now in
    c.settled.ensures ∙ sym (fold_past c.loop-attribute.joined items c.loop-attribute.attribute-index c.loop-attribute-test.false) ∙ c.loop-attribute.invariant
    ∙ sym (set_of_joined c.args.self.now c.args.other c.growing.ensures.rises)
