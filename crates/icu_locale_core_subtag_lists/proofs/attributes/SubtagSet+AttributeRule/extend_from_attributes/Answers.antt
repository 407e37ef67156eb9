use Rattle.std.proofs.Common.{◌∙◌, ap, sym}
use Rattle.icu_locale_core_subtag_lists.specs.SubtagSets.{has_all_of}
use Rattle.icu_locale_core_subtag_lists.proofs.JoiningLemmas.{has_joined}
use Rattle.icu_locale_core_subtag_lists.proofs.attributes.SubtagSet+AttributeRule.extend_from_attributes.Goals as goal

pub returns-then-has_all-clause-value : goal.returns-then-has_all-clause-value
returns-then-has_all-clause-value c =
    has_joined c.args.self.now c.args.other (ap (has_all_of c.args.self.now) (sym c.as_slice.ensures.value) ∙ sym c.has_all.ensures ∙ c.if-has_all.true) c.texts_rise.ensures
