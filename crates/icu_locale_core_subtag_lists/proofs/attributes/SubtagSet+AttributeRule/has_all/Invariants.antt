use Rattle.std.proofs.Common.{◌≡◌, drop}
use Rattle.icu_locale_core_subtag_lists.specs.SubtagSets.{has_all_of}
use Rattle.icu_locale_core_subtag_lists.proofs.attributes.SubtagSet+AttributeRule.has_all.Given as goal

abbrev pub invariant-loop-attribute : goal.invariant-loop-attribute
invariant-loop-attribute l = has_all_of l.self (drop l.attribute-index l.attributes) ≡ has_all_of l.self l.attributes
