use Rattle.std.proofs.Common.{◌≡◌, drop, fold}
use Rattle.icu_locale_core_grammar.proofs.SetLemmas.{put_text}
use Rattle.icu_locale_core_subtag_lists.proofs.attributes.SubtagSet+AttributeRule.joined.Given as goal

abbrev pub invariant-loop-attribute : goal.invariant-loop-attribute
invariant-loop-attribute l = fold put_text l.joined (drop l.attribute-index l.attribute-items) ≡ fold put_text l.self l.fn.other
