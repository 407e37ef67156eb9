use Rattle.std.proofs.Common.{ap, ◌∙◌}
use Rattle.icu_locale_core_grammar.specs.Pieces.{pieces}
use Rattle.icu_locale_core_langid.specs.Parts.{with_parts}
use Rattle.icu_locale_core_langid.proofs.SpellingLemmas.{no_language, no_script, no_region, answers_no, answers_last}
use Rattle.icu_locale_core_langid.proofs.language_identifier.LanguageIdentifier.normalizing_eq.Goals as goal

pub returns-then-not-takes_optional : goal.returns-then-not-takes_optional
returns-then-not-takes_optional c =
    let held = with_parts c.self.inside.language c.self.inside.script c.self.inside.region c.self.inside.variants in
    answers_no c.new-iter.result (pieces c.args.other.now) held c.args.self.now (c.new-iter.ensures ∙ ap pieces c.as_bytes.ensures.value) c.self.view_is
    (no_language c.new-iter.result held c.if-not-takes_optional.ensures)

pub returns-then-not-takes_optional-2 : goal.returns-then-not-takes_optional-2
returns-then-not-takes_optional-2 c =
    let held = with_parts c.self.inside.language c.self.inside.script c.self.inside.region c.self.inside.variants in
    answers_no c.new-iter.result (pieces c.args.other.now) held c.args.self.now (c.new-iter.ensures ∙ ap pieces c.as_bytes.ensures.value) c.self.view_is
    (no_script c.new-iter.result c.takes_optional.new.iter held c.if-not-takes_optional.ensures c.if-not-takes_optional-2.ensures)

pub returns-then-not-takes_optional-3 : goal.returns-then-not-takes_optional-3
returns-then-not-takes_optional-3 c =
    let held = with_parts c.self.inside.language c.self.inside.script c.self.inside.region c.self.inside.variants in
    answers_no c.new-iter.result (pieces c.args.other.now) held c.args.self.now (c.new-iter.ensures ∙ ap pieces c.as_bytes.ensures.value) c.self.view_is
    (no_region c.new-iter.result c.takes_optional.new.iter c.takes_optional-2.new.iter held c.if-not-takes_optional.ensures c.if-not-takes_optional-2.ensures c.if-not-takes_optional-3.ensures)

pub returns : goal.returns
returns c =
    let held = with_parts c.self.inside.language c.self.inside.script c.self.inside.region c.self.inside.variants in
    answers_last c.new-iter.result (pieces c.args.other.now) c.takes_optional.new.iter c.takes_optional-2.new.iter c.takes_optional-3.new.iter held c.args.self.now c.spell_set.result
    (c.new-iter.ensures ∙ ap pieces c.as_bytes.ensures.value) c.self.view_is c.identifiers_read_back.ensures.normal c.if-not-takes_optional.ensures c.if-not-takes_optional-2.ensures c.if-not-takes_optional-3.ensures
    c.spell_set.ensures
