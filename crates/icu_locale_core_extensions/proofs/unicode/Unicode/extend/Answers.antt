use Rattle.std.proofs.Common.{◌≡◌, ◌++◌, List, sym, ap, ◌∙◌}
use Rattle.std.proofs.lemmas.Result.{on_ok_weaker}
use Rattle.icu_locale_core_grammar.specs.Subtags.{Text}
use Rattle.icu_locale_core_grammar.specs.Collections.{set_of}
use Rattle.icu_locale_core_grammar.specs.Meaning.{UnicodeMeaning}
use Rattle.icu_locale_core_subtag_lists.specs.SubtagSets.{has_all_of}
use Rattle.icu_locale_core_subtag_lists.proofs.JoiningLemmas.{has_joined}
use Rattle.icu_locale_core_extensions.proofs.unicode.Unicode.extend.Goals as goal

-- no further attribute is taken in
pub returns-then-has_all-clause-attributes : goal.returns-then-has_all-clause-attributes
returns-then-has_all-clause-attributes c =
    let same = has_joined c.self.inside.attributes c.other.inside.attributes (ap (has_all_of c.self.inside.attributes) (sym c.as_slice.ensures.value) ∙ sym c.has_all.ensures ∙ c.if-has_all.true) c.texts_rise.ensures in
    let here : c.self.inside.attributes ≡ c.args.self.now.head = ap (λ (u : UnicodeMeaning). u.head) c.self.view_is in
    let there : c.other.inside.attributes ≡ c.args.other.head = ap (λ (u : UnicodeMeaning). u.head) c.other.view_is in
    let joined : c.self.inside.attributes ≡ set_of (c.args.self.now.head ++ c.args.other.head) =
    same ∙ ap (λ (ts : List Text). set_of (ts ++ c.other.inside.attributes)) here ∙ ap (λ (ts : List Text). set_of (c.args.self.now.head ++ ts)) there in
    on_ok_weaker c.extend_from_keywords.result (λ kept. joined) c.extend_from_keywords.ensures.ok
