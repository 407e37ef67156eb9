use Rattle.std.proofs.Common.{◌≡◌, ◌++◌, sym, ap, ◌∙◌}
use Rattle.icu_locale_core_grammar.specs.Subtags.{lower}
use Rattle.icu_locale_core_grammar.specs.TagPreferences.{subdivision_text}
use Rattle.icu_locale_core_preference_keywords.proofs.SubdivisionLemmas.{in_lower_case, is_piece}
use Rattle.icu_locale_core_preference_keywords.proofs.subdivision.SubdivisionId.into_subtag.Goals as goal

pub unreachable-requires : goal.unreachable-requires
unreachable-requires c =
    let first = c.subtags_are_words.ensures in
    let second = c.subtags_are_words-2.ensures in
    let is : c.as_str.result.now ≡ lower c.self.inside.region ++ c.self.inside.suffix = c.as_str.ensures ∙ c.text-text.ensures ∙ ap subdivision_text (sym c.self.view_is) in
    let piece = is_piece c.self.inside.region c.self.inside.suffix c.as_str.result.now first.plain second.plain first.some first.small.short second.some second.small.short is in
    let other = (c.in-Err.ensures).0 in
    cc

pub returns : goal.returns
returns c =
    let is : c.as_str.result.now ≡ lower c.self.inside.region ++ c.self.inside.suffix = c.as_str.ensures ∙ c.text-text.ensures ∙ ap subdivision_text (sym c.self.view_is) in
    (c.in-Ok.ensures).1 ∙ in_lower_case c.self.inside.region c.self.inside.suffix c.as_str.result.now c.subtags_are_words-2.ensures.normal is ∙ c.as_str.ensures ∙ c.text-text.ensures
