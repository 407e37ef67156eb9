-- When two language identifiers are one, part by part, and what a hasher is fed of one.
-- Defined in docs/tags.md, "Orders".
-- Cited by `==` and `hash` of language identifiers.
use Rattle.std.specs.Prelude.{◌≡◌, ◌↔◌, Bool, true, ◌&&◌, ◌++◌}
use Rattle.std.specs.Cmp.Lexicographic.{pointwise}
use Rattle.std.specs.Hash as fed
use Rattle.std.specs.Option.{option_eq}
use Rattle.icu_locale_core_grammar.specs.Subtags.{same_text}
use Rattle.icu_locale_core_grammar.specs.LanguagePart.{LanguageId}

-- each part is the same
abbrev pub same_language : LanguageId → LanguageId → Bool
same_language a b =
    same_text a.language b.language
    && (option_eq same_text a.script b.script && (option_eq same_text a.region b.region && pointwise same_text a.variants b.variants))

-- what a hasher is fed
abbrev pub language_fed : LanguageId → fed.HashWrites
language_fed a = fed.str a.language ++ (fed.option fed.str a.script ++ (fed.option fed.str a.region ++ fed.slice fed.str a.variants))

-- equal identifiers are the same part by part, and no others are
abbrev pub SameIsEqual : Type 0
SameIsEqual = (a b : LanguageId) → (same_language a b ≡ true) ↔ (a ≡ b)
