-- The language part of a tag: a language, a script or none, a region or none, and variants, none of them twice.
-- UTS 35, section 3.1, "Unicode Language Identifier"; docs/tags.md, "The language part".
-- Cited by the grammar of whole tags, and by every reader of a language identifier.
use Rattle.std.specs.Prelude.{◌≡◌, true, List, [], ◌∷◌, ◌++◌, Option, None, Some, IfSome, map, option_map, option_to_list}
use Rattle.icu_locale_core_grammar.specs.Subtags.{Text, is_language, is_script, is_region, is_variant, lower, title, upper}
use Rattle.icu_locale_core_grammar.specs.Collections.{Each, AreApart, set_of}

-- a language part as it is written
pub record WrittenLanguage : Type 0 where
  pub language : Text
  pub script : Option Text
  pub region : Option Text
  pub variants : List Text

-- its pieces, in order
abbrev pub spelled_language : WrittenLanguage → List Text
spelled_language w = w.language ∷ (option_to_list w.script ++ (option_to_list w.region ++ w.variants))

-- each part is of its class, and no variant occurs twice
pub record IsLanguagePart (w : WrittenLanguage) : Type 0 where
  pub language : is_language w.language ≡ true
  pub script : IfSome w.script (λ p. is_script p ≡ true)
  pub region : IfSome w.region (λ p. is_region p ≡ true)
  pub variants : Each is_variant w.variants
  pub apart : AreApart (map lower w.variants)

-- what a language part means: its parts in normal case, the variants a set
pub record LanguageId : Type 0 where
  pub language : Text
  pub script : Option Text
  pub region : Option Text
  pub variants : List Text

abbrev pub language_meaning : WrittenLanguage → LanguageId
language_meaning w = record { language = lower w.language; script = option_map title w.script; region = option_map upper w.region; variants = set_of (map lower w.variants) }

-- these pieces are a language part, and it means `id`
pub record MeansLanguage (ps : List Text) (id : LanguageId) : Type 0 where
  pub written : WrittenLanguage
  pub sound : IsLanguagePart written
  pub parts : spelled_language written ≡ ps
  pub meant : language_meaning written ≡ id

-- these pieces are a language part or none
abbrev pub MeansInner : List Text → Option LanguageId → Type 0
MeansInner ps None = ps ≡ []
MeansInner ps (Some id) = MeansLanguage ps id
