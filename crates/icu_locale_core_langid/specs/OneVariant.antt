-- A language identifier with at most one variant: all of it has a size that is known before it is read.
-- Defined in docs/tags.md, "One variant and one keyword".
-- Cited by `one_variant_step` and `LanguageIdentifier::try_from_utf8_with_single_variant`.
use Rattle.std.specs.Prelude.{◌≡◌, true, List, Option, None, Some, option_to_list, if◌then◌else◌}
use Rattle.icu_locale_core_grammar.specs.Subtags.{Text}
use Rattle.icu_locale_core_grammar.specs.LanguagePart.{LanguageId, MeansLanguage}
use Rattle.icu_locale_core_grammar.specs.SingleVariant.{has_short}
use Rattle.icu_locale_core_grammar.specs.TagStages.{language_after}
use Rattle.icu_locale_core_langid.specs.Parts.{with_parts}

-- these pieces are a language part with at most one variant, and it means `id`
pub record MeansOneVariant (ps : List Text) (id : LanguageId) : Type 0 where
  pub means : MeansLanguage ps id
  pub short : has_short id.variants ≡ true

-- four parts as an identifier
abbrev pub one_variant : Text → Option Text → Option Text → Option Text → LanguageId
one_variant language script region variant = with_parts language script region (option_to_list variant)

-- and as one value
abbrev pub parts_id : Text × Option Text × Option Text × Option Text → LanguageId
parts_id parts = one_variant parts.0 parts.1 parts.2 parts.3

-- ---- stages

-- no second variant
abbrev pub kept_one : Option (Option LanguageId) → Option (Option LanguageId)
kept_one None = None
kept_one (Some None) = None
kept_one (Some (Some id)) = if has_short id.variants then Some (Some id) else None

abbrev pub one_variant_after : Option LanguageId → Text → Option (Option LanguageId)
one_variant_after l p = kept_one (language_after l p)
