-- Which tags are data locales: at most one variant, and no extension but a subdivision that reads.
-- Defined in docs/preferences.md, "Reading a data locale".
-- Cited by the reader of a data locale, and by the laws on them.
use Rattle.std.specs.Prelude.{◌≡◌, ◌≤◌, List, length, ◌⊎◌}
use Rattle.icu_locale_core_grammar.specs.declared.error.ParseError.{ParseError}
use Rattle.icu_locale_core_grammar.specs.declared.error.ParseError.TheVariants.{InvalidLanguage, InvalidSubtag, InvalidExtension, DuplicatedExtension, Memory}
use Rattle.icu_locale_core_grammar.specs.Subtags.{Text}
use Rattle.icu_locale_core_grammar.specs.Meaning.{TagMeaning, MeansTag}
use Rattle.icu_locale_core_grammar.specs.FaultyPiece.{HasFault}
use Rattle.icu_locale_core_grammar.specs.TagPreferences.{DataLocaleMeaning, data_meaning, locale_preferences_of, language_priority}

abbrev pub HasOneVariant : TagMeaning → Type 0
HasOneVariant m = length m.language.variants ≤ 1

-- the tag is its own data locale: nothing else is said
abbrev pub IsDataTag : TagMeaning → Type 0
IsDataTag m = data_meaning (language_priority (locale_preferences_of m)) ≡ m

-- these pieces are a tag that is a data locale
pub record MeansDataLocale (ps : List Text) (d : DataLocaleMeaning) : Type 0 where
  pub tag : TagMeaning
  pub means : MeansTag ps tag
  pub is : IsDataTag tag
  pub same : language_priority (locale_preferences_of tag) ≡ d

-- a tag that is not one: too many variants, or else an extension that a data locale does not hold
abbrev pub IsRefusedTag : TagMeaning → ParseError → Type 0
IsRefusedTag m InvalidSubtag = HasOneVariant m → ⊥
IsRefusedTag m InvalidExtension = HasOneVariant m × (IsDataTag m → ⊥)
IsRefusedTag m InvalidLanguage = ⊥
IsRefusedTag m DuplicatedExtension = ⊥
IsRefusedTag m Memory = ⊥

pub record IsTagRefused (ps : List Text) (e : ParseError) : Type 0 where
  pub tag : TagMeaning
  pub means : MeansTag ps tag
  pub refused : IsRefusedTag tag e

-- the faults of the tag come first
abbrev pub HasDataFault : List Text → ParseError → Type 0
HasDataFault ps e = HasFault MeansTag ps e ⊎ IsTagRefused ps e
