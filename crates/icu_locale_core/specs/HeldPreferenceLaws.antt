-- What holds of preferences and of data locales, beside the clauses of their calls.
-- Defined in docs/preferences.md, "What a locale prefers" and "Reading a data locale".
-- Cited by the functions of the module of laws. It uses many modules, since a preference is read, printed and held by a tag.
use Rattle.std.specs.Prelude.{◌≡◌, false, IfSome}
use Rattle.icu_locale_core_grammar.specs.declared.error.ParseError.{ParseError}
use Rattle.icu_locale_core_grammar.specs.Subtags.{Text, is_language, is_script, is_region, is_variant, lower, title, upper}
use Rattle.icu_locale_core_grammar.specs.Pieces.{pieces}
use Rattle.icu_locale_core_grammar.specs.Meaning.{TagMeaning, MeansTag}
use Rattle.icu_locale_core_grammar.specs.NormalText.{normal_text}
use Rattle.icu_locale_core_grammar.specs.WellFormed.{IsNormalPiece}
use Rattle.icu_locale_core_grammar.specs.TagPreferences.{LocalePreferencesMeaning, preferences_of, locale_preferences_of, DataLocaleMeaning, language_priority, data_meaning}
use Rattle.icu_locale_core_grammar.specs.PreferenceChanges.{preference_tag}
use Rattle.icu_locale_core_grammar.specs.PreferenceLaws.{IsNormalSubdivision}
use Rattle.icu_locale_core_grammar.specs.DataTags.{MeansDataLocale, HasDataFault}
use Rattle.icu_locale_core.specs.DataText.{data_text}
use Rattle.icu_locale_core.specs.HeldTag.{held_tag, is_true_subdivision}

-- ---- normal form: each part is of its class, and in its normal case

pub record IsNormalData (d : DataLocaleMeaning) : Type 0 where
  pub language : IsNormalPiece is_language lower d.language
  pub script : IfSome d.script (IsNormalPiece is_script title)
  pub region : IfSome d.region (IsNormalPiece is_region upper)
  pub variant : IfSome d.variant (IsNormalPiece is_variant lower)
  pub subdivision : IfSome d.subdivision IsNormalSubdivision

pub record IsNormalPreferences (p : LocalePreferencesMeaning) : Type 0 where
  pub data_locale : IsNormalData (language_priority p)
  pub region_override : IfSome p.region_override IsNormalSubdivision

-- neither subdivision is `true`
pub record HoldsNoTrue (p : LocalePreferencesMeaning) : Type 0 where
  pub subdivision : is_true_subdivision p.subdivision ≡ false
  pub region_override : is_true_subdivision p.region_override ≡ false

-- ---- printed and read

-- the printed text is this data locale, and nothing else, and has no fault
pub record IsReadBack (d : DataLocaleMeaning) : Type 0 where
  pub means : MeansDataLocale (pieces (data_text d)) d
  pub alone : (e : DataLocaleMeaning) → MeansDataLocale (pieces (data_text d)) e → e ≡ d
  pub accepted : (e : ParseError) → HasDataFault (pieces (data_text d)) e → ⊥

abbrev pub ReadDataReadsBack : Type 0
ReadDataReadsBack = (text : Text) (d : DataLocaleMeaning) → MeansDataLocale (pieces text) d → IsReadBack d

abbrev pub NormalDataReadsBack : Type 0
NormalDataReadsBack = (d : DataLocaleMeaning) → IsNormalData d → is_true_subdivision d.subdivision ≡ false → IsReadBack d

-- ---- held by a locale

-- the locale made of preferences has these preferences
pub record IsHeld (p : LocalePreferencesMeaning) : Type 0 where
  pub whole : held_tag (preference_tag p) ≡ preference_tag p
  pub back : locale_preferences_of (held_tag (preference_tag p)) ≡ p

abbrev pub PreferencesAreHeld : Type 0
PreferencesAreHeld = (p : LocalePreferencesMeaning) → IsNormalPreferences p → HoldsNoTrue p → IsHeld p

-- the locale made of a data locale has this data locale
pub record IsHeldData (d : DataLocaleMeaning) : Type 0 where
  pub whole : held_tag (data_meaning d) ≡ data_meaning d
  pub back : language_priority (locale_preferences_of (held_tag (data_meaning d))) ≡ d

abbrev pub DataIsHeld : Type 0
DataIsHeld = (d : DataLocaleMeaning) → IsNormalData d → is_true_subdivision d.subdivision ≡ false → IsHeldData d

-- ---- tags that were read

-- an accepted text and its normal text prefer alike
abbrev pub AcceptedTextsPreferAlike : Type 0
AcceptedTextsPreferAlike = (text : Text) (m n : TagMeaning) → MeansTag (pieces text) m → MeansTag (pieces (normal_text m)) n → preferences_of n ≡ preferences_of m

-- a text that is a data locale is the one of its tag
abbrev pub DataLocaleIsOfItsTag : Type 0
DataLocaleIsOfItsTag = (text : Text) (d : DataLocaleMeaning) (m : TagMeaning) → MeansDataLocale (pieces text) d → MeansTag (pieces text) m → d ≡ language_priority (locale_preferences_of m)

-- no tag prefers the subdivision `true`
abbrev pub TagsHoldNoTrue : Type 0
TagsHoldNoTrue = (text : Text) (m : TagMeaning) → MeansTag (pieces text) m → HoldsNoTrue (locale_preferences_of m)
