-- What a reader must believe: the grammar of tags, its meaning, its faults and its normal text.
pub use Rattle.icu_locale_core_grammar.specs.Subtags
pub use Rattle.icu_locale_core_grammar.specs.Pieces
pub use Rattle.icu_locale_core_grammar.specs.Collections
pub use Rattle.icu_locale_core_grammar.specs.LanguagePart
pub use Rattle.icu_locale_core_grammar.specs.Extensions
pub use Rattle.icu_locale_core_grammar.specs.Meaning
pub use Rattle.icu_locale_core_grammar.specs.FaultyPiece
pub use Rattle.icu_locale_core_grammar.specs.FaultNumber
pub use Rattle.icu_locale_core_grammar.specs.NormalText
pub use Rattle.icu_locale_core_grammar.specs.WellFormed
pub use Rattle.icu_locale_core_grammar.specs.PartReaders
pub use Rattle.icu_locale_core_grammar.specs.PartialReading
pub use Rattle.icu_locale_core_grammar.specs.TagPreferences
pub use Rattle.icu_locale_core_grammar.specs.SamePreferences
pub use Rattle.icu_locale_core_grammar.specs.DataTags
pub use Rattle.icu_locale_core_grammar.specs.TagOrder
pub use Rattle.icu_locale_core_grammar.specs.PreferenceChanges
-- Statements of laws.
pub use Rattle.icu_locale_core_grammar.specs.CollectionLaws
pub use Rattle.icu_locale_core_grammar.specs.TagLaws
pub use Rattle.icu_locale_core_grammar.specs.PartLaws
pub use Rattle.icu_locale_core_grammar.specs.OrderLaws
pub use Rattle.icu_locale_core_grammar.specs.PreferenceLaws
pub use Rattle.icu_locale_core_subtag_lists.specs.Laws as SetLaws
pub use Rattle.icu_locale_core_keywords_fields.specs.Laws as EntryLaws
pub use Rattle.icu_locale_core_langid.specs.SingleLaws
pub use Rattle.icu_locale_core_locale.specs.ReadsBack
pub mod HeldPreferenceLaws
-- Subtags: what a rule is, raw forms, JSON texts, what an iterator has left.
pub use Rattle.icu_locale_core_subtags.specs.SubtagRule
pub use Rattle.icu_locale_core_subtags.specs.RawSubtag
pub use Rattle.icu_locale_core_subtags.specs.JsonText
pub use Rattle.icu_locale_core_subtags.specs.PiecesLeft
-- One variant and one keyword, in each mode.
pub use Rattle.icu_locale_core_grammar.specs.SingleVariant
pub use Rattle.icu_locale_core_langid.specs.OneVariant
pub use Rattle.icu_locale_core_langid.specs.SingleModes
-- Language identifiers: their parts, their text, what each mode reads.
pub use Rattle.icu_locale_core_langid.specs.Parts
pub use Rattle.icu_locale_core_langid.specs.Modes
pub use Rattle.icu_locale_core_langid.specs.LanguageText
pub use Rattle.icu_locale_core_langid.specs.SameLanguage
pub use Rattle.icu_locale_core_langid.specs.NormalizedText
-- Sets, values and maps: read, written, ordered, after a change.
pub use Rattle.icu_locale_core_subtag_lists.specs.SubtagSets
pub use Rattle.icu_locale_core_subtag_lists.specs.Reading
pub use Rattle.icu_locale_core_keywords_fields.specs.Values
pub use Rattle.icu_locale_core_keywords_fields.specs.EntryText
pub use Rattle.icu_locale_core_keywords_fields.specs.Orders
pub use Rattle.icu_locale_core_keywords_fields.specs.Lends
pub use Rattle.icu_locale_core_keywords_fields.specs.EntryChanges
pub use Rattle.icu_locale_core_keywords_fields.specs.Retained
-- Keywords with a type of their own.
pub use Rattle.icu_locale_core_preference_keywords.specs.KeywordWords
pub use Rattle.icu_locale_core_preference_keywords.specs.TypedKeywords
pub use Rattle.icu_locale_core_preference_keywords.specs.OwnWords
pub use Rattle.icu_locale_core_preference_keywords.specs.WordLaws
-- Extensions: one by itself, all of a tag, when two are one.
pub use Rattle.icu_locale_core_extensions.specs.ExtensionText
pub use Rattle.icu_locale_core_extensions.specs.SameExtension
pub use Rattle.icu_locale_core_extensions.specs.SameExtensionLaws
pub use Rattle.icu_locale_core_extensions.specs.ExtensionsValue
pub use Rattle.icu_locale_core_extensions.specs.ExtensionsOrder
pub use Rattle.icu_locale_core_extensions.specs.ExtensionsText
pub use Rattle.icu_locale_core_extensions.specs.RetainedByType
-- On which texts a reader may allocate.
pub use Rattle.icu_locale_core_langid.specs.Allocation as LanguageAllocation
pub use Rattle.icu_locale_core_keywords_fields.specs.Allocation as EntryAllocation
pub use Rattle.icu_locale_core_extensions.specs.Allocation as ExtensionAllocation
pub use Rattle.icu_locale_core_locale.specs.Allocation as TagAllocation
-- Data locales, their text, and what a locale holds of a tag.
pub mod DataLocales
pub mod DataExtensions
pub mod DataText
pub mod HeldTag
-- What the readers follow, piece by piece.
pub use Rattle.icu_locale_core_grammar.specs.Stepping
pub use Rattle.icu_locale_core_grammar.specs.TagStages
-- What a text gives, as one computation: its meaning, or the fault.
pub use Rattle.icu_locale_core_grammar.specs.KnownRows
-- When two locales are one.
pub use Rattle.icu_locale_core_locale.specs.LocaleOrders
pub use Rattle.icu_locale_core_locale.specs.LocaleValue
pub use Rattle.icu_locale_core_locale.specs.SameLocale
