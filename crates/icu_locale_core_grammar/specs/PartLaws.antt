-- What holds of the parts of a tag: each is read right, means one thing, and reads back as it is printed.
-- Defined in docs/tags.md, "Laws".
-- Cited by the functions of the module of laws on parts. It uses many modules, since a law on each part of a tag names the definitions of that part.
use Rattle.std.specs.Prelude.{◌≡◌, ◌≢◌, ◌↔◌, List, [], ◌∷◌, None, Some, ◌⊎◌}
use Rattle.std.specs.List.{AllByRecursion}
use Rattle.icu_locale_core_grammar.specs.declared.error.ParseError.{ParseError}
use Rattle.icu_locale_core_grammar.specs.declared.error.ParseError.TheVariants.{InvalidLanguage}
use Rattle.icu_locale_core_grammar.specs.Subtags.{Text, is_plain, is_key, is_field_key, is_attribute, is_private_piece, is_other_piece, is_unicode, is_transform, is_private, unicode_text, transform_text, private_text}
use Rattle.icu_locale_core_grammar.specs.Pieces.{pieces, joined_text}
use Rattle.icu_locale_core_grammar.specs.Collections.{Entry, Each, Rises}
use Rattle.icu_locale_core_grammar.specs.LanguagePart.{LanguageId, MeansLanguage}
use Rattle.icu_locale_core_grammar.specs.Meaning.{MeansAttributes, keyword_needs_value, field_needs_value, UnicodeMeaning, MeansUnicode, TransformMeaning, MeansTransform, MeansOther, MeansTag}
use Rattle.icu_locale_core_grammar.specs.FaultyPiece.{IsAccepted, HasFault}
use Rattle.icu_locale_core_grammar.specs.NormalText.{language_pieces, entry_pieces, unicode_pieces, transform_pieces, normal_text}
use Rattle.icu_locale_core_grammar.specs.WellFormed.{AreLower, IsNormalLanguage, IsNormalValue, AreNormalEntries, IsNormalUnicode, IsNormalTransform}
use Rattle.icu_locale_core_grammar.specs.PartReaders.{IsExtension, MeansOwn, MeansKeywords, MeansFields, MeansValue}
use Rattle.icu_locale_core_grammar.specs.PartialReading.{ReadsFront}
use Rattle.icu_locale_core_grammar.specs.TagPreferences.{Subdivision, SpellsSubdivision, subdivision_of, DataLocaleMeaning, data_meaning}
use Rattle.icu_locale_core_grammar.specs.DataTags.{MeansDataLocale, HasDataFault}
use Rattle.icu_locale_core_grammar.specs.SingleVariant.{SingleMeaning, single_tag, MeansSingle, HasSingleFault}

-- ---- over any grammar

-- a list of pieces has one meaning at most
abbrev pub IsOne : {M : Type 0} → (List Text → M → Type 0) → Type 0
IsOne {M} Means = (ps : List Text) (m n : M) → Means ps m → Means ps n → m ≡ n

-- of a list one front is read at most, and one rest is left
abbrev pub LeavesOne : {M : Type 0} → (List Text → M → Type 0) → Type 0
LeavesOne {M} Means = (ps : List Text) (m n : M) (rest tail : List Text) → ReadsFront Means ps m rest → ReadsFront Means ps n tail → (m ≡ n) × (rest ≡ tail)

-- what is accepted is letters and digits, so that its pieces are those of its text
abbrev pub TakesPlain : {M : Type 0} → (List Text → M → Type 0) → Type 0
TakesPlain {M} Means = (ps : List Text) (m : M) → Means ps m → Each is_plain ps

-- pieces of letters and digits are those of their text
abbrev pub PlainPiecesReadBack : Type 0
PlainPiecesReadBack = (p : Text) (ps : List Text) → Each is_plain (p ∷ ps) → pieces (joined_text (p ∷ ps)) ≡ p ∷ ps

-- ---- language identifiers

abbrev pub LanguageHasMeaningOrFault : Type 0
LanguageHasMeaningOrFault = (ps : List Text) → IsAccepted MeansLanguage ps ⊎ ((e : ParseError) × HasFault MeansLanguage ps e)

-- a front is a language part, or the first piece is at fault
abbrev pub LanguageHasFrontOrFault : Type 0
LanguageHasFrontOrFault = (ps : List Text) → ((id : LanguageId) × (rest : List Text) × ReadsFront MeansLanguage ps id rest) ⊎ HasFault MeansLanguage ps InvalidLanguage

-- ---- printed and read

abbrev pub LanguageReadsBack : Type 0
LanguageReadsBack = (id : LanguageId) → IsNormalLanguage id → MeansLanguage (language_pieces id) id

abbrev pub UnicodeReadsBack : Type 0
UnicodeReadsBack = (u : UnicodeMeaning) → IsNormalUnicode u → unicode_pieces u ≢ [] → IsExtension is_unicode MeansUnicode (unicode_text ∷ unicode_pieces u) u

abbrev pub TransformReadsBack : Type 0
TransformReadsBack = (t : TransformMeaning) → IsNormalTransform t → transform_pieces t ≢ [] → IsExtension is_transform MeansTransform (transform_text ∷ transform_pieces t) t

abbrev pub PrivateReadsBack : Type 0
PrivateReadsBack = (subtags : List Text) → AreLower is_private_piece subtags → subtags ≢ [] → IsExtension is_private MeansOwn (private_text ∷ subtags) subtags

abbrev pub OtherReadsBack : Type 0
OtherReadsBack = (subtags : List Text) → AreLower is_other_piece subtags → MeansOther subtags subtags

abbrev pub AttributesReadBack : Type 0
AttributesReadBack = (set : List Text) → AreLower is_attribute set → Rises set → MeansAttributes set set

abbrev pub KeywordsReadBack : Type 0
KeywordsReadBack = (es : List Entry) → AreNormalEntries is_key es → MeansKeywords (entry_pieces keyword_needs_value es) es

abbrev pub FieldsReadBack : Type 0
FieldsReadBack = (es : List Entry) → AreNormalEntries is_field_key es → MeansFields (entry_pieces field_needs_value es) es

abbrev pub ValueReadsBack : Type 0
ValueReadsBack = (vs : List Text) → AllByRecursion IsNormalValue vs → MeansValue vs vs

-- ---- parts of extensions

-- keywords are what follows `u` without an attribute, and fields what follows `t` without a language
abbrev pub KeywordsStandAlone : Type 0
KeywordsStandAlone = (ps : List Text) (es : List Entry) → MeansKeywords ps es ↔ MeansUnicode ps (record { head = []; entries = es })

abbrev pub FieldsStandAlone : Type 0
FieldsStandAlone = (ps : List Text) (es : List Entry) → MeansFields ps es ↔ MeansTransform ps (record { head = None; entries = es })

-- ---- preferences

abbrev pub SubdivisionsAreSpelled : Type 0
SubdivisionsAreSpelled = (text : Text) (s : Subdivision) → (subdivision_of text ≡ Some s) ↔ SpellsSubdivision text s

-- a data locale that was read prints a text that reads back
abbrev pub DataReadsBack : Type 0
DataReadsBack = (ps : List Text) (d : DataLocaleMeaning) → MeansDataLocale ps d → MeansDataLocale (pieces (normal_text (data_meaning d))) d

-- each list of pieces is a data locale or has a fault, one at most, and never both
abbrev pub DataHasMeaningOrFault : Type 0
DataHasMeaningOrFault = (ps : List Text) → ((d : DataLocaleMeaning) × MeansDataLocale ps d) ⊎ ((e : ParseError) × HasDataFault ps e)

abbrev pub DataHasOneFault : Type 0
DataHasOneFault = (ps : List Text) (e f : ParseError) → HasDataFault ps e → HasDataFault ps f → e ≡ f

abbrev pub DataHasNeverBoth : Type 0
DataHasNeverBoth = (ps : List Text) (d : DataLocaleMeaning) (e : ParseError) → MeansDataLocale ps d → HasDataFault ps e → ⊥

-- ---- one variant and one keyword

abbrev pub SingleHasMeaningOrFault : Type 0
SingleHasMeaningOrFault = (ps : List Text) → IsAccepted MeansSingle ps ⊎ ((e : ParseError) × HasSingleFault ps e)

-- what is accepted is a tag with that meaning
abbrev pub SingleIsTag : Type 0
SingleIsTag = (ps : List Text) (m : SingleMeaning) → MeansSingle ps m → MeansTag ps (single_tag m)
