-- What each mode reads of a list of pieces as at most one variant and at most one keyword, and its faults.
-- Defined in docs/tags.md, "One variant and one keyword" and "Modes".
-- Cited by the readers of at most one variant that are given a mode, and by the laws on them.
use Rattle.std.specs.Prelude.{◌≡◌, Bool, List, Option, None}
use Rattle.icu_locale_core_grammar.specs.declared.error.ParseError.{ParseError}
use Rattle.icu_locale_core_grammar.specs.declared.error.ParseError.TheVariants.{InvalidLanguage}
use Rattle.icu_locale_core_grammar.specs.Subtags.{Text}
use Rattle.icu_locale_core_grammar.specs.LanguagePart.{LanguageId}
use Rattle.icu_locale_core_grammar.specs.FaultyPiece.{HasFault}
use Rattle.icu_locale_core_grammar.specs.PartialReading.{ReadsFront}
use Rattle.icu_locale_core_grammar.specs.TagStages.{has_none}
use Rattle.icu_locale_core_grammar.specs.SingleVariant.{SingleMeaning, MeansSingle, HasSingleFault}
use Rattle.icu_locale_core_langid.specs.OneVariant.{MeansOneVariant, one_variant}
use Rattle.icu_locale_core_langid.specs.declared.modes.ParserMode.{ParserMode}
use Rattle.icu_locale_core_langid.specs.declared.modes.ParserMode.TheVariants.{LanguageIdentifier, Locale, Partial}

-- ---- what a reader returns

-- four parts and a keyword as a meaning
abbrev pub with_keyword : Text × Option Text × Option Text × Option Text → Option (Text × Option Text) → SingleMeaning
with_keyword parts keyword = record { language = parts.0; script = parts.1; region = parts.2; variant = parts.3; keyword = keyword }

-- five parts, of which the last is the keyword
abbrev pub single : Text × Option Text × Option Text × Option Text × Option (Text × Option Text) → SingleMeaning
single parts = with_keyword (parts.0, parts.1, parts.2, parts.3) parts.4

-- the language part of a meaning
abbrev pub language_of : SingleMeaning → LanguageId
language_of m = one_variant m.language m.script m.region m.variant

-- ---- in a mode

-- the pieces are read as m: only mode Locale reads a keyword, and mode Partial leaves what follows the language part
abbrev pub MeansSingleInMode : ParserMode → List Text → SingleMeaning → Type 0
MeansSingleInMode LanguageIdentifier ps m = MeansOneVariant ps (language_of m) × (m.keyword ≡ None)
MeansSingleInMode Locale ps m = MeansSingle ps m
MeansSingleInMode Partial ps m = ((rest : List Text) × ReadsFront MeansOneVariant ps (language_of m) rest) × (m.keyword ≡ None)

-- the pieces are read as these four parts, and as a keyword or none
abbrev pub MeansPartsInMode : ParserMode → List Text → Text × Option Text × Option Text × Option Text → Type 0
MeansPartsInMode mode ps parts = (keyword : Option (Text × Option Text)) × MeansSingleInMode mode ps (with_keyword parts keyword)

-- a front of the pieces is read as `id`, and `whole` tells whether it is all of them
abbrev pub ReadsFrontOrAll : List Text → LanguageId → Bool → Type 0
ReadsFrontOrAll ps id whole = (rest : List Text) × ReadsFront MeansOneVariant ps id rest × (whole ≡ has_none rest)

-- the pieces have this fault
abbrev pub HasSingleFaultInMode : ParserMode → List Text → ParseError → Type 0
HasSingleFaultInMode LanguageIdentifier ps e = HasFault MeansOneVariant ps e
HasSingleFaultInMode Locale ps e = HasSingleFault ps e
HasSingleFaultInMode Partial ps e = HasFault MeansOneVariant ps e × (e ≡ InvalidLanguage)
