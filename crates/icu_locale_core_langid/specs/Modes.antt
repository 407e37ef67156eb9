-- What a reader of language identifiers takes in each mode, and its errors.
-- Defined in docs/tags.md, "Modes".
-- Cited by `parse_language_identifier` and `parse_language_identifier_from_iter`.
use Rattle.std.specs.Prelude.{◌≡◌, Bool, true, false, List, [], ◌∷◌}
use Rattle.icu_locale_core_grammar.specs.declared.error.ParseError.{ParseError}
use Rattle.icu_locale_core_grammar.specs.declared.error.ParseError.TheVariants.{InvalidLanguage}
use Rattle.icu_locale_core_grammar.specs.Subtags.{Text, is_single}
use Rattle.icu_locale_core_grammar.specs.LanguagePart.{LanguageId, MeansLanguage}
use Rattle.icu_locale_core_grammar.specs.FaultyPiece.{HasFault}
use Rattle.icu_locale_core_grammar.specs.PartialReading.{ReadsFront, before_single, from_single}
use Rattle.icu_locale_core_langid.specs.declared.modes.ParserMode.{ParserMode}
use Rattle.icu_locale_core_langid.specs.declared.modes.ParserMode.TheVariants.{LanguageIdentifier, Locale, Partial}

-- in this mode the pieces are read as `id`, and `rest` is left
abbrev pub ReadsInMode : ParserMode → List Text → LanguageId → List Text → Type 0
ReadsInMode LanguageIdentifier ps id rest = MeansLanguage ps id × (rest ≡ [])
ReadsInMode Locale ps id rest = MeansLanguage (before_single ps) id × (rest ≡ from_single ps)
ReadsInMode Partial ps id rest = ReadsFront MeansLanguage ps id rest

-- in this mode the pieces have this fault
abbrev pub HasFaultInMode : ParserMode → List Text → ParseError → Type 0
HasFaultInMode LanguageIdentifier ps e = HasFault MeansLanguage ps e
HasFaultInMode Locale ps e = HasFault MeansLanguage (before_single ps) e
HasFaultInMode Partial ps e = HasFault MeansLanguage ps e × (e ≡ InvalidLanguage)

-- the mode may leave these pieces after a language identifier
abbrev pub may_leave : ParserMode → List Text → Bool
may_leave mode [] = true
may_leave LanguageIdentifier (p ∷ rest) = false
may_leave Locale (p ∷ rest) = is_single p
may_leave Partial (p ∷ rest) = true
