-- What holds of reading at most one variant and one keyword in each mode: one meaning or one fault, and never both.
-- Defined in docs/tags.md, "One variant and one keyword" and "Modes".
-- Cited by the functions of the module of laws.
use Rattle.std.specs.Prelude.{◌≡◌, List, None, ◌⊎◌}
use Rattle.icu_locale_core_grammar.specs.declared.error.ParseError.{ParseError}
use Rattle.icu_locale_core_grammar.specs.Subtags.{Text}
use Rattle.icu_locale_core_grammar.specs.SingleVariant.{SingleMeaning}
use Rattle.icu_locale_core_langid.specs.declared.modes.ParserMode.{ParserMode}
use Rattle.icu_locale_core_langid.specs.declared.modes.ParserMode.TheVariants.{LanguageIdentifier, Locale}
use Rattle.icu_locale_core_langid.specs.SingleModes.{MeansSingleInMode, HasSingleFaultInMode}

-- each list of pieces has a meaning or a fault
abbrev pub HasMeaningOrFault : Type 0
HasMeaningOrFault = (mode : ParserMode) (ps : List Text) → ((m : SingleMeaning) × MeansSingleInMode mode ps m) ⊎ ((e : ParseError) × HasSingleFaultInMode mode ps e)

-- one meaning at most
abbrev pub HasOneMeaning : Type 0
HasOneMeaning = (mode : ParserMode) (ps : List Text) (m n : SingleMeaning) → MeansSingleInMode mode ps m → MeansSingleInMode mode ps n → m ≡ n

-- one fault at most
abbrev pub HasOneFault : Type 0
HasOneFault = (mode : ParserMode) (ps : List Text) (e f : ParseError) → HasSingleFaultInMode mode ps e → HasSingleFaultInMode mode ps f → e ≡ f

-- never a meaning and a fault
abbrev pub HasNeverBoth : Type 0
HasNeverBoth = (mode : ParserMode) (ps : List Text) (m : SingleMeaning) (e : ParseError) → MeansSingleInMode mode ps m → HasSingleFaultInMode mode ps e → ⊥

-- what mode LanguageIdentifier reads, each mode reads the same
abbrev pub ModesAgree : Type 0
ModesAgree = (mode : ParserMode) (ps : List Text) (m : SingleMeaning) → MeansSingleInMode LanguageIdentifier ps m → MeansSingleInMode mode ps m

-- and what mode Locale reads without a keyword, mode LanguageIdentifier reads the same
abbrev pub KeywordlessAgree : Type 0
KeywordlessAgree = (ps : List Text) (m : SingleMeaning) → MeansSingleInMode Locale ps m → m.keyword ≡ None → MeansSingleInMode LanguageIdentifier ps m
