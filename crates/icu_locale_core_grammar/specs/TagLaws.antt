-- What holds of the grammar, the stages and the normal text, over every list of pieces and every meaning.
-- Defined in docs/tags.md, "Laws".
-- Cited by the functions of the module of laws. It uses many modules, since a law on whole tags names grammar, stages and normal text.
use Rattle.std.specs.Prelude.{◌≡◌, ◌↔◌, List, Option, None, Some, ◌⊎◌, map, MatchResult}
use Rattle.icu_locale_core_grammar.specs.declared.error.ParseError.{ParseError}
use Rattle.icu_locale_core_grammar.specs.Subtags.{Text, is_plain, lower}
use Rattle.icu_locale_core_grammar.specs.Pieces.{pieces, joined_text}
use Rattle.icu_locale_core_grammar.specs.Collections.{Each, Rises}
use Rattle.icu_locale_core_grammar.specs.Extensions.{block_key}
use Rattle.icu_locale_core_grammar.specs.Meaning.{ExtensionMeanings, TagMeaning, MeansTag}
use Rattle.icu_locale_core_grammar.specs.FaultyPiece.{IsAccepted, IsNamed, HasFault}
use Rattle.icu_locale_core_grammar.specs.NormalText.{blocks_of, normal, normal_text}
use Rattle.icu_locale_core_grammar.specs.WellFormed.{AreNormalExtensions, IsNormalTag}
use Rattle.icu_locale_core_grammar.specs.Stepping.{run, IsReader}
use Rattle.icu_locale_core_grammar.specs.TagStages.{TagStage, tag_start, tag_after, tag_ends, tag_fault}
use Rattle.icu_locale_core_grammar.specs.KnownRows.{answer_to}

-- ---- reading

abbrev pub TagsAreRead : Type 0
TagsAreRead = IsReader tag_after tag_start tag_ends MeansTag

-- the stage does not go on with the piece at the place, or may not end
abbrev pub IsStuckAt : TagStage → Option Text → Type 0
IsStuckAt s (Some p) = tag_after s p ≡ None
IsStuckAt s None = tag_ends s ≡ None

-- a stage that was reached and is stuck names the fault
abbrev pub StagesNameFaults : Type 0
StagesNameFaults = (taken : List Text) (s : TagStage) (place : Option Text) → run tag_after (Some tag_start) taken ≡ Some s → IsStuckAt s place → IsNamed MeansTag (tag_fault s place) taken place

-- ---- meanings and faults

abbrev pub HasMeaningOrFault : Type 0
HasMeaningOrFault = (ps : List Text) → IsAccepted MeansTag ps ⊎ ((e : ParseError) × HasFault MeansTag ps e)

abbrev pub HasOneMeaning : Type 0
HasOneMeaning = (ps : List Text) (m n : TagMeaning) → MeansTag ps m → MeansTag ps n → m ≡ n

abbrev pub HasOneFault : Type 0
HasOneFault = (ps : List Text) (e f : ParseError) → HasFault MeansTag ps e → HasFault MeansTag ps f → e ≡ f

abbrev pub HasNeverBoth : Type 0
HasNeverBoth = (ps : List Text) (m : TagMeaning) (e : ParseError) → MeansTag ps m → HasFault MeansTag ps e → ⊥

-- ---- case

-- lists of pieces that are one in lower case mean the same
abbrev pub CaseIsIgnored : Type 0
CaseIsIgnored = (ps qs : List Text) (m : TagMeaning) → map lower ps ≡ map lower qs → MeansTag ps m → MeansTag qs m

-- ---- normal text

-- a meaning that was read is in normal form
abbrev pub MeaningsAreNormal : Type 0
MeaningsAreNormal = (ps : List Text) (m : TagMeaning) → MeansTag ps m → IsNormalTag m

-- the meanings in normal form are those which their normal pieces have
abbrev pub NormalPiecesMean : Type 0
NormalPiecesMean = (m : TagMeaning) → IsNormalTag m ↔ MeansTag (normal m) m

-- the normal text of what was read, cut at its hyphens and read again, has the same meaning
abbrev pub TextReadsBack : Type 0
TextReadsBack = (ps : List Text) (m : TagMeaning) → MeansTag ps m → MeansTag (pieces (normal_text m)) m

-- meanings in normal form differ where their texts do
abbrev pub TextTellsMeanings : Type 0
TextTellsMeanings = (m n : TagMeaning) → IsNormalTag m → IsNormalTag n → normal_text m ≡ normal_text n → m ≡ n

-- the singletons of the printed blocks rise
abbrev pub SingletonsRise : Type 0
SingletonsRise = (e : ExtensionMeanings) → AreNormalExtensions e → Rises (map block_key (blocks_of e))

-- the pieces of a text, joined by hyphens, are the text
abbrev pub PiecesMakeTheText : Type 0
PiecesMakeTheText = (text : Text) → joined_text (pieces text) ≡ text

-- the pieces of a tag are letters and digits
abbrev pub PiecesArePlain : Type 0
PiecesArePlain = (ps : List Text) (m : TagMeaning) → MeansTag ps m → Each is_plain ps

-- ---- rows

-- the text means something in the grammar, and this shows it
abbrev pub IsShown : {M : Type 0} → (List Text → M → Type 0) → (M → Text) → Text → Text → Type 0
IsShown {M} Means show text shown = (m : M) × Means (pieces text) m × (show m ≡ shown)

-- the text is a tag, and this is its normal text
abbrev pub IsPrinted : Text → Text → Type 0
IsPrinted text printed = IsShown MeansTag normal_text text printed

-- the text is no tag, and this is its fault
abbrev pub IsRefused : Text → ParseError → Type 0
IsRefused text e = HasFault MeansTag (pieces text) e

-- the computed result is right
abbrev pub AnswersAreRight : Type 0
AnswersAreRight = (text : Text) → MatchResult (answer_to text) (IsPrinted text) (IsRefused text)
