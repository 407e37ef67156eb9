-- A tag with nothing but at most one variant and one keyword of at most one piece: its size is known before it is read.
-- Defined in docs/tags.md, "One variant and one keyword".
-- Cited by the readers that do not allocate.
use Rattle.std.specs.Prelude.{◌≡◌, Bool, true, false, ◌||◌, List, [], ◌∷◌, ◌++◌, Option, None, Some, option_to_list, if◌then◌else◌}
use Rattle.std.specs.List.{list_any}
use Rattle.icu_locale_core_grammar.specs.declared.error.ParseError.{ParseError}
use Rattle.icu_locale_core_grammar.specs.declared.error.ParseError.TheVariants.{InvalidLanguage, InvalidSubtag, InvalidExtension}
use Rattle.icu_locale_core_grammar.specs.Subtags.{Text, is_single, is_singleton, is_value, is_key, is_true, is_unicode, lower}
use Rattle.icu_locale_core_grammar.specs.LanguagePart.{LanguageId, MeansLanguage}
use Rattle.icu_locale_core_grammar.specs.Collections.{Entry}
use Rattle.icu_locale_core_grammar.specs.Meaning.{TagMeaning, no_transform}
use Rattle.icu_locale_core_grammar.specs.FaultyPiece.{first_piece, name_after, StopsAt}
use Rattle.icu_locale_core_grammar.specs.TagPreferences.{least_of}
use Rattle.icu_locale_core_grammar.specs.TagStages.{language_after}

-- ---- meaning

pub record SingleMeaning : Type 0 where
  pub language : Text
  pub script : Option Text
  pub region : Option Text
  pub variant : Option Text
  pub keyword : Option (Text × Option Text)

-- a value of one piece: `true` is left out
abbrev pub piece_meaning : Text → Option Text
piece_meaning v = if is_true v then None else Some (lower v)

-- nothing, or `u` with one key and at most one piece after it
abbrev pub MeansKeyword : List Text → Option (Text × Option Text) → Type 0
MeansKeyword [] keyword = keyword ≡ None
MeansKeyword (u ∷ []) keyword = ⊥
MeansKeyword (u ∷ k ∷ []) keyword = (is_unicode u ≡ true) × (is_key k ≡ true) × (keyword ≡ Some (lower k, None))
MeansKeyword (u ∷ k ∷ v ∷ []) keyword = (is_unicode u ≡ true) × (is_key k ≡ true) × (is_value v ≡ true) × (keyword ≡ Some (lower k, piece_meaning v))
MeansKeyword (u ∷ k ∷ v ∷ w ∷ rest) keyword = ⊥

pub record MeansSingle (ps : List Text) (m : SingleMeaning) : Type 0 where
  pub front : List Text
  pub last : List Text
  pub parts : front ++ last ≡ ps
  pub language : MeansLanguage front (record { language = m.language; script = m.script; region = m.region; variants = option_to_list m.variant })
  pub keyword : MeansKeyword last m.keyword

-- the meaning as that of a tag
abbrev pub keyword_entries : Option (Text × Option Text) → List Entry
keyword_entries None = []
keyword_entries (Some k) = (k.0, option_to_list k.1) ∷ []

abbrev pub single_tag : SingleMeaning → TagMeaning
single_tag m = record {
  language = record { language = m.language; script = m.script; region = m.region; variants = option_to_list m.variant };
  extensions = record { unicode = record { head = []; entries = keyword_entries m.keyword }; transform = no_transform; others = [] };
  private_use = [];
}

-- ---- faults

-- the piece at the place would begin an extension
abbrev pub begins_extension : Option Text → Bool
begins_extension None = false
begins_extension (Some p) = is_singleton p

-- the name of the fault: within `u`, or at the singleton of another extension, it is one of the extension
abbrev pub single_name : List Text → Option Text → ParseError
single_name front place = name_after front (list_any is_single front || begins_extension place)

-- the list has no such meaning, and its fault is e
pub record HasSingleFault (ps : List Text) (e : ParseError) : Type 0 where
  pub front : List Text
  pub rest : List Text
  pub stops : StopsAt MeansSingle ps front rest
  pub named : single_name front (first_piece rest) ≡ e

-- ---- stages

pub data SingleStage : Type 0 where
  InLanguage : Option LanguageId → SingleStage
  AfterUnicode : LanguageId → SingleStage
  AfterKey : LanguageId → Text → SingleStage
  AfterValue : LanguageId → Text → Option Text → SingleStage

-- no second variant
abbrev pub has_short : List Text → Bool
has_short [] = true
has_short (t ∷ []) = true
has_short (t ∷ u ∷ ts) = false

abbrev pub kept_short : Option LanguageId → Option SingleStage
kept_short None = None
kept_short (Some id) = if has_short id.variants then Some (InLanguage (Some id)) else None

abbrev pub after_language : Option LanguageId → Option (Option LanguageId) → Text → Option SingleStage
after_language l (Some id) p = kept_short id
after_language (Some id) None p = if is_unicode p then Some (AfterUnicode id) else None
after_language None None p = None

unfoldable pub single_after : SingleStage → Text → Option SingleStage
single_after (InLanguage l) p = after_language l (language_after l p) p
single_after (AfterUnicode id) p = if is_key p then Some (AfterKey id (lower p)) else None
single_after (AfterKey id k) p = if is_value p then Some (AfterValue id k (piece_meaning p)) else None
single_after (AfterValue id k v) p = None

abbrev pub single_of : LanguageId → Option (Text × Option Text) → SingleMeaning
single_of id keyword = record { language = id.language; script = id.script; region = id.region; variant = least_of id.variants; keyword = keyword }

abbrev pub single_ends : SingleStage → Option SingleMeaning
single_ends (InLanguage None) = None
single_ends (InLanguage (Some id)) = Some (single_of id None)
single_ends (AfterUnicode id) = None
single_ends (AfterKey id k) = Some (single_of id (Some (k, None)))
single_ends (AfterValue id k v) = Some (single_of id (Some (k, v)))

abbrev pub single_fault : SingleStage → Option Text → ParseError
single_fault (InLanguage None) place = InvalidLanguage
single_fault (InLanguage (Some id)) place = if begins_extension place then InvalidExtension else InvalidSubtag
single_fault (AfterUnicode id) place = InvalidExtension
single_fault (AfterKey id k) place = InvalidExtension
single_fault (AfterValue id k v) place = InvalidExtension
