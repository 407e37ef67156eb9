-- What the readers of a part of a tag accept: an extension with its singleton, keywords, fields, attributes, a value.
-- UTS 35, sections 3.6 and 3.7; docs/tags.md, "Parts read alone".
-- Cited by the readers of these parts, and by the laws on them.
use Rattle.std.specs.Prelude.{◌≡◌, ◌≢◌, Bool, true, List, [], ◌∷◌, ◌++◌, Option, None, Some, map, flat_map, if◌then◌else◌}
use Rattle.std.specs.List.{AllByRecursion}
use Rattle.icu_locale_core_grammar.specs.Subtags.{Text, is_value, is_true, is_key, is_field_key, is_private_piece, is_unicode, is_transform, is_private, is_other, lower}
use Rattle.icu_locale_core_grammar.specs.Pieces.{pieces}
use Rattle.icu_locale_core_grammar.specs.Collections.{Entry, Each, map_of}
use Rattle.icu_locale_core_grammar.specs.Extensions.{spelled_entry, value_meaning, entry_meaning, IsEntry, Headed}
use Rattle.icu_locale_core_grammar.specs.Meaning.{MeansAttributes, keyword_needs_value, field_needs_value, UnicodeMeaning, MeansUnicode, TransformMeaning, MeansTransform, MeansOther}
use Rattle.icu_locale_core_grammar.specs.Stepping.{HeadedStage, headed_after, headed_ends}

-- ---- extensions, with their singleton

-- a singleton, and at least one piece after it
pub record IsExtension {M : Type 0} (opening : Text → Bool) (Means : List Text → M → Type 0) (ps : List Text) (m : M) : Type 0 where
  pub singleton : Text
  pub body : List Text
  pub parts : singleton ∷ body ≡ ps
  pub is : opening singleton ≡ true
  pub filled : body ≢ []
  pub meant : Means body m

-- the pieces of the private part, which mean themselves in lower case
pub record MeansOwn (ps : List Text) (subtags : List Text) : Type 0 where
  pub each : Each is_private_piece ps
  pub meant : map lower ps ≡ subtags

abbrev pub ReadsUnicode : Text → UnicodeMeaning → Type 0
ReadsUnicode text u = IsExtension is_unicode MeansUnicode (pieces text) u

abbrev pub ReadsTransform : Text → TransformMeaning → Type 0
ReadsTransform text t = IsExtension is_transform MeansTransform (pieces text) t

abbrev pub ReadsPrivate : Text → List Text → Type 0
ReadsPrivate text subtags = IsExtension is_private MeansOwn (pieces text) subtags

-- any other extension: its singleton in lower case, and its pieces
pub record ReadsOther (text : Text) (o : Entry) : Type 0 where
  pub extension : IsExtension is_other MeansOther (pieces text) o.1
  pub singleton : lower extension.singleton ≡ o.0

-- ---- lists and maps, without a singleton

-- the pieces of a list: the empty text has none
abbrev pub listed : Text → List Text
listed [] = []
listed (b ∷ bs) = pieces (b ∷ bs)

-- these pieces are entries, and `es` is the map of them
pub record MeansEntries (test : Text → Bool) (needs : Bool) (ps : List Text) (es : List Entry) : Type 0 where
  pub entries : List Entry
  pub parts : flat_map spelled_entry entries ≡ ps
  pub each : AllByRecursion (IsEntry test needs) entries
  pub keyed : map_of (map entry_meaning entries) ≡ es

abbrev pub MeansKeywords : List Text → List Entry → Type 0
MeansKeywords ps es = MeansEntries is_key keyword_needs_value ps es

abbrev pub MeansFields : List Text → List Entry → Type 0
MeansFields ps es = MeansEntries is_field_key field_needs_value ps es

-- these pieces are a value, and `vs` is what it means
pub record MeansValue (ps : List Text) (vs : List Text) : Type 0 where
  pub each : Each is_value ps
  pub meant : value_meaning ps ≡ vs

abbrev pub ReadsKeywords : Text → List Entry → Type 0
ReadsKeywords text es = MeansKeywords (listed text) es

abbrev pub ReadsFields : Text → List Entry → Type 0
ReadsFields text es = MeansFields (listed text) es

abbrev pub ReadsAttributes : Text → List Text → Type 0
ReadsAttributes text set = MeansAttributes (listed text) set

abbrev pub ReadsValue : Text → List Text → Type 0
ReadsValue text vs = MeansValue (listed text) vs

-- ---- their stages

-- a head that takes no piece
abbrev pub nothing_after : Unit {0} → Text → Option (Unit {0})
nothing_after s p = None

abbrev pub nothing_ends : Unit {0} → Option (Unit {0})
nothing_ends s = Some s

abbrev pub EntriesStage : Type 0
EntriesStage = HeadedStage (Unit {0}) (Unit {0})

abbrev pub entries_after : (Text → Bool) → Bool → EntriesStage → Text → Option EntriesStage
entries_after test needs s p = headed_after nothing_after nothing_ends test needs s p

abbrev pub entries_of : Option (Headed (Unit {0})) → Option (List Entry)
entries_of None = None
entries_of (Some h) = Some h.entries

abbrev pub entries_end : EntriesStage → Option (List Entry)
entries_end s = entries_of (headed_ends nothing_ends s)

abbrev pub value_after : List Text → Text → Option (List Text)
value_after vs p = if is_value p then Some (if is_true p then vs else vs ++ lower p ∷ []) else None

abbrev pub own_after : List Text → Text → Option (List Text)
own_after own p = if is_private_piece p then Some (own ++ lower p ∷ []) else None
