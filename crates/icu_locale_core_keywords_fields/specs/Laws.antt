-- What holds of changed maps, of written texts and of comparisons, without a word on how they are computed.
-- Defined in docs/tags.md, "Laws".
-- Cited by the functions of the module of laws.
use Rattle.std.specs.Prelude.{◌≡◌, ◌↔◌, Bool, true, List, None, Some, if◌then◌else◌}
use Rattle.std.specs.List.{AllByRecursion}
use Rattle.icu_locale_core_grammar.specs.Subtags.{Text, is_key, is_field_key, same_text}
use Rattle.icu_locale_core_grammar.specs.Collections.{Entry, keys_of, Rises, value_at, first_there}
use Rattle.icu_locale_core_grammar.specs.Meaning.{keyword_needs_value, field_needs_value}
use Rattle.icu_locale_core_grammar.specs.WellFormed.{IsNormalValue, AreNormalEntries}
use Rattle.icu_locale_core_grammar.specs.PartReaders.{ReadsValue, ReadsKeywords, ReadsFields}
use Rattle.icu_locale_core_keywords_fields.specs.EntryChanges.{set_entry, without_key, joined_maps}
use Rattle.icu_locale_core_keywords_fields.specs.EntryText.{value_text, entries_text}
use Rattle.icu_locale_core_keywords_fields.specs.Orders.{same_value, same_entries}

-- the map has the new value at its key, and what it had at every other
pub record SettingSetsOne : Type 0 where
  pub has : (q : Text) (e : Entry) (es : List Entry) → value_at q (set_entry e es) ≡ (if same_text q e.0 then Some e.1 else value_at q es)
  pub rises : (e : Entry) (es : List Entry) → Rises (keys_of es) → Rises (keys_of (set_entry e es))

pub record RemovalTakesOne : Type 0 where
  pub has : (q key : Text) (es : List Entry) → value_at q (without_key key es) ≡ (if same_text q key then None else value_at q es)
  pub rises : (key : Text) (es : List Entry) → Rises (keys_of es) → Rises (keys_of (without_key key es))

-- at each key the value of the first map, or else of the second
pub record JoiningPrefersOne : Type 0 where
  pub has : (q : Text) (winners es : List Entry) → value_at q (joined_maps winners es) ≡ first_there (value_at q winners) (value_at q es)
  pub rises : (winners es : List Entry) → Rises (keys_of (joined_maps winners es))

-- what was read is in normal form, and what is in normal form is read from its text
pub record ValuesReadBack : Type 0 where
  pub normal : (text : Text) (vs : List Text) → ReadsValue text vs → AllByRecursion IsNormalValue vs
  pub back : (needs : Bool) (vs : List Text) → AllByRecursion IsNormalValue vs → ReadsValue (value_text needs vs) vs

pub record KeywordsReadBack : Type 0 where
  pub normal : (text : Text) (es : List Entry) → ReadsKeywords text es → AreNormalEntries is_key es
  pub back : (es : List Entry) → AreNormalEntries is_key es → ReadsKeywords (entries_text keyword_needs_value es) es

pub record FieldsReadBack : Type 0 where
  pub normal : (text : Text) (es : List Entry) → ReadsFields text es → AreNormalEntries is_field_key es
  pub back : (es : List Entry) → AreNormalEntries is_field_key es → ReadsFields (entries_text field_needs_value es) es

-- `==` tells whether two values, or two maps, are one
pub record EqualityTells : Type 0 where
  pub values : (v w : List Text) → (same_value v w ≡ true) ↔ (v ≡ w)
  pub maps : (es fs : List Entry) → (same_entries es fs ≡ true) ↔ (es ≡ fs)
