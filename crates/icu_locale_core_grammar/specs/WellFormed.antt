-- A meaning in normal form: parts of their class in normal case, sets and maps in order, no list empty that may not be.
-- UTS 35, section 3.2.1, "Canonical Unicode Locale Identifiers"; docs/tags.md, "Well-formed".
-- Cited by the law that these are the meanings which their normal text gives back, and by the test of it.
use Rattle.std.specs.Prelude.{◌≡◌, ◌≢◌, Bool, true, false, List, [], IfSome}
use Rattle.std.specs.List.{AllByRecursion}
use Rattle.icu_locale_core_grammar.specs.Subtags.{Text, is_language, is_script, is_region, is_variant, is_attribute, is_key, is_field_key, is_value, is_true, is_other, is_other_piece, is_private_piece, lower, title, upper}
use Rattle.icu_locale_core_grammar.specs.Collections.{Entry, Rises, keys_of}
use Rattle.icu_locale_core_grammar.specs.LanguagePart.{LanguageId}
use Rattle.icu_locale_core_grammar.specs.Meaning.{UnicodeMeaning, TransformMeaning, ExtensionMeanings, TagMeaning}

-- of the class, and in the case that `normal` gives
pub record IsNormalPiece (test : Text → Bool) (normal : Text → Text) (p : Text) : Type 0 where
  pub is : test p ≡ true
  pub same : normal p ≡ p

-- pieces in lower case
abbrev pub AreLower : (Text → Bool) → List Text → Type 0
AreLower test ps = AllByRecursion (IsNormalPiece test lower) ps

pub record IsNormalLanguage (id : LanguageId) : Type 0 where
  pub language : IsNormalPiece is_language lower id.language
  pub script : IfSome id.script (IsNormalPiece is_script title)
  pub region : IfSome id.region (IsNormalPiece is_region upper)
  pub variants : AreLower is_variant id.variants
  pub rises : Rises id.variants

-- a piece of a value: `true` is left out
pub record IsNormalValue (v : Text) : Type 0 where
  pub piece : IsNormalPiece is_value lower v
  pub shown : is_true v ≡ false

pub record IsNormalEntry (test : Text → Bool) (e : Entry) : Type 0 where
  pub key : IsNormalPiece test lower e.0
  pub values : AllByRecursion IsNormalValue e.1

pub record AreNormalEntries (test : Text → Bool) (es : List Entry) : Type 0 where
  pub each : AllByRecursion (IsNormalEntry test) es
  pub rises : Rises (keys_of es)

pub record IsNormalUnicode (u : UnicodeMeaning) : Type 0 where
  pub attributes : AreLower is_attribute u.head
  pub rises : Rises u.head
  pub keywords : AreNormalEntries is_key u.entries

pub record IsNormalTransform (t : TransformMeaning) : Type 0 where
  pub language : IfSome t.head IsNormalLanguage
  pub fields : AreNormalEntries is_field_key t.entries

pub record IsNormalOther (o : Entry) : Type 0 where
  pub singleton : IsNormalPiece is_other lower o.0
  pub pieces : AreLower is_other_piece o.1
  pub filled : o.1 ≢ []

pub record AreNormalOthers (os : List Entry) : Type 0 where
  pub each : AllByRecursion IsNormalOther os
  pub rises : Rises (keys_of os)

pub record AreNormalExtensions (e : ExtensionMeanings) : Type 0 where
  pub unicode : IsNormalUnicode e.unicode
  pub transform : IsNormalTransform e.transform
  pub others : AreNormalOthers e.others

pub record IsNormalTag (m : TagMeaning) : Type 0 where
  pub language : IsNormalLanguage m.language
  pub extensions : AreNormalExtensions m.extensions
  pub private_use : AreLower is_private_piece m.private_use
