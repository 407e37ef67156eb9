-- What a closure leaves of extensions when it is called once with each type, in order: `u`, `t`, `x`, then the others.
-- Defined in docs/tags.md, "Extensions as values".
-- Cited by `retain_by_type`.
use Rattle.std.specs.Prelude.{◌≡◌, ℕ, Bool, List, [], ◌∷◌, length, map, if◌then◌else◌}
use Rattle.std.specs.List.{items_where_true}
use Rattle.std.specs.List.Retain.{ReturnsInTurn}
use Rattle.icu_locale_core_grammar.specs.Subtags.{Text}
use Rattle.icu_locale_core_grammar.specs.Collections.{keys_of}
use Rattle.icu_locale_core_grammar.specs.Meaning.{no_unicode, no_transform}
use Rattle.icu_locale_core_extensions.specs.declared.extension_type.ExtensionType.{ExtensionType}
use Rattle.icu_locale_core_extensions.specs.declared.extension_type.ExtensionType.TheVariants.{Unicode, Transform, Private, Other}
use Rattle.icu_locale_core_extensions.specs.ExtensionsValue.{ExtensionsValue}

-- the byte of a singleton
abbrev pub byte_of : Text → ℕ
byte_of [] = 0
byte_of (b ∷ bs) = b

abbrev pub other_type : Text → ExtensionType
other_type singleton = Other (byte_of singleton)

-- the types that the closure is called with
abbrev pub asked_types : ExtensionsValue → List ExtensionType
asked_types e = Unicode ∷ Transform ∷ Private ∷ map other_type (keys_of e.blocks.others)

-- the extensions at which it returned true
abbrev pub kept_extensions : Bool → Bool → Bool → List Bool → ExtensionsValue → ExtensionsValue
kept_extensions u t x others e = record {
  blocks = record {
    unicode = if u then e.blocks.unicode else no_unicode;
    transform = if t then e.blocks.transform else no_transform;
    others = items_where_true others e.blocks.others;
  };
  own = if x then e.own else [];
}

-- `calls p type b q`: the closure as it is at p may return b at the type, and is then q
pub record IsRetainedByType {F : Type 0} (calls : F → ExtensionType → Bool → F → Type 0) (f : F) (before after : ExtensionsValue) : Type 0 where
  pub at_unicode : Bool
  pub at_transform : Bool
  pub at_private : Bool
  pub at_others : List Bool
  pub last : F
  pub whole : length at_others ≡ length before.blocks.others
  pub asked : ReturnsInTurn calls f (at_unicode ∷ at_transform ∷ at_private ∷ at_others) (asked_types before) last
  pub kept : after ≡ kept_extensions at_unicode at_transform at_private at_others before
