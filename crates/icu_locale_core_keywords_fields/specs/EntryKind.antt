-- What makes a kind of entries: its keys are in lower case, and none is a piece of a value.
-- UTS 35, sections 3.6 and 3.7; docs/tags.md, "Subtags".
-- Cited by the trait `EntryKind`, whose law it is.
use Rattle.std.proofs.Common.{◌≡◌, Bool, true, false, refl}
use Rattle.icu_locale_core_grammar.specs.Subtags.{Text, is_key, is_field_key, is_value, lower}
use Rattle.icu_locale_core_grammar.proofs.SubtagLemmas.{key_no_value, field_key_no_value}

pub record IsEntryKind (test : Text → Bool) (normal : Text → Text) : Type 0 where
  pub lowers : (t : Text) → normal t ≡ lower t
  pub no_value : (t : Text) → test t ≡ true → is_value t ≡ false

pub keyword_kind : IsEntryKind is_key lower
keyword_kind = record { lowers = λ t. refl; no_value = key_no_value }

pub field_kind : IsEntryKind is_field_key lower
field_kind = record { lowers = λ t. refl; no_value = field_key_no_value }
