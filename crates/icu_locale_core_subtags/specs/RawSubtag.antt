-- The raw form of a subtag: N bytes that are its text in normal case, and then NULs.
-- Defined in docs/tags.md, "Subtags as values".
-- Cited by `try_from_raw`.
use Rattle.std.specs.Prelude.{◌≡◌, ℕ, Bool, true, List}
use Rattle.tinystr.specs.SmallText.{IsForm, text_of}
use Rattle.icu_locale_core_grammar.specs.Subtags.{Text}

-- the bytes are the raw form of a subtag of the rule
pub record IsRawSubtag (capacity : ℕ) (accepts : Text → Bool) (normal : Text → Text) (raw : List ℕ) : Type 0 where
  pub form : IsForm capacity raw
  pub accepted : accepts (text_of raw) ≡ true
  pub normal_case : normal (text_of raw) ≡ text_of raw
