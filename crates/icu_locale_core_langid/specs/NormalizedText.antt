-- A text brought into its normal text: the text itself where it is normal, else a new one.
-- Defined in docs/tags.md, "Normal text".
-- Cited by every `normalize` and `normalize_utf8`.
use Rattle.std.specs.Prelude.{◌≡◌, ◌≢◌}
use Rattle.std.specs.String.{string_bytes}
use Rattle.std.specs.declared.borrow.CowStr.{CowStr}
use Rattle.std.specs.declared.borrow.CowStr.TheVariants.{Borrowed, Owned}
use Rattle.icu_locale_core_grammar.specs.Subtags.{Text}

-- the normal text of `text` is `normal`, and it is borrowed exactly where the text is normal
abbrev pub IsNormalized : {A : Type 0} → Text → Text → CowStr A → Type 0
IsNormalized text normal (Borrowed s) = (s.now ≡ text) × (text ≡ normal)
IsNormalized text normal (Owned s) = (string_bytes s ≡ normal) × (text ≢ normal)
