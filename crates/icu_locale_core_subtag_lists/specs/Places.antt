-- The place of a text in a set, or the place where it belongs.
-- Defined in docs/tags.md, "Sets and maps".
-- Cited by the search of a `SubtagSet`.
use Rattle.std.specs.Prelude.{◌≡◌, ℕ, ◌<◌, ◌≤◌, true, false, List, length}
use Rattle.std.specs.List.{insert, remove}
use Rattle.icu_locale_core_grammar.specs.Subtags.{Text}
use Rattle.icu_locale_core_grammar.specs.Collections.{contains_text, insert_text}
use Rattle.icu_locale_core_subtag_lists.specs.SubtagSets.{remove_text}

-- the text is at i
pub record StandsAt (t : Text) (us : List Text) (i : ℕ) : Type 0 where
  pub within : i < length us
  pub there : contains_text t us ≡ true
  pub kept : insert_text t us ≡ us
  pub rest : remove us i ≡ remove_text t us

-- the text is not there, and belongs at i
pub record BelongsAt (t : Text) (us : List Text) (i : ℕ) : Type 0 where
  pub within : i ≤ length us
  pub missing : contains_text t us ≡ false
  pub more : insert us i t ≡ insert_text t us
  pub same : remove_text t us ≡ us
