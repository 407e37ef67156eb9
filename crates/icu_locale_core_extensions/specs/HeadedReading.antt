-- A text read as a singleton and the pieces after it, which are taken one step after another, to an end.
-- Defined in docs/tags.md, "Stages" and "Parts read alone".
-- Cited by the reader of a head and entries, for `u` and for `t`.
use Rattle.std.specs.Prelude.{◌≡◌, Bool, List, Option, Some}
use Rattle.icu_locale_core_grammar.specs.Subtags.{Text, spells}
use Rattle.icu_locale_core_grammar.specs.Extensions.{Headed}
use Rattle.icu_locale_core_grammar.specs.PartReaders.{IsExtension}
use Rattle.icu_locale_core_grammar.specs.Stepping.{run, InHead, headed_after, headed_ends}
use Rattle.icu_locale_core_keywords_fields.specs.HeadedView.{ends_anywhere}

-- each piece is taken, and the last stage may end with this meaning
abbrev pub EndsAs : {S M : Type 0} → (S → Text → Option S) → S → (S → Option M) → List Text → M → Type 0
EndsAs {S} step start ends ps m = (s : S) × (run step (Some start) ps ≡ Some s) × (ends s ≡ Some m)

-- the singleton, and a head and entries, from a head that is not begun
abbrev pub ReadsHeaded : {H : Type 0} → Text → (H → Text → Option H) → (Text → Bool) → Bool → H → List Text → Headed H → Type 0
ReadsHeaded singleton step is_key needs begun ps m =
    IsExtension (spells singleton) (EndsAs (headed_after step ends_anywhere is_key needs) (InHead begun) (headed_ends ends_anywhere)) ps m
