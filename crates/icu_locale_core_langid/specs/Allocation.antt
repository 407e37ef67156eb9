-- Where the reading of pieces may allocate: one walk along them; in a language identifier, variants alone have no size known before.
-- Defined in docs/tags.md, "Stages" and "Language identifiers as values".
-- Cited by the readers of language identifiers, and by those of extensions and whole tags.
use Rattle.std.specs.Prelude.{Bool, false, ◌||◌, List, [], ◌∷◌, Option, None, Some}
use Rattle.icu_locale_core_grammar.specs.Subtags.{Text}
use Rattle.icu_locale_core_grammar.specs.LanguagePart.{LanguageId}
use Rattle.icu_locale_core_grammar.specs.TagStages.{fits_variant, language_after}

-- a step along the pieces may allocate, up to the first piece at fault, or where there is none the end may
abbrev pub grows_along : {S : Type 0} → (S → Text → Option S) → (S → Text → Bool) → (S → Bool) → Option S → List Text → Bool
grows_along after grows ends None ps = false
grows_along after grows ends (Some s) [] = ends s
grows_along after grows ends (Some s) (p ∷ ps) = grows s p || grows_along after grows ends (after s p) ps

-- the piece is one more variant
abbrev pub grows_at : Option LanguageId → Text → Bool
grows_at None p = false
grows_at (Some id) p = fits_variant id p

-- after this stage of a language part a variant is taken
abbrev pub grows_from : Option LanguageId → List Text → Bool
grows_from l ps = grows_along language_after grows_at (λ m. false) (Some l) ps

abbrev pub may_grow : List Text → Bool
may_grow ps = grows_from None ps
