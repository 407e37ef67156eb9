-- A text is the list of its pieces between hyphens: at least one, each of which may be empty.
-- RFC 5646 (BCP 47), section 2.1; docs/tags.md, "Pieces".
-- Cited by every reader and by every printed text.
use Rattle.std.specs.Prelude.{ℕ, Bool, ◌==◌, List, [], ◌∷◌, ◌++◌, flat_map}
use Rattle.std.specs.List.{slice_split}
use Rattle.icu_locale_core_grammar.specs.Subtags.{Text}

-- the code of `-`
abbrev pub hyphen : ℕ
hyphen = 45

abbrev pub is_hyphen : ℕ → Bool
is_hyphen b = b == hyphen

-- what is between the hyphens of a text
abbrev pub pieces : Text → List Text
pieces text = slice_split is_hyphen text

-- a piece after another
abbrev pub hyphened : Text → Text
hyphened p = hyphen ∷ p

-- the pieces as one text
abbrev pub joined_text : List Text → Text
joined_text [] = []
joined_text (p ∷ ps) = p ++ flat_map hyphened ps
