-- What changes a map of entries: a value set at a key, a key taken away, another map put over it.
-- Defined in docs/tags.md, "Keywords and fields as values".
-- Cited by the calls that change a map, and by the laws on them.
use Rattle.std.specs.Prelude.{◌≡◌, Bool, true, not, List, [], ◌∷◌, ◌++◌, filter, is_some}
use Rattle.std.specs.List.{AllByRecursion}
use Rattle.std.specs.Ordering.{match_ordering}
use Rattle.icu_locale_core_grammar.specs.Subtags.{Text, same_text}
use Rattle.icu_locale_core_grammar.specs.Collections.{Entry, text_cmp, map_of, value_at}

-- the map with this value at the key, in place of the value that was there
abbrev pub set_entry : Entry → List Entry → List Entry
set_entry e [] = e ∷ []
set_entry e (f ∷ fs) = match_ordering (text_cmp e.0 f.0) (e ∷ f ∷ fs) (e ∷ fs) (f ∷ set_entry e fs)

abbrev pub set_in_turn : List Entry → Entry → List Entry
set_in_turn es e = set_entry e es

-- the map without the key
abbrev pub without_key : Text → List Entry → List Entry
without_key key es = filter (λ e. not (same_text key e.0)) es

-- both maps as one: of equal keys the one of `winners` is kept
abbrev pub joined_maps : List Entry → List Entry → List Entry
joined_maps winners es = map_of (winners ++ es)

-- the map does not have the entry's key
abbrev pub is_new : List Entry → Entry → Bool
is_new es e = not (is_some (value_at e.0 es))

-- the first map has each key of the second
abbrev pub HasKeysOf : List Entry → List Entry → Type 0
HasKeysOf es others = AllByRecursion (λ e. is_some (value_at e.0 es) ≡ true) others
