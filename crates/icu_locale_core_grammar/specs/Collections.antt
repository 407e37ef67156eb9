-- Sets of texts, and maps from texts to lists of texts, listed in byte order of the texts and of the keys.
-- UTS 35, section 3.2.1, "Canonical Unicode Locale Identifiers"; docs/tags.md, "Sets and maps".
-- Cited by the meaning of a tag, and by every call that changes a set or a map.
use Rattle.std.specs.Prelude.{◌≡◌, Bool, true, List, [], ◌∷◌, Option, None, Some, map, fold, if◌then◌else◌}
use Rattle.std.specs.Cmp.Lexicographic.{slice_cmp}
use Rattle.std.specs.List.{AllByRecursion, list_any, IsDistinct}
use Rattle.std.specs.List.Sorted.{IsStrictlySortedBy}
use Rattle.std.specs.Ordering.{match_ordering, nat_cmp}
use Rattle.std.specs.declared.cmp.Ordering.{Ordering}
use Rattle.icu_locale_core_grammar.specs.Subtags.{Text, same_text}

-- the byte order of two texts
abbrev pub text_cmp : Text → Text → Ordering
text_cmp a b = slice_cmp nat_cmp a b

-- ---- lists of texts

-- each text passes the test
abbrev pub Each : (Text → Bool) → List Text → Type 0
Each test ts = AllByRecursion (λ t. test t ≡ true) ts

abbrev pub contains_text : Text → List Text → Bool
contains_text t ts = list_any (same_text t) ts

-- no text occurs twice
abbrev pub AreApart : List Text → Type 0
AreApart ts = IsDistinct same_text ts

-- each text is below those after it
abbrev pub Rises : List Text → Type 0
Rises ts = IsStrictlySortedBy text_cmp ts

-- ---- sets

-- the set with one more text, or the same set where it has the text
abbrev pub insert_text : Text → List Text → List Text
insert_text t [] = t ∷ []
insert_text t (u ∷ us) = match_ordering (text_cmp t u) (t ∷ u ∷ us) (u ∷ us) (u ∷ insert_text t us)

-- the texts as a set
abbrev pub set_of : List Text → List Text
set_of ts = fold (λ set t. insert_text t set) [] ts

-- ---- maps

-- a key and its value
abbrev pub Entry : Type 0
Entry = Text × List Text

abbrev pub keys_of : List Entry → List Text
keys_of es = map (λ e. e.0) es

-- the map with one more entry, or the same map where it has the key
abbrev pub put_first : Entry → List Entry → List Entry
put_first e [] = e ∷ []
put_first e (f ∷ fs) = match_ordering (text_cmp e.0 f.0) (e ∷ f ∷ fs) (f ∷ fs) (f ∷ put_first e fs)

-- the entries as a map: of equal keys the first is kept
abbrev pub map_of : List Entry → List Entry
map_of es = fold (λ m e. put_first e m) [] es

-- the value of a key, if the map has the key
abbrev pub value_at : Text → List Entry → Option (List Text)
value_at key [] = None
value_at key (e ∷ es) = if same_text key e.0 then Some e.1 else value_at key es

-- the first of the two that is there
abbrev pub first_there : {A : Type 0} → Option A → Option A → Option A
first_there (Some a) o = Some a
first_there None o = o
