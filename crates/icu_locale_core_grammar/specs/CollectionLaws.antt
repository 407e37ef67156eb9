-- What holds of sets and maps, in words that know nothing of how they are put together.
-- Defined in docs/tags.md, "Laws".
-- Cited by the function of the module of laws.
use Rattle.std.specs.Prelude.{◌≡◌, List, ◌↔◌}
use Rattle.icu_locale_core_grammar.specs.Subtags.{Text}
use Rattle.icu_locale_core_grammar.specs.Collections.{Entry, contains_text, Rises, set_of, keys_of, map_of, value_at}

-- a set has the texts that were given, and no other
abbrev pub SetsContain : Type 0
SetsContain = (q : Text) (ts : List Text) → contains_text q (set_of ts) ≡ contains_text q ts

-- it is listed in byte order, and no text occurs twice
abbrev pub SetsRise : Type 0
SetsRise = (ts : List Text) → Rises (set_of ts)

-- a list that rises is its own set
abbrev pub RisingIsItsSet : Type 0
RisingIsItsSet = (ts : List Text) → Rises ts ↔ (set_of ts ≡ ts)

-- a map has, at each key, the value of the first entry with it
abbrev pub MapsKeepTheFirst : Type 0
MapsKeepTheFirst = (key : Text) (es : List Entry) → value_at key (map_of es) ≡ value_at key es

abbrev pub MapsRise : Type 0
MapsRise = (es : List Entry) → Rises (keys_of (map_of es))

-- entries whose keys rise are their own map
abbrev pub RisingIsItsMap : Type 0
RisingIsItsMap = (es : List Entry) → Rises (keys_of es) ↔ (map_of es ≡ es)
