-- Equality of values and of maps: that of their lists, an entry by its key and its value. Their order is the grammar's.
-- Defined in docs/tags.md, "Keywords and fields as values".
-- Cited by the comparisons of values and of maps.
use Rattle.std.specs.Prelude.{Bool, ◌&&◌, List}
use Rattle.std.specs.Cmp.Lexicographic.{pointwise}
use Rattle.icu_locale_core_grammar.specs.Subtags.{Text, same_text}
use Rattle.icu_locale_core_grammar.specs.Collections.{Entry}

abbrev pub same_value : List Text → List Text → Bool
same_value v w = pointwise same_text v w

abbrev pub same_entry : Entry → Entry → Bool
same_entry e f = same_text e.0 f.0 && same_value e.1 f.1

abbrev pub same_entries : List Entry → List Entry → Bool
same_entries es fs = pointwise same_entry es fs
