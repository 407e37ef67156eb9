-- The words that are found for a number: a name in its pattern, a unit's, and those of `A-per-B`.
-- UTS 35, part 2 (general), compound units, and part 3 (numbers), currencies; docs/words.md, "Tables of words".
-- Cited by the calls of `ByCategory`, `UnitWords` and `Words` that make words.
use Rattle.std.specs.Prelude.{ℕ, List, [], ◌∷◌, ◌++◌, Option, None, Some, option_and_then, option_map, unwrap_or}
use Rattle.std.specs.Option.{option_map_or, option_or}
use Rattle.icu_locale_core.specs.TagPreferences.{DataLocaleMeaning}
use Rattle.icu_decimal.specs.Identifiers.{of_both}
use Rattle.icu_dimension_words.specs.Words.{Pair, Word, Words, around, bare}
use Rattle.locale_numbers_tables.specs.Keys.{same_data_locale, same_key, table_at}
use Rattle.locale_numbers_words.specs.Categories.{Values, only}
use Rattle.locale_numbers_words.specs.Cuts.{cut_at}
use Rattle.locale_numbers_words.specs.Entries.{UnitTexts, placeholder, unit_at, width_text}
use Rattle.locale_numbers_words.specs.SlotTexts.{pair_of}
use Rattle.locale_numbers_words.specs.UnitNames.{per_parts}
use Rattle.locale_numbers_words.specs.Words.{WordsTables}
use Rattle.locale_numbers_words.specs.declared.width.UnitWidth.{UnitWidth}

-- ---- values as words

-- the pair of a category that is not named after a number: no entry has a bare text there
abbrev pub as_pair : Word → Pair
as_pair (around pair) = pair
as_pair (bare text) = pair_of text []

abbrev pub words_of : Values Word → Words
words_of v = record {
  zero = v.zero;
  one = v.one;
  two = v.two;
  few = option_map as_pair v.few;
  many = option_map as_pair v.many;
  other = as_pair v.other;
}

-- ---- currencies

-- a text with the name in the place of `¤`, where that is in it
abbrev pub with_name : List ℕ → List ℕ → List ℕ
with_name name text = option_map_or (λ parts. parts.0 ++ (name ++ parts.1)) (cut_at placeholder text) text

abbrev pub pair_named : Pair → List ℕ → Pair
pair_named pattern name = pair_of (with_name name pattern.before) (with_name name pattern.after)

-- of a category that has a pattern or a name of its own: its pattern with its name, or those of `other`
abbrev pub slot_named : Option Pair → Option (List ℕ) → Pair → List ℕ → Option Word
slot_named None None pattern name = None
slot_named (Some own) None pattern name = Some (around (pair_named own name))
slot_named None (Some own) pattern name = Some (around (pair_named pattern own))
slot_named (Some own) (Some own_name) pattern name = Some (around (pair_named own own_name))

abbrev pub named : Values Pair → Values (List ℕ) → Values Word
named p n = record {
  zero = slot_named p.zero n.zero p.other n.other;
  one = slot_named p.one n.one p.other n.other;
  two = slot_named p.two n.two p.other n.other;
  few = slot_named p.few n.few p.other n.other;
  many = slot_named p.many n.many p.other n.other;
  other = around (pair_named p.other n.other);
}

-- ---- units

-- words between the texts of a pair
abbrev pub word_between : Pair → Word → Word
word_between outer (around pair) = around (pair_of (outer.before ++ pair.before) (pair.after ++ outer.after))
word_between outer (bare text) = bare (outer.before ++ (text ++ outer.after))

abbrev pub between_all : Pair → Values Word → Values Word
between_all outer v = record {
  zero = option_map (word_between outer) v.zero;
  one = option_map (word_between outer) v.one;
  two = option_map (word_between outer) v.two;
  few = option_map (word_between outer) v.few;
  many = option_map (word_between outer) v.many;
  other = word_between outer v.other;
}

-- those of a unit behind which another is: between the pair that the other has there
abbrev pub words_per : UnitTexts → UnitTexts → Option Words
words_per unit other = option_map (λ behind. words_of (between_all behind unit.words)) other.behind

-- ---- by locales

-- what is found for the first locale that has it
abbrev pub first_found : {V : Type 0} → (DataLocaleMeaning → Option V) → List DataLocaleMeaning → Option V
first_found find [] = None
first_found find (locale ∷ locales) = option_or (find locale) (first_found find locales)

abbrev pub patterns_for : WordsTables → List DataLocaleMeaning → Option (Values Pair)
patterns_for t locales = first_found (λ locale. table_at same_data_locale locale t.patterns) locales

abbrev pub names_for : WordsTables → List ℕ → List DataLocaleMeaning → Option (Values (List ℕ))
names_for t code locales = first_found (λ locale. table_at same_key (of_both code locale) t.names) locales

-- the name, or the code where there is none, in the name pattern
abbrev pub currency_words : WordsTables → List ℕ → List DataLocaleMeaning → Option Words
currency_words t code locales =
    option_map (λ patterns. words_of (named patterns (unwrap_or (names_for t code locales) (only code)))) (patterns_for t locales)

-- a table without the unit counts as none
abbrev pub unit_for : WordsTables → UnitWidth → List ℕ → List DataLocaleMeaning → Option UnitTexts
unit_for t width unit locales = first_found
    (λ locale. option_and_then (unit_at unit) (table_at same_key (of_both (width_text width) locale) t.units)) locales

-- `A-per-B`, of the words of A and of B
abbrev pub parts_words : WordsTables → UnitWidth → List ℕ × List ℕ → List DataLocaleMeaning → Option Words
parts_words t width parts locales =
    option_and_then (λ unit. option_and_then (words_per unit) (unit_for t width parts.1 locales)) (unit_for t width parts.0 locales)

-- the words of a unit that is found, else those of the two units of its name
abbrev pub unit_words : WordsTables → UnitWidth → List ℕ → List DataLocaleMeaning → Option Words
unit_words t width unit locales =
    option_or (option_map (λ found. words_of found.words) (unit_for t width unit locales))
    (option_and_then (λ parts. parts_words t width parts locales) (per_parts unit))
