-- The entries of the arrays of words: what one says, under which key, and what is wrong with it.
-- Defined in docs/words.md, "Tables of words".
-- Cited by the reading of each array of words, and by Words.antt.
use Rattle.std.specs.Prelude.{ℕ, Bool, ◌&&◌, ◌||◌, List, [], ◌∷◌, codes, Option, None, Some, is_some, option_and_then, option_map, if◌then◌else◌}
use Rattle.std.specs.HashMap.{entries_eq}
use Rattle.std.specs.Option.{option_eq}
use Rattle.std.specs.Str.{bytes_eq}
use Rattle.serde_json.specs.Data.{Data}
use Rattle.serde_json.specs.Find.{as_array, as_str}
use Rattle.icu_locale_core.specs.Subtags.{Text as Subtag}
use Rattle.icu_locale_core.specs.TagPreferences.{DataLocaleMeaning}
use Rattle.icu_decimal.specs.Identifiers.{Identifier, of_both}
use Rattle.icu_dimension_fractions.specs.CurrencyCodes.{is_currency_code}
use Rattle.icu_dimension_words.specs.Words.{Pair, Word}
use Rattle.locale_numbers_tables.specs.Entries.{all_of, field_at, has_count, is_text_at}
use Rattle.locale_numbers_tables.specs.Fields.{locale_in}
use Rattle.locale_numbers_tables.specs.Keys.{table_at, without_key_twice}
use Rattle.locale_numbers_words.specs.Categories.{Values, holds_of_all, values_in}
use Rattle.locale_numbers_words.specs.Cuts.{has_once, lacks}
use Rattle.locale_numbers_words.specs.Faults.{agrees, first_broken}
use Rattle.locale_numbers_words.specs.PlainTexts.{is_plain}
use Rattle.locale_numbers_words.specs.SameValues.{same_values}
use Rattle.locale_numbers_words.specs.SlotTexts.{name_in, pair_in, same_pair, same_word, word_in}
use Rattle.locale_numbers_words.specs.UnitNames.{is_compound, unit_name_in}
use Rattle.locale_numbers_words.specs.declared.error.WordsError.{WordsError}
use Rattle.locale_numbers_words.specs.declared.error.WordsError.TheVariants.{Shape, Tag, Text, Duplicate, Unit, Code, Measure}
use Rattle.locale_numbers_words.specs.declared.width.UnitWidth.{UnitWidth}
use Rattle.locale_numbers_words.specs.declared.width.UnitWidth.TheVariants.{Short, Narrow, Long}

-- ---- keys

-- place 0: the locale
abbrev pub locale_key : Data → Option DataLocaleMeaning
locale_key entry = field_at locale_in 0 entry

-- the locale, and what the second field is read as
abbrev pub key_with : Option Subtag → Data → Option Identifier
key_with attribute entry = option_and_then (λ locale. option_map (λ read. of_both read locale) attribute) (locale_key entry)

-- of an entry with the right shape: its locale is one, and its texts have no tab and no line feed
abbrev pub tagged_fault : Data → Option WordsError
tagged_fault entry = first_broken ((Tag, is_some (locale_key entry)) ∷ (Text, is_plain entry) ∷ [])

-- ---- name patterns

-- the place of the name, `¤` in UTF-8
abbrev pub placeholder : List ℕ
placeholder = 194 ∷ 164 ∷ []

-- it is there once in the two texts
abbrev pub is_placed : Pair → Bool
is_placed pair =
    has_once placeholder pair.before && lacks placeholder pair.after || lacks placeholder pair.before && has_once placeholder pair.after

abbrev pub pairs_in : Data → Option (Values Pair)
pairs_in entry = field_at (values_in (λ category. pair_in)) 1 entry

abbrev pub placed : Values Pair → Option (Values Pair)
placed pairs = if holds_of_all is_placed pairs then Some pairs else None

abbrev pub patterns_said : Data → Option (Values Pair)
patterns_said entry = option_and_then placed (pairs_in entry)

-- two fields, of which the first is a text
abbrev pub has_patterns_frame : Data → Bool
has_patterns_frame entry = has_count 2 entry && is_text_at 0 entry

abbrev pub same_pairs : Values Pair → Values Pair → Bool
same_pairs = same_values same_pair

abbrev pub patterns_fault : Option (Values Pair) → Data → Option WordsError
patterns_fault earlier entry = first_broken (
    (Shape, has_patterns_frame entry && is_some (pairs_in entry))
    ∷ (Tag, is_some (locale_key entry))
    ∷ (Text, is_plain entry)
    ∷ (Duplicate, agrees same_pairs earlier (patterns_said entry))
    ∷ (Unit, is_some (patterns_said entry))
    ∷ [])

-- ---- names of currencies

abbrev pub code_named : List ℕ → Option (List ℕ)
code_named text = if is_currency_code text then Some text else None

abbrev pub code_in : Data → Option (List ℕ)
code_in field = option_and_then code_named (as_str field)

abbrev pub names_key : Data → Option Identifier
names_key entry = key_with (field_at code_in 1 entry) entry

-- of an entry with the right shape: its locale and its code are ones, and its texts have no tab and no line feed
abbrev pub key_fault : Data → Option WordsError
key_fault entry = first_broken ((Tag, is_some (locale_key entry)) ∷ (Text, is_plain entry) ∷ (Code, is_some (field_at code_in 1 entry)) ∷ [])

abbrev pub names_said : Data → Option (Values (List ℕ))
names_said entry = field_at (values_in name_in) 2 entry

-- three fields, of which the first two are texts
abbrev pub has_names_frame : Data → Bool
has_names_frame entry = has_count 3 entry && is_text_at 0 entry && is_text_at 1 entry

abbrev pub same_names : Values (List ℕ) → Values (List ℕ) → Bool
same_names = same_values bytes_eq

-- an entry without a code has no key, so that no earlier one has it too
abbrev pub names_fault : Option (Values (List ℕ)) → Data → Option WordsError
names_fault earlier entry = first_broken (
    (Shape, has_names_frame entry && is_some (names_said entry))
    ∷ (Tag, is_some (locale_key entry))
    ∷ (Text, is_plain entry)
    ∷ (Code, is_some (field_at code_in 1 entry))
    ∷ (Duplicate, agrees same_names earlier (names_said entry))
    ∷ [])

-- ---- units

-- the words of a unit, and the pair that it has behind another unit, where its name is not `A-per-B`
pub record UnitTexts : Type 0 where
  pub words : Values Word
  pub behind : Option Pair

abbrev pub texts_with : Option Pair → Values Word → UnitTexts
texts_with behind words = record { words = words; behind = behind }

-- of `A-per-B` two fields, the name and slots; of another unit a pair too
abbrev pub unit_texts_in : Bool → Data → Option UnitTexts
unit_texts_in compound unit =
    if compound
    then (if has_count 2 unit then option_map (texts_with None) (field_at (values_in word_in) 1 unit) else None)
    else if has_count 3 unit
    then option_and_then (λ behind. option_map (texts_with (Some behind)) (field_at (values_in word_in) 1 unit)) (field_at pair_in 2 unit)
    else None

-- the name, where it is one, and the texts
abbrev pub unit_in : Data → Option (Option (List ℕ) × UnitTexts)
unit_in unit = option_and_then
    (λ name. option_map {T = UnitTexts} {U = Option (List ℕ) × UnitTexts} (λ texts. (unit_name_in name, texts)) (unit_texts_in (is_compound name) unit))
    (field_at as_str 0 unit)

abbrev pub UnitList : Type 0
UnitList = List (List ℕ × UnitTexts)

abbrev pub units_read : Data → Option (List (Option (List ℕ) × UnitTexts))
units_read entry = field_at (λ field. option_and_then (all_of unit_in) (as_array field)) 2 entry

-- each has a name
abbrev pub all_named : List (Option (List ℕ) × UnitTexts) → Option UnitList
all_named [] = Some []
all_named (unit ∷ units) =
    option_and_then (λ name. option_map {T = UnitList} {U = UnitList} (λ rest. (name, unit.1) ∷ rest) (all_named units)) unit.0

-- and none is there twice
abbrev pub keyed : List (Option (List ℕ) × UnitTexts) → Option UnitList
keyed units = option_and_then (without_key_twice bytes_eq) (all_named units)

abbrev pub units_said : Data → Option UnitList
units_said entry = option_and_then keyed (units_read entry)

-- the texts that units have under the name of one
abbrev pub unit_at : List ℕ → UnitList → Option UnitTexts
unit_at unit units = option_and_then (λ name. table_at bytes_eq name units) (unit_name_in unit)

-- the word of a width
abbrev pub width_text : UnitWidth → List ℕ
width_text Short = codes "short"
width_text Narrow = codes "narrow"
width_text Long = codes "long"

abbrev pub width_named : List ℕ → Option UnitWidth
width_named text =
    if bytes_eq text (codes "short") then Some Short
    else if bytes_eq text (codes "narrow") then Some Narrow
    else if bytes_eq text (codes "long") then Some Long
    else None

abbrev pub width_in : Data → Option UnitWidth
width_in field = option_and_then width_named (as_str field)

abbrev pub units_key : Data → Option Identifier
units_key entry = key_with (option_map width_text (field_at width_in 1 entry)) entry

-- three fields, of which the first is a text, and the second a width
abbrev pub has_units_frame : Data → Bool
has_units_frame entry = has_count 3 entry && is_text_at 0 entry && is_some (field_at width_in 1 entry)

abbrev pub same_unit : UnitTexts → UnitTexts → Bool
same_unit a b = same_values same_word a.words b.words && option_eq same_pair a.behind b.behind

-- at each name of either, both have a unit, and its texts are the same
abbrev pub same_units : UnitList → UnitList → Bool
same_units a b = entries_eq bytes_eq (λ p q. same_unit p.1 q.1) a b

abbrev pub units_fault : Option UnitList → Data → Option WordsError
units_fault earlier entry = first_broken (
    (Shape, has_units_frame entry && is_some (units_read entry))
    ∷ (Tag, is_some (locale_key entry))
    ∷ (Text, is_plain entry)
    ∷ (Duplicate, agrees same_units earlier (units_said entry))
    ∷ (Measure, is_some (units_said entry))
    ∷ [])
