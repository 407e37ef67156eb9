-- Entries of CLDR and their words, and forms that a wrong definition does not survive.
use Rattle.std.proofs.Common.{◌≡◌, true, false, List, ℕ, [], ◌∷◌, ◌++◌, Some, None, codes, refl}
use Rattle.std.specs.Char.{encode_utf8}
use Rattle.std.specs.Str.{chars, is_utf8}
use Rattle.serde_json.specs.Data.{Data, array, string, item, no_items}
use Rattle.icu_decimal.specs.declared.plurals.PluralCategory.TheVariants.{One, Few, Other}
use Rattle.icu_dimension_words.specs.Words.{Word, around, bare}
use Rattle.locale_numbers_words.specs.declared.error.WordsError.TheVariants.{Duplicate, Measure, Shape}
use Rattle.locale_numbers_words.specs.Categories.{Values, of_category, only, values_in}
use Rattle.locale_numbers_words.specs.Entries.{UnitTexts, code_in, is_placed, keyed, placeholder, same_names, texts_with, unit_in, width_in}
use Rattle.locale_numbers_words.specs.Faults.{said_fault}
use Rattle.locale_numbers_words.specs.Files.{is_file}
use Rattle.locale_numbers_words.specs.FoundWords.{named, with_name, words_of, words_per}
use Rattle.locale_numbers_words.specs.PlainTexts.{is_plain}
use Rattle.locale_numbers_words.specs.SlotTexts.{name_in, pair_of, word_in}
use Rattle.locale_numbers_words.specs.UnitNames.{is_unit_name, per_parts}
use Rattle.locale_numbers_words.specs.Words.{file_fault, no_words}

abbrev two : Data → Data → Data
two first second = array (item first (item second no_items))

abbrev three : Data → Data → Data → Data
three first second third = array (item first (item second (item third no_items)))

abbrev text : List ℕ → Data
text bytes = string bytes

-- ---- names of units

two_units : per_parts (codes "kilometer-per-hour") ≡ Some (codes "kilometer", codes "hour")
two_units = refl

one_unit : per_parts (codes "fluid-ounce") ≡ None
one_unit = refl

small_letters : is_unit_name (codes "kilometer-per-hour") ≡ true
small_letters = refl

capitals : is_unit_name (codes "Kilometer") ≡ false
capitals = refl

per_twice : is_unit_name (codes "meter-per-second-per-second") ≡ false
per_twice = refl

no_letters : is_unit_name [] ≡ false
no_letters = refl

-- ---- slots

abbrev dollars : Data
dollars = two (two (text (codes "one")) (text (codes "US dollar"))) (two (text (codes "other")) (text (codes "US dollars")))

abbrev dollar_names : Values (List ℕ)
dollar_names = record { zero = None; one = Some (codes "US dollar"); two = None; few = None; many = None; other = codes "US dollars" }

english_dollars : values_in name_in dollars ≡ Some dollar_names
english_dollars = refl

few_dollars : of_category dollar_names Few ≡ codes "US dollars"
few_dollars = refl

no_other : values_in name_in (array (item (two (text (codes "one")) (text (codes "US dollar"))) no_items)) ≡ None
no_other = refl

twice : values_in name_in (two (two (text (codes "other")) (text (codes "a"))) (two (text (codes "other")) (text (codes "b")))) ≡ None
twice = refl

abbrev lone : Data
lone = array (item (text (codes "metr")) no_items)

-- a text without the number stands for 1, and for no number of `few`
bare_one : word_in One lone ≡ Some (bare (codes "metr"))
bare_one = refl

bare_few : word_in Few lone ≡ None
bare_few = refl

bare_other : word_in Other lone ≡ None
bare_other = refl

-- ---- patterns

abbrev behind_name : List ℕ
behind_name = codes " " ++ placeholder

placed_once : is_placed (pair_of [] behind_name) ≡ true
placed_once = refl

placed_nowhere : is_placed (pair_of [] (codes " ")) ≡ false
placed_nowhere = refl

placed_twice : is_placed (pair_of placeholder behind_name) ≡ false
placed_twice = refl

in_its_place : with_name (codes "Swiss francs") (codes " de " ++ placeholder) ≡ codes " de Swiss francs"
in_its_place = refl

-- `1 US dollar`, `5 US dollars`
english_amounts : words_of (named (only (pair_of [] behind_name)) dollar_names)
    ≡ record {
      zero = None;
      one = Some (around (pair_of [] (codes " US dollar")));
      two = None;
      few = None;
      many = None;
      other = pair_of [] (codes " US dollars");
    }
english_amounts = refl

-- ---- units

abbrev kilometers : Values Word
kilometers = record {
  zero = None;
  one = Some (around (pair_of [] (codes " kilometer")));
  two = None;
  few = None;
  many = None;
  other = around (pair_of [] (codes " kilometers"));
}

abbrev hours : UnitTexts
hours = texts_with (Some (pair_of [] (codes " per hour"))) (only (around (pair_of [] (codes " hours"))))

-- `1 kilometer per hour`, `5 kilometers per hour`
per_hour : words_per (texts_with None kilometers) hours
    ≡ Some (record {
      zero = None;
      one = Some (around (pair_of [] (codes " kilometer per hour")));
      two = None;
      few = None;
      many = None;
      other = pair_of [] (codes " kilometers per hour");
    })
per_hour = refl

abbrev hour_slots : Data
hour_slots = array (item (two (text (codes "other")) (two (text []) (text (codes " hours")))) no_items)

read_hours : unit_in (three (text (codes "hour")) hour_slots (two (text []) (text (codes " per hour")))) ≡ Some (Some (codes "hour"), hours)
read_hours = refl

-- the pair behind another unit is there exactly where the name is of one unit
hours_alone : unit_in (two (text (codes "hour")) hour_slots) ≡ None
hours_alone = refl

pair_with_compound : unit_in (three (text (codes "mile-per-hour")) hour_slots (two (text []) (text []))) ≡ None
pair_with_compound = refl

no_name : keyed ((None, hours) ∷ []) ≡ None
no_name = refl

name_twice : keyed ((Some (codes "hour"), hours) ∷ (Some (codes "hour"), hours) ∷ []) ≡ None
name_twice = refl

wide : width_in (text (codes "wide")) ≡ None
wide = refl

small_code : code_in (text (codes "usd")) ≡ None
small_code = refl

-- ---- an entry after another one of its key

says_the_same : said_fault same_names Measure (Some dollar_names) (Some dollar_names) ≡ None
says_the_same = refl

says_else : said_fault same_names Measure (Some dollar_names) (Some (only (codes "dollars"))) ≡ Some Duplicate
says_else = refl

-- ---- texts and files

with_tab : is_plain (two (text (codes "en")) (two (text (codes "other")) (text (9 ∷ [])))) ≡ false
unfolding chars is_utf8 encode_utf8
with_tab = refl

without_tab : is_plain (two (text (codes "en")) dollars) ≡ true
unfolding chars is_utf8 encode_utf8
without_tab = refl

abbrev empty : Data
empty = array no_items

two_arrays : is_file (two empty empty) ≡ false
two_arrays = refl

three_arrays : is_file (three empty empty empty) ≡ true
three_arrays = refl

no_array : is_file (three empty empty (text [])) ≡ false
no_array = refl

-- a file without entries says nothing after any words, and two arrays are no file
says_nothing : file_fault no_words (three empty empty empty) ≡ None
says_nothing = refl

no_file : file_fault no_words (two empty empty) ≡ Some Shape
no_file = refl
