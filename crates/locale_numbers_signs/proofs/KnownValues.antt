-- Worked rows of `specs/SignsEntries.antt` and `specs/SignChoice.antt`: what a known entry says, a row for each fault, and which signs are taken.
-- Each is an example of docs/books.md, "More", or follows from its rules by hand.
use Rattle.std.proofs.Common.{◌≡◌, ℕ, List, [], ◌∷◌, codes, Option, Some, None, Result, Ok, Err, refl}
use Rattle.std.specs.Char.{encode_utf8}
use Rattle.std.specs.Str.{chars, is_utf8}
use Rattle.serde_json.specs.Data.{Data, Items, null, string, array, no_items, item}
use Rattle.icu_decimal.specs.Choice.{answered}
use Rattle.icu_decimal.specs.Identifiers.{Identifier, of_both}
use Rattle.icu_decimal.specs.declared.error.DataError.{DataError}
use Rattle.icu_locale_core.specs.DataLocales.{unknown_data}
use Rattle.icu_locale_core.specs.Stepping.{headed_after, whole_after}
use Rattle.icu_locale_core.specs.TagPreferences.{DataLocaleMeaning}
use Rattle.icu_locale_core.specs.TagStages.{with_piece, body_after}
use Rattle.locale_numbers_faults.specs.declared.BookError.{BookError}
use Rattle.locale_numbers_faults.specs.declared.BookError.TheVariants.{Shape, Tag, System, Text, Duplicate}
use Rattle.locale_numbers_tables.specs.Keys.{same_key, table_at}
use Rattle.locale_numbers_tables.specs.TagReading.{tag_of, data_locale_of}
use Rattle.locale_numbers_signs.specs.NumberSigns.{SignTexts}
use Rattle.locale_numbers_signs.specs.SignChoice.{signs_found}
use Rattle.locale_numbers_signs.specs.SignsEntries.{signs_entry, signs_faults, signs_said}

-- ---- entries

abbrev items : List Data → Items
items [] = no_items
items (d ∷ ds) = item d (items ds)

abbrev list : List Data → Data
list ds = array (items ds)

abbrev text : List ℕ → Data
text bytes = string bytes

abbrev texts : List ℕ → List ℕ → Data
texts before after = list (text before ∷ text after ∷ [])

-- a locale, a system, the text before exponents and what is around the greatest; else the signs of German
abbrev signs : List ℕ → List ℕ → List ℕ → Data → Data
signs locale system exponent at_most = list (
    text locale ∷ text system ∷ text exponent ∷ text (194 ∷ 183 ∷ []) ∷ text (226 ∷ 128 ∷ 176 ∷ []) ∷ text (226 ∷ 137 ∷ 136 ∷ [])
    ∷ list (text [] ∷ text (226 ∷ 128 ∷ 147 ∷ []) ∷ text [] ∷ []) ∷ texts [] (codes "+") ∷ at_most ∷ [])

abbrev least_or_equal : Data
least_or_equal = texts (226 ∷ 137 ∷ 164 ∷ []) []

abbrev german : Data
german = signs (codes "de") [] (codes "E") least_or_equal

abbrev german_signs : SignTexts
german_signs = record {
  exponent = codes "E";
  multiplication = 194 ∷ 183 ∷ [];
  permille = 226 ∷ 128 ∷ 176 ∷ [];
  about = 226 ∷ 137 ∷ 136 ∷ [];
  range = record { before = []; between = 226 ∷ 128 ∷ 147 ∷ []; after = [] };
  at_least = record { before = []; after = codes "+" };
  at_most = record { before = 226 ∷ 137 ∷ 164 ∷ []; after = [] };
}

german_says : signs_said german ≡ german_signs
unfolding chars is_utf8 encode_utf8
german_says = refl

abbrev german_locale : DataLocaleMeaning
german_locale = record { language = codes "de"; script = None; region = None; variant = None; subdivision = None }

german_entry : signs_entry german ≡ Some (of_both [] german_locale, german_signs)
unfolding data_locale_of tag_of whole_after headed_after body_after with_piece chars is_utf8 encode_utf8
german_entry = refl

-- ---- signs that are taken

abbrev austrian_locale : DataLocaleMeaning
austrian_locale = record german_locale { region = Some (codes "AT") }

abbrev arabic_signs : SignTexts
arabic_signs = record german_signs { exponent = 216 ∷ 163 ∷ 216 ∷ 179 ∷ [] }

-- entries of `de`, and of `und` with `arab`
abbrev provided : Identifier → Result SignTexts DataError
provided id = answered (table_at same_key id ((of_both [] german_locale, german_signs) ∷ (of_both (codes "arab") unknown_data, arabic_signs) ∷ []))

abbrev taken : Option (List ℕ) → Result SignTexts DataError
taken system = signs_found provided (austrian_locale ∷ german_locale ∷ unknown_data ∷ []) system

without_system : taken None ≡ Ok german_signs
without_system = refl

-- the system goes before a nearer locale
with_system : taken (Some (codes "arab")) ≡ Ok arabic_signs
with_system = refl

other_system : taken (Some (codes "thai")) ≡ Ok german_signs
other_system = refl

no_signs : signs_found provided (unknown_data ∷ []) (Some (codes "thai")) ≡ Err DataError.IdentifierNotFound
no_signs = refl

-- ---- faults

abbrev faults : List Data → Option BookError
faults entries = signs_faults (items entries)

-- two systems of one locale are two keys
no_fault : faults (german ∷ signs (codes "de") (codes "arab") (codes "E") least_or_equal ∷ []) ≡ None
unfolding data_locale_of tag_of whole_after headed_after body_after with_piece chars is_utf8 encode_utf8
no_fault = refl

no_array : faults (null ∷ []) ≡ Some Shape
no_array = refl

one_text : faults (signs (codes "de") [] (codes "E") (list (text [] ∷ [])) ∷ []) ≡ Some Shape
one_text = refl

three_texts : faults (signs (codes "de") [] (codes "E") (list (text [] ∷ text [] ∷ text [] ∷ [])) ∷ []) ≡ Some Shape
three_texts = refl

no_texts : faults (signs (codes "de") [] (codes "E") (text (codes "<")) ∷ []) ≡ Some Shape
no_texts = refl

no_locale : faults (signs (codes "e") (codes "E") (9 ∷ []) least_or_equal ∷ []) ≡ Some Tag
unfolding data_locale_of tag_of whole_after headed_after body_after with_piece
no_locale = refl

capital_system : faults (signs (codes "de") (codes "LATN") (9 ∷ []) least_or_equal ∷ []) ≡ Some System
unfolding data_locale_of tag_of whole_after headed_after body_after with_piece chars is_utf8 encode_utf8
capital_system = refl

tab_before_exponents : faults (signs (codes "de") [] (9 ∷ []) least_or_equal ∷ []) ≡ Some Text
unfolding data_locale_of tag_of whole_after headed_after body_after with_piece chars is_utf8 encode_utf8
tab_before_exponents = refl

line_feed_after_a_number : faults (signs (codes "de") [] (codes "E") (texts [] (10 ∷ [])) ∷ []) ≡ Some Text
unfolding data_locale_of tag_of whole_after headed_after body_after with_piece chars is_utf8 encode_utf8
line_feed_after_a_number = refl

-- a tag in capitals is the same locale
same_locale : faults (german ∷ signs (codes "DE") [] (codes "E") least_or_equal ∷ []) ≡ Some Duplicate
unfolding data_locale_of tag_of whole_after headed_after body_after with_piece chars is_utf8 encode_utf8
same_locale = refl

-- the first faulty entry decides, and not the least number
first_entry : faults (signs (codes "de") [] (9 ∷ []) least_or_equal ∷ null ∷ []) ≡ Some Text
unfolding data_locale_of tag_of whole_after headed_after body_after with_piece chars is_utf8 encode_utf8
first_entry = refl
