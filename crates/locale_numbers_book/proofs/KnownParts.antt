-- Worked rows of `specs/Form.antt`: pairs of a book and of units, these with plurals and signs, and what else has two items or three.
-- Each is an example of docs/books.md, "Faults of a pair" or "More", or follows from its rules by hand.
use Rattle.std.proofs.Common.{◌≡◌, ℕ, List, [], ◌∷◌, codes, Some, None, refl}
use Rattle.std.specs.Char.{encode_utf8}
use Rattle.std.specs.Str.{chars, is_utf8}
use Rattle.serde_json.specs.Data.{Data, null}
use Rattle.icu_locale_core.specs.Stepping.{headed_after, whole_after}
use Rattle.icu_locale_core.specs.TagStages.{with_piece, body_after}
use Rattle.locale_numbers_tables.specs.declared.BookError.TheVariants.{Shape, Tag, System, Text, Condition, Duplicate, Unit, Code}
use Rattle.locale_numbers_tables.specs.TagReading.{tag_of, data_locale_of}
use Rattle.locale_numbers_book.specs.Form.{book_fault}
use Rattle.locale_numbers_book.proofs.KnownFaults.{book, condition, digits, list, rules, size, text}

-- ---- pairs

abbrev empty : Data
empty = book [] [] [] [] []

abbrev pair : Data → Data → Data
pair first second = list (first ∷ second ∷ [])

-- five arrays of units, of which but the first or the last has entries
abbrev of_percents : List Data → Data
of_percents percents = list (list percents ∷ list [] ∷ list [] ∷ list [] ∷ list [] ∷ [])

abbrev of_digits : List Data → Data
of_digits entries = list (list [] ∷ list [] ∷ list [] ∷ list [] ∷ list entries ∷ [])

abbrev percent : List ℕ → List ℕ → List ℕ → List ℕ → Data
percent locale system sign before = list (text locale ∷ text system ∷ text sign ∷ null ∷ list (text before ∷ text [] ∷ []) ∷ [])

abbrev money : List ℕ → ℕ → Data
money code increment = list (text code ∷ size 2 ∷ size 1 ∷ size 2 ∷ size increment ∷ [])

abbrev place : List ℕ
place = 194 ∷ 164 ∷ []

-- ---- the shape

shortest : book_fault (pair empty (of_digits [])) ≡ None
shortest = refl

with_parents : book_fault (pair (list (list [] ∷ list [] ∷ list [] ∷ list [] ∷ list [] ∷ list [] ∷ [])) (of_digits [])) ≡ None
with_parents = refl

two_arrays : book_fault (list (list [] ∷ list [] ∷ [])) ≡ Some Shape
two_arrays = refl

four_arrays : book_fault (list (list [] ∷ list [] ∷ list [] ∷ list [] ∷ [])) ≡ Some Shape
four_arrays = refl

no_units : book_fault (pair empty (list [])) ≡ Some Shape
no_units = refl

-- null is no array
units_are_null : book_fault (pair empty null) ≡ Some Shape
units_are_null = refl

six_arrays_of_units : book_fault (pair empty (list (list [] ∷ list [] ∷ list [] ∷ list [] ∷ list [] ∷ list [] ∷ []))) ≡ Some Shape
six_arrays_of_units = refl

four_arrays_of_units : book_fault (pair empty (list (list [] ∷ list [] ∷ list [] ∷ list [] ∷ []))) ≡ Some Shape
four_arrays_of_units = refl

pair_of_a_pair : book_fault (pair (pair empty (of_digits [])) (of_digits [])) ≡ Some Shape
pair_of_a_pair = refl

four_items : book_fault (list (empty ∷ of_digits [] ∷ of_digits [] ∷ of_digits [] ∷ [])) ≡ Some Shape
four_items = refl

-- ---- a row for each word

short_tag : book_fault (pair empty (of_percents (percent (codes "e") [] (codes "%") place ∷ []))) ≡ Some Tag
unfolding data_locale_of tag_of whole_after headed_after body_after with_piece
short_tag = refl

code_of_percents : book_fault (pair empty (of_percents (percent (codes "en") (codes "EUR") (codes "%") place ∷ []))) ≡ Some System
unfolding data_locale_of tag_of whole_after headed_after body_after with_piece
code_of_percents = refl

tab_as_sign : book_fault (pair empty (of_percents (percent (codes "en") [] (9 ∷ []) place ∷ []))) ≡ Some Text
unfolding data_locale_of tag_of whole_after headed_after body_after with_piece chars is_utf8 encode_utf8
tab_as_sign = refl

francs_twice : book_fault (pair empty (of_digits (money (codes "CHF") 5 ∷ money (codes "CHF") 1 ∷ []))) ≡ Some Duplicate
francs_twice = refl

no_place : book_fault (pair empty (of_percents (percent (codes "en") [] (codes "%") [] ∷ []))) ≡ Some Unit
unfolding data_locale_of tag_of whole_after headed_after body_after with_piece chars is_utf8 encode_utf8
no_place = refl

two_letters : book_fault (pair empty (of_digits (money (codes "CH") 5 ∷ []))) ≡ Some Code
two_letters = refl

-- ---- which fault is told

-- the book's before those of units, though its number is greater
book_first : book_fault (pair (book [] [] (rules (codes "en") [] ∷ rules (codes "en") [] ∷ []) [] []) (of_digits (money (codes "CHF") 3 ∷ []))) ≡ Some Duplicate
unfolding data_locale_of tag_of whole_after headed_after body_after with_piece
book_first = refl

-- the shape of the pair before both
shape_first : book_fault (pair (book [] (digits (codes "LATN") [] ∷ []) [] [] []) (list [])) ≡ Some Shape
shape_first = refl

-- of units the first entry, whatever comes after it
first_entry : book_fault (pair empty (list (list (percent (codes "en") [] (codes "%") [] ∷ []) ∷ list [] ∷ list [] ∷ list [] ∷ list (null ∷ []) ∷ []))) ≡ Some Unit
unfolding data_locale_of tag_of whole_after headed_after body_after with_piece chars is_utf8 encode_utf8
first_entry = refl

-- ---- with plurals

abbrev triple : Data → Data → Data → Data
triple first second third = list (first ∷ second ∷ third ∷ [])

abbrev more : List Data → List Data → Data
more ordinals ranges = list (list ordinals ∷ list ranges ∷ [])

-- a locale and the categories of its ranges
abbrev ranges : List ℕ → List Data → Data
ranges locale entries = list (text locale ∷ list entries ∷ [])

abbrev range : List ℕ → List ℕ → List ℕ → Data
range start end result = list (text start ∷ text end ∷ text result ∷ [])

shortest_triple : book_fault (triple empty (of_digits []) (more [] [])) ≡ None
shortest_triple = refl

-- the arrays after the third are empty
eight_arrays_of_plurals : book_fault (triple empty (of_digits []) (list (list [] ∷ list [] ∷ list [] ∷ list [] ∷ list [] ∷ list [] ∷ list [] ∷ list [] ∷ []))) ≡ None
eight_arrays_of_plurals = refl

fourth_array_with_an_entry : book_fault (triple empty (of_digits []) (list (list [] ∷ list [] ∷ list [] ∷ list (list [] ∷ []) ∷ []))) ≡ Some Shape
fourth_array_with_an_entry = refl

nine_arrays_of_plurals : book_fault (triple empty (of_digits []) (list (list [] ∷ list [] ∷ list [] ∷ list [] ∷ list [] ∷ list [] ∷ list [] ∷ list [] ∷ list [] ∷ []))) ≡ Some Shape
nine_arrays_of_plurals = refl

third_is_no_array : book_fault (triple empty (of_digits []) (list (list [] ∷ list [] ∷ null ∷ []))) ≡ Some Shape
third_is_no_array = refl

one_array_of_plurals : book_fault (triple empty (of_digits []) (list (list [] ∷ []))) ≡ Some Shape
one_array_of_plurals = refl

plurals_are_null : book_fault (triple empty (of_digits []) null) ≡ Some Shape
plurals_are_null = refl

-- plurals come after units only
no_units_before_plurals : book_fault (triple empty null (more [] [])) ≡ Some Shape
no_units_before_plurals = refl

no_ordinal_condition : book_fault (triple empty (of_digits []) (more (rules (codes "en") (condition (codes "one") (codes "n is 1") ∷ []) ∷ []) [])) ≡ Some Condition
unfolding data_locale_of tag_of whole_after headed_after body_after with_piece chars is_utf8 encode_utf8
no_ordinal_condition = refl

two_words : book_fault (triple empty (of_digits []) (more [] (ranges (codes "en") (list (text (codes "other") ∷ text (codes "one") ∷ []) ∷ []) ∷ []))) ≡ Some Shape
two_words = refl

ranges_of_no_locale : book_fault (triple empty (of_digits []) (more [] (ranges (codes "e") (range (codes "other") (codes "one") (codes "other") ∷ []) ∷ []))) ≡ Some Tag
unfolding data_locale_of tag_of whole_after headed_after body_after with_piece
ranges_of_no_locale = refl

ranges_twice : book_fault (triple empty (of_digits []) (more [] (ranges (codes "en") [] ∷ ranges (codes "EN") [] ∷ []))) ≡ Some Duplicate
unfolding data_locale_of tag_of whole_after headed_after body_after with_piece
ranges_twice = refl

-- one locale may have ordinal rules and ranges
both_of_one_locale : book_fault (triple empty (of_digits []) (more (rules (codes "en") [] ∷ []) (ranges (codes "en") [] ∷ []))) ≡ None
unfolding data_locale_of tag_of whole_after headed_after body_after with_piece
both_of_one_locale = refl

-- the units' faults before those of plurals, though their numbers are greater, and the shape of all before both
units_first : book_fault (triple empty (of_digits (money (codes "CH") 5 ∷ [])) (more (null ∷ []) [])) ≡ Some Code
units_first = refl

plurals_shape_first : book_fault (triple empty (of_digits (money (codes "CH") 5 ∷ [])) null) ≡ Some Shape
plurals_shape_first = refl

-- ---- with signs

abbrev with_signs : List Data → List Data → Data
with_signs ranges signs = list (list [] ∷ list ranges ∷ list signs ∷ [])

abbrev texts : List ℕ → List ℕ → Data
texts before after = list (text before ∷ text after ∷ [])

-- a locale, a system and the text before exponents
abbrev signs : List ℕ → List ℕ → List ℕ → Data
signs locale system exponent = list (
    text locale ∷ text system ∷ text exponent ∷ text (codes "x") ∷ text (codes "0/00") ∷ text (codes "~")
    ∷ list (text [] ∷ text (codes "-") ∷ text [] ∷ []) ∷ texts [] (codes "+") ∷ texts (codes "<=") [] ∷ [])

one_locale_of_signs : book_fault (triple empty (of_digits []) (with_signs [] (signs (codes "en") [] (codes "E") ∷ []))) ≡ None
unfolding data_locale_of tag_of whole_after headed_after body_after with_piece chars is_utf8 encode_utf8
one_locale_of_signs = refl

no_entry_of_signs : book_fault (triple empty (of_digits []) (with_signs [] (list [] ∷ []))) ≡ Some Shape
no_entry_of_signs = refl

capital_system_of_signs : book_fault (triple empty (of_digits []) (with_signs [] (signs (codes "en") (codes "LATN") (codes "E") ∷ []))) ≡ Some System
unfolding data_locale_of tag_of whole_after headed_after body_after with_piece chars is_utf8 encode_utf8
capital_system_of_signs = refl

signs_twice : book_fault (triple empty (of_digits []) (with_signs [] (signs (codes "en") [] (codes "E") ∷ signs (codes "EN") [] (codes "e") ∷ []))) ≡ Some Duplicate
unfolding data_locale_of tag_of whole_after headed_after body_after with_piece chars is_utf8 encode_utf8
signs_twice = refl

-- the faults of ranges before those of signs, though their numbers are greater
ranges_first : book_fault (triple empty (of_digits []) (with_signs (ranges (codes "en") [] ∷ ranges (codes "EN") [] ∷ []) (null ∷ []))) ≡ Some Duplicate
unfolding data_locale_of tag_of whole_after headed_after body_after with_piece
ranges_first = refl
