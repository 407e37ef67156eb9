-- Worked rows of `specs/Faults.antt` of `locale_numbers_tables`: the fault of a small book for each word, the least number in an entry, and the first faulty entry.
-- Each is an example of docs/books.md, "Faults", or follows from its rules by hand.
use Rattle.std.proofs.Common.{◌≡◌, ℕ, List, [], ◌∷◌, codes, Some, None, refl}
use Rattle.std.specs.Char.{encode_utf8}
use Rattle.std.specs.Str.{chars, is_utf8}
use Rattle.serde_json.specs.Data.{Data, Items, null, number, unsigned, string, array, no_items, item}
use Rattle.icu_locale_core.specs.Stepping.{headed_after, whole_after}
use Rattle.icu_locale_core.specs.TagStages.{with_piece, body_after}
use Rattle.locale_numbers_tables.specs.declared.BookError.TheVariants.{Shape, Tag, System, Text, Digits, Condition, Types, Exponents, Duplicate, Cycle}
use Rattle.locale_numbers_book.specs.Form.{book_fault}
use Rattle.locale_numbers_tables.specs.TagReading.{tag_of, data_locale_of}

-- ---- small books

abbrev pub items : List Data → Items
items [] = no_items
items (d ∷ ds) = item d (items ds)

abbrev pub list : List Data → Data
list ds = array (items ds)

abbrev pub text : List ℕ → Data
text bytes = string bytes

abbrev pub size : ℕ → Data
size n = number (unsigned n)

abbrev pub book : List Data → List Data → List Data → List Data → List Data → Data
book symbols digits rules short long = list (list symbols ∷ list digits ∷ list rules ∷ list short ∷ list long ∷ [])

-- symbols of a locale, a system and a minus sign; else those of English
abbrev pub symbols : List ℕ → List ℕ → List ℕ → Data
symbols locale system minus = list (
    text locale ∷ text system ∷ text (codes "latn") ∷ text minus ∷ text [] ∷ text (codes "+") ∷ text []
    ∷ text (codes ".") ∷ text (codes ",") ∷ size 3 ∷ size 3 ∷ size 1 ∷ [])

abbrev pub digits : List ℕ → List ℕ → Data
digits system ten = list (text system ∷ text ten ∷ [])

abbrev pub rules : List ℕ → List Data → Data
rules locale conditions = list (text locale ∷ list conditions ∷ [])

abbrev pub condition : List ℕ → List ℕ → Data
condition category said = list (text category ∷ text said ∷ [])

-- a type with an exponent and one pattern
abbrev pub type : ℕ → ℕ → List ℕ → List ℕ → Data
type log10_type exponent before after =
    list (size log10_type ∷ size exponent ∷ list (list (text (codes "other") ∷ list (text before ∷ text after ∷ []) ∷ []) ∷ []) ∷ [])

abbrev pub patterns : List ℕ → List Data → Data
patterns locale types = list (text locale ∷ text [] ∷ list types ∷ null ∷ [])

-- five arrays without entries, and one of parents
abbrev with_parents : List Data → Data
with_parents parents = list (list [] ∷ list [] ∷ list [] ∷ list [] ∷ list [] ∷ list parents ∷ [])

abbrev parent : List ℕ → List ℕ → Data
parent locale behind = list (text locale ∷ text behind ∷ [])

-- ---- a row for each word

no_fault : book_fault (book [] [] [] [] []) ≡ None
no_fault = refl

no_arrays : book_fault (list []) ≡ Some Shape
no_arrays = refl

six_arrays : book_fault (with_parents []) ≡ None
six_arrays = refl

seven_arrays : book_fault (list (list [] ∷ list [] ∷ list [] ∷ list [] ∷ list [] ∷ list [] ∷ list [] ∷ [])) ≡ Some Shape
seven_arrays = refl

sixth_is_no_array : book_fault (list (list [] ∷ list [] ∷ list [] ∷ list [] ∷ list [] ∷ null ∷ [])) ≡ Some Shape
sixth_is_no_array = refl

one_locale : book_fault (with_parents (list (text (codes "en") ∷ []) ∷ [])) ≡ Some Shape
one_locale = refl

short_tag : book_fault (book [] [] (rules (codes "e") [] ∷ []) [] []) ≡ Some Tag
unfolding data_locale_of tag_of whole_after headed_after body_after with_piece
short_tag = refl

upper_case_system : book_fault (book [] (digits (codes "LATN") (codes "0123456789") ∷ []) [] [] []) ≡ Some System
unfolding chars is_utf8 encode_utf8
upper_case_system = refl

tab_in_pattern : book_fault (book [] [] [] (patterns (codes "en") (type 3 3 (9 ∷ []) (codes "K") ∷ []) ∷ []) []) ≡ Some Text
unfolding data_locale_of tag_of whole_after headed_after body_after with_piece chars is_utf8 encode_utf8
tab_in_pattern = refl

nine_digits : book_fault (book [] (digits (codes "latn") (codes "012345678") ∷ []) [] [] []) ≡ Some Digits
unfolding chars is_utf8 encode_utf8
nine_digits = refl

no_condition : book_fault (book [] [] (rules (codes "en") (condition (codes "one") (codes "i is 1") ∷ []) ∷ []) [] []) ≡ Some Condition
unfolding data_locale_of tag_of whole_after headed_after body_after with_piece chars is_utf8 encode_utf8
no_condition = refl

types_fall : book_fault (book [] [] [] (patterns (codes "en") (type 6 6 [] (codes "M") ∷ type 3 3 [] (codes "K") ∷ []) ∷ []) []) ≡ Some Types
unfolding data_locale_of tag_of whole_after headed_after body_after with_piece chars is_utf8 encode_utf8
types_fall = refl

exponents_fall : book_fault (book [] [] [] [] (patterns (codes "en") (type 3 3 [] (codes "K") ∷ type 6 2 [] (codes "M") ∷ []) ∷ [])) ≡ Some Exponents
unfolding data_locale_of tag_of whole_after headed_after body_after with_piece chars is_utf8 encode_utf8
exponents_fall = refl

-- keys are compared as values
key_twice : book_fault (book [] [] (rules (codes "en") [] ∷ rules (codes "EN") [] ∷ []) [] []) ≡ Some Duplicate
unfolding data_locale_of tag_of whole_after headed_after body_after with_piece
key_twice = refl

locale_twice : book_fault (with_parents (parent (codes "en") (codes "xx") ∷ parent (codes "EN") (codes "yy") ∷ [])) ≡ Some Duplicate
unfolding data_locale_of tag_of whole_after headed_after body_after with_piece
locale_twice = refl

own_parent : book_fault (with_parents (parent (codes "en") (codes "en") ∷ [])) ≡ Some Cycle
unfolding data_locale_of tag_of whole_after headed_after body_after with_piece
own_parent = refl

-- through a truncation
cut_parent : book_fault (with_parents (parent (codes "en") (codes "en-US") ∷ [])) ≡ Some Cycle
unfolding data_locale_of tag_of whole_after headed_after body_after with_piece
cut_parent = refl

-- ---- which fault is told

-- of an entry the least number
tag_before_text : book_fault (book (symbols (codes "e") [] (9 ∷ []) ∷ []) [] [] [] []) ≡ Some Tag
unfolding data_locale_of tag_of whole_after headed_after body_after with_piece chars is_utf8 encode_utf8
tag_before_text = refl

system_before_text : book_fault (book (symbols (codes "en") (codes "TH") (9 ∷ []) ∷ []) [] [] [] []) ≡ Some System
unfolding data_locale_of tag_of whole_after headed_after body_after with_piece chars is_utf8 encode_utf8
system_before_text = refl

-- of the book the first faulty entry, whatever is after it
first_entry : book_fault (book (symbols (codes "en") [] (9 ∷ []) ∷ null ∷ []) (digits (codes "LATN") [] ∷ []) [] [] []) ≡ Some Text
unfolding data_locale_of tag_of whole_after headed_after body_after with_piece chars is_utf8 encode_utf8
first_entry = refl

twice_before_shape : book_fault (book [] (digits (codes "latn") (codes "0123456789") ∷ digits (codes "latn") (codes "0123456789") ∷ null ∷ []) [] [] []) ≡ Some Duplicate
unfolding chars is_utf8 encode_utf8
twice_before_shape = refl

-- of the entries of parents too, whatever a later one would say
first_of_parents : book_fault (with_parents (parent (codes "a") (codes "en") ∷ parent (codes "en") (codes "en") ∷ [])) ≡ Some Tag
unfolding data_locale_of tag_of whole_after headed_after body_after with_piece
first_of_parents = refl
