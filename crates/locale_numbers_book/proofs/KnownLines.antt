-- Known values of the definitions: the text of a book of lines, and the lines that begin with fields.
use Rattle.std.proofs.Common.{◌≡◌, true, false, [], ◌∷◌, codes, Some, None, refl}
use Rattle.locale_numbers_book.specs.BookText.{Line, array_text, arrays_text, book_text}
use Rattle.locale_numbers_book.specs.EntryFields.{asked_fronts, begins, opening, opening_of_two, second_field, third_field, under_fronts}

-- ---- texts

two_entries : array_text (codes "[\"en-AU\",\"en-001\"]" ∷ codes "[\"en-001\",\"en\"]" ∷ [])
    ≡ codes "[\n[\"en-AU\",\"en-001\"],\n[\"en-001\",\"en\"]\n]"
two_entries = refl

no_entry : array_text [] ≡ codes "[\n\n]"
no_entry = refl

two_arrays : arrays_text ((codes "1" ∷ codes "2" ∷ []) ∷ (codes "3" ∷ []) ∷ []) ≡ codes "[[\n1,\n2\n],[\n3\n]]"
two_arrays = refl

without_units : book_text ((codes "1" ∷ []) ∷ []) None None ≡ codes "[[\n1\n]]\n"
without_units = refl

with_units : book_text ((codes "1" ∷ []) ∷ []) (Some ((codes "2" ∷ []) ∷ [])) None ≡ codes "[[[\n1\n]],[[\n2\n]]]\n"
with_units = refl

with_more : book_text ((codes "1" ∷ []) ∷ []) (Some ((codes "2" ∷ []) ∷ [])) (Some ((codes "3" ∷ []) ∷ [] ∷ [])) ≡ codes "[[[\n1\n]],[[\n2\n]],[[\n3\n],[\n\n]]]\n"
with_more = refl

-- ---- fields

abbrev german : Line
german = codes "[\"de\",\"\",\"latn\",\"-\"]"

one_front : opening (codes "de") ≡ codes "[\"de\""
one_front = refl

two_fronts : opening_of_two (codes "de") [] ≡ codes "[\"de\",\"\""
two_fronts = refl

german_under : begins (under_fronts (codes "de-AT" ∷ codes "de" ∷ [])) german ≡ true
german_under = refl

-- neither a longer text nor a shorter one is that of the locale
german_other : begins (under_fronts (codes "de-AT" ∷ codes "d" ∷ [])) german ≡ false
german_other = refl

german_asked : begins (asked_fronts (codes "de" ∷ []) ([] ∷ codes "latn" ∷ [])) german ≡ true
german_asked = refl

german_with_latin : begins (asked_fronts (codes "de" ∷ []) (codes "latn" ∷ [])) german ≡ false
german_with_latin = refl

german_second : second_field german ≡ Some []
german_second = refl

german_third : third_field german ≡ Some (codes "latn")
german_third = refl

english_parent : second_field (codes "[\"en-AU\",\"en-001\"]") ≡ Some (codes "en-001")
english_parent = refl
