-- Entries that are lines: how one begins with fields that are texts, and the texts between its quotes.
-- Defined in docs/books.md, "The small book of a tag".
-- Cited by the private functions that pick lines, and by `book_text_for` through SelectedText.antt.
use Rattle.std.specs.Prelude.{ℕ, ◌==◌, Bool, nat_eq, List, ◌++◌, codes, map, slice_get, Option}
use Rattle.std.specs.List.{flat_map, list_any, slice_split, starts_with}
use Rattle.locale_numbers_book.specs.BookText.{Line}

abbrev pub Field : Type 0
Field = List ℕ

-- how an entry begins with this field, and with these two
abbrev pub opening : Field → List ℕ
opening first = codes "[\"" ++ first ++ codes "\""

abbrev pub opening_of_two : Field → Field → List ℕ
opening_of_two first second = codes "[\"" ++ first ++ codes "\",\"" ++ second ++ codes "\""

-- how the entries of these locales begin, and those of these locales and systems
abbrev pub under_fronts : List Field → List (List ℕ)
under_fronts locales = map opening locales

abbrev pub asked_fronts : List Field → List Field → List (List ℕ)
asked_fronts locales systems = flat_map (λ locale. map (opening_of_two locale) systems) locales

-- an entry begins as one of these
abbrev pub begins : List (List ℕ) → Line → Bool
begins fronts line = list_any (λ front. starts_with nat_eq line front) fronts

-- the text that ends at the second quote of an entry, at the fourth, at the sixth
abbrev pub quoted : ℕ → Line → Option Field
quoted piece line = slice_get (slice_split (λ b. b == 34) line) piece

abbrev pub second_field : Line → Option Field
second_field line = quoted 3 line

abbrev pub third_field : Line → Option Field
third_field line = quoted 5 line
