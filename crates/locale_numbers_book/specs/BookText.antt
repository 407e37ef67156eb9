-- The text of a book of entries that are given as lines: in each array a comma is between two entries, and brackets are around them.
-- Defined in docs/books.md, "The world's book as lines".
-- Cited by `put_book`, and by the private functions that put arrays.
use Rattle.std.specs.Prelude.{ℕ, List, [], ◌∷◌, ◌++◌, codes, Option, None, Some}
use Rattle.std.specs.List.{join_by}
use Rattle.std.specs.Str.Lines.{lines}
use Rattle.locale_numbers_book.specs.declared.texts.BookTexts.{BookTexts}
use Rattle.locale_numbers_book.specs.declared.texts.MoreTexts.{MoreTexts}
use Rattle.locale_numbers_book.specs.declared.texts.NumberTexts.{NumberTexts}
use Rattle.locale_numbers_book.specs.declared.texts.UnitTexts.{UnitTexts}

-- an entry as a text
abbrev pub Line : Type 0
Line = List ℕ

-- the entries with a comma and a line feed between two
abbrev pub joined_lines : List Line → List ℕ
joined_lines entries = join_by (λ line. line) (codes ",\n") entries

-- an array of these entries, the brackets on lines of their own
abbrev pub array_text : List Line → List ℕ
array_text entries = codes "[\n" ++ joined_lines entries ++ codes "\n]"

-- an array of these arrays
abbrev pub arrays_text : List (List Line) → List ℕ
arrays_text arrays = codes "[" ++ join_by array_text (codes ",") arrays ++ codes "]"

-- after a comma the arrays of more, where there are some
abbrev pub more_text : Option (List (List Line)) → List ℕ
more_text None = []
more_text (Some more) = codes "," ++ arrays_text more

-- a book, or a book and its units, and after these more
abbrev pub book_text : List (List Line) → Option (List (List Line)) → Option (List (List Line)) → List ℕ
book_text numbers None more = arrays_text numbers ++ codes "\n"
book_text numbers (Some units) more = codes "[" ++ arrays_text numbers ++ codes "," ++ arrays_text units ++ more_text more ++ codes "]\n"

-- ---- of texts

-- all entries of each text
abbrev pub number_lines : NumberTexts → List (List Line)
number_lines texts =
    lines texts.symbols.now
    ∷ lines texts.digits.now
    ∷ lines texts.rules.now
    ∷ lines texts.short.now
    ∷ lines texts.long.now
    ∷ lines texts.parents.now
    ∷ []

abbrev pub unit_lines : UnitTexts → List (List Line)
unit_lines texts =
    lines texts.percents.now
    ∷ lines texts.currencies.now
    ∷ lines texts.accounts.now
    ∷ lines texts.symbols.now
    ∷ lines texts.digits.now
    ∷ []

abbrev pub option_unit_lines : Option UnitTexts → Option (List (List Line))
option_unit_lines None = None
option_unit_lines (Some texts) = Some (unit_lines texts)

abbrev pub more_lines : MoreTexts → List (List Line)
more_lines texts = lines texts.ordinals.now ∷ lines texts.ranges.now ∷ lines texts.signs.now ∷ []

abbrev pub option_more_lines : Option MoreTexts → Option (List (List Line))
option_more_lines None = None
option_more_lines (Some texts) = Some (more_lines texts)

-- the book of all of them
abbrev pub whole_text : BookTexts → List ℕ
whole_text texts = book_text (number_lines texts.numbers) (option_unit_lines texts.units) (option_more_lines texts.more)
