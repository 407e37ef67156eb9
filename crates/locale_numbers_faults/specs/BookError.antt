-- The number and the word of each fault of a book.
-- Defined in docs/books.md, "Faults".
-- Cited by `BookError::number` and `BookError::word`.
use Rattle.std.specs.Prelude.{ℕ, List, codes}
use Rattle.locale_numbers_faults.specs.declared.book_error.BookError.{BookError}
use Rattle.locale_numbers_faults.specs.declared.book_error.BookError.TheVariants.{Json, Shape, Tag, System, Text, Digits, Condition, Types, Exponents, Duplicate, Cycle, Memory, Unit, Code}

abbrev pub number_of : BookError → ℕ
number_of Json = 1
number_of Shape = 2
number_of Tag = 3
number_of System = 4
number_of Text = 5
number_of Digits = 6
number_of Condition = 7
number_of Types = 8
number_of Exponents = 9
number_of Duplicate = 10
number_of Cycle = 11
number_of Memory = 12
number_of Unit = 13
number_of Code = 14

abbrev pub word_of : BookError → List ℕ
word_of Json = codes "json"
word_of Shape = codes "shape"
word_of Tag = codes "tag"
word_of System = codes "system"
word_of Text = codes "text"
word_of Digits = codes "digits"
word_of Condition = codes "condition"
word_of Types = codes "types"
word_of Exponents = codes "exponents"
word_of Duplicate = codes "duplicate"
word_of Cycle = codes "cycle"
word_of Memory = codes "memory"
word_of Unit = codes "unit"
word_of Code = codes "code"
