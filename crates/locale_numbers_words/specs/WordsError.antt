-- The number and the word of each fault of words, which are those of a book.
-- Defined in docs/words.md, "Tables of words"; the others in docs/books.md, "Faults".
-- Cited by `WordsError::number` and `WordsError::word`.
use Rattle.std.specs.Prelude.{ℕ, List, codes}
use Rattle.locale_numbers_words.specs.declared.error.WordsError.{WordsError}
use Rattle.locale_numbers_words.specs.declared.error.WordsError.TheVariants.{Shape, Tag, Text, Duplicate, Memory, Unit, Code, Measure}

abbrev pub number_of : WordsError → ℕ
number_of Shape = 2
number_of Tag = 3
number_of Text = 5
number_of Duplicate = 10
number_of Memory = 12
number_of Unit = 13
number_of Code = 14
number_of Measure = 15

abbrev pub word_of : WordsError → List ℕ
word_of Shape = codes "shape"
word_of Tag = codes "tag"
word_of Text = codes "text"
word_of Duplicate = codes "duplicate"
word_of Memory = codes "memory"
word_of Unit = codes "unit"
word_of Code = codes "code"
word_of Measure = codes "measure"
