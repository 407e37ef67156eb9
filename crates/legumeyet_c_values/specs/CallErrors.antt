-- The number that a call answers, and what it means.
-- Defined in include/legumeyet.h.
-- Cited by each export.
use Rattle.std.specs.Prelude.{ℕ, ℤ, pos, ◌+◌, List, codes, Result, Ok, Err}
use Rattle.locale_numbers_faults.specs.BookError.{number_of as book_number}
use Rattle.locale_numbers_faults.specs.declared.BookError.{BookError}
use Rattle.locale_numbers_faults.specs.declared.BookError.TheVariants as book
use Rattle.locale_numbers_formats.specs.SkeletonErrors.{number_of as skeleton_number}
use Rattle.locale_numbers_formats.specs.declared.SkeletonError.{SkeletonError}
use Rattle.locale_numbers_formats.specs.declared.SkeletonError.TheVariants as skeleton
use Rattle.legumeyet_c_values.specs.declared.call_error.CallError.{CallError}
use Rattle.legumeyet_c_values.specs.declared.call_error.CallError.TheVariants.{Memory, Closed, TooSmall, UnknownOption, Tag, Table, Number, Limit, Range, NoUtf8, Unreadable, NotWritten, Exponent, Code, Unkept, Book, Skeleton}

-- a book's number and 100; out of memory is told as one number, whatever it was wanted for
abbrev pub book_answer : BookError → ℤ
book_answer book.Memory = pos 1
book_answer error = pos (100 + book_number error)

-- 1 to 99 of calls, from 101 on of books, and from 201 on of skeletons
abbrev pub number_of : CallError → ℤ
number_of Memory = pos 1
number_of Closed = pos 2
number_of TooSmall = pos 3
number_of UnknownOption = pos 4
number_of Tag = pos 5
number_of Table = pos 6
number_of Number = pos 7
number_of Limit = pos 8
number_of Range = pos 9
number_of NoUtf8 = pos 10
number_of Unreadable = pos 11
number_of NotWritten = pos 12
number_of Exponent = pos 13
number_of Code = pos 14
number_of Unkept = pos 15
number_of (Book error) = book_answer error
number_of (Skeleton error) = pos (200 + skeleton_number error)

-- 0 of a call that was not refused
abbrev pub status_of : Result (Unit {0}) CallError → ℤ
status_of (Ok done) = pos 0
status_of (Err error) = number_of error

abbrev pub book_text : BookError → List ℕ
book_text book.Json = codes "no book: no JSON"
book_text book.Shape = codes "no book: the shape of a book, or of an entry"
book_text book.Tag = codes "no book: a locale, or a parent of one"
book_text book.System = codes "no book: the name of a numbering system"
book_text book.Text = codes "no book: a tab or a line feed in a text"
book_text book.Digits = codes "no book: digits that are not ten characters"
book_text book.Condition = codes "no book: a condition of a plural category"
book_text book.Types = codes "no book: types of patterns that do not rise"
book_text book.Exponents = codes "no book: exponents of patterns"
book_text book.Duplicate = codes "no book: a key that is there twice"
book_text book.Cycle = codes "no book: parents that lead back"
book_text book.Memory = codes "out of memory"
book_text book.Unit = codes "no book: a pattern without one place for its unit"
book_text book.Code = codes "no book: the code of a currency"

abbrev pub skeleton_text : SkeletonError → List ℕ
skeleton_text (skeleton.Unknown place) = codes "no skeleton: an unknown word"
skeleton_text (skeleton.Twice place) = codes "no skeleton: a word that sets what another has set"
skeleton_text (skeleton.Code place) = codes "no skeleton: no code of a currency"
skeleton_text (skeleton.Pair place) = codes "no skeleton: a word for amounts, without a currency"
skeleton_text (skeleton.System place) = codes "no skeleton: a numbering system, which the tag has"
skeleton_text (skeleton.Later place) = codes "no skeleton: a word that is not written yet"
skeleton_text (skeleton.Unsupported place) = codes "no skeleton: a word that is not written"

-- what an error means, in English
abbrev pub text_of : CallError → List ℕ
text_of Memory = codes "out of memory"
text_of Closed = codes "the handle is closed"
text_of TooSmall = codes "more room is needed"
text_of UnknownOption = codes "an unknown option, or a count of digits out of its range"
text_of Tag = codes "no locale tag"
text_of Table = codes "the book lacks a table for the tag"
text_of Number = codes "no decimal number"
text_of Limit = codes "a digit beyond the magnitudes -32768 to 32767"
text_of Range = codes "a digit of what is shown is beyond the magnitudes -32768 to 32767"
text_of NoUtf8 = codes "no UTF-8"
text_of Unreadable = codes "symbols under which two numbers may have one text"
text_of NotWritten = codes "no number is written so"
text_of Exponent = codes "numbers of this magnitude have another exponent"
text_of Code = codes "no code of a currency"
text_of Unkept = codes "the book is not kept"
text_of (Book error) = book_text error
text_of (Skeleton error) = skeleton_text error
