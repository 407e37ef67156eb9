-- What a reader must believe: the answers to request lines.
pub mod WithoutUnits
pub mod Answer
-- Keys of formatters, and how many are made.
pub mod FormatterKeys
-- The program.
pub mod Words
pub mod Fault
pub mod Program
-- What private steps follow.
pub mod KeptFormatters
pub mod Front
pub mod LineMemory
pub mod LineState
pub mod KeptAnswers
-- Statements of laws.
pub mod AskedFormats
pub mod SameKeys
pub mod Laws
pub mod Printed
pub mod PrintedLaws
pub mod UnitLaws
pub mod LenientUnitLaws
pub mod OldLines
pub mod Serving
pub mod Selection
-- Of the inner crates: books.
pub use Rattle.locale_numbers_book.specs.Allocation as EntryAllocation
pub use Rattle.locale_numbers_book.specs.Book
pub use Rattle.locale_numbers_book.specs.BookAllocation
pub use Rattle.locale_numbers_book.specs.BookError
pub use Rattle.locale_numbers_book.specs.CompactEntries
pub use Rattle.locale_numbers_book.specs.Entries as BookEntries
pub use Rattle.locale_numbers_book.specs.Faults as BookFaults
pub use Rattle.locale_numbers_book.specs.Fields as BookFields
pub use Rattle.locale_numbers_book.specs.Form as BookForm
pub use Rattle.locale_numbers_book.specs.FoundFormats
pub use Rattle.locale_numbers_book.specs.FoundLocale
pub use Rattle.locale_numbers_book.specs.FoundRules
pub use Rattle.locale_numbers_book.specs.Json
pub use Rattle.locale_numbers_book.specs.Keys as BookKeys
pub use Rattle.locale_numbers_book.specs.Laws as BookLaws
pub use Rattle.locale_numbers_book.specs.ParentEntries
pub use Rattle.locale_numbers_book.specs.Parents
pub use Rattle.locale_numbers_book.specs.Refusal as BookRefusal
pub use Rattle.locale_numbers_book.specs.RulesEntries
pub use Rattle.locale_numbers_book.specs.SampleBook
pub use Rattle.locale_numbers_book.specs.SampleUnitsBook
pub use Rattle.locale_numbers_book.specs.Tables
pub use Rattle.locale_numbers_book.specs.TagFormatters
pub use Rattle.locale_numbers_book.specs.TagReading
pub use Rattle.locale_numbers_book.specs.Wanted
-- Of the inner crates: units of books.
pub use Rattle.locale_numbers_book.specs.UnitAllocation
pub use Rattle.locale_numbers_book.specs.Amounts
pub use Rattle.locale_numbers_book.specs.CurrencyDigits
pub use Rattle.locale_numbers_book.specs.CurrencySymbols
pub use Rattle.locale_numbers_book.specs.OwnSymbols
pub use Rattle.locale_numbers_book.specs.Percents
pub use Rattle.locale_numbers_book.specs.UnitFaults
pub use Rattle.locale_numbers_book.specs.UnitFields
pub use Rattle.locale_numbers_book.specs.UnitPatterns
pub use Rattle.locale_numbers_book.specs.Units
-- Of the inner crates: plurals of books.
pub use Rattle.locale_numbers_book.specs.Plurals
pub use Rattle.locale_numbers_book.specs.PluralsForm
pub use Rattle.locale_numbers_book.specs.RangesEntries
-- Of the inner crates: signs of books.
pub use Rattle.locale_numbers_book.specs.NumberSigns
pub use Rattle.locale_numbers_book.specs.SignChoice
pub use Rattle.locale_numbers_book.specs.SignsEntries
-- Of the inner crates: texts of books, and the small book of a tag as a text.
pub use Rattle.locale_numbers_book.specs.BookText
pub use Rattle.locale_numbers_book.specs.EntryFields
pub use Rattle.locale_numbers_book.specs.SelectedText
-- Of the inner crates: what is kept from line to line.
pub use Rattle.locale_numbers_cache.specs.Cached
pub use Rattle.locale_numbers_cache.specs.Laws as CacheLaws
pub use Rattle.locale_numbers_cache.specs.Recent
-- Of the inner crates: what a request line asks, and the words that refuse it.
pub use Rattle.locale_numbers_requests.specs.Cutting
pub use Rattle.locale_numbers_requests.specs.Digits
pub use Rattle.locale_numbers_requests.specs.FormField
pub use Rattle.locale_numbers_requests.specs.Increments
pub use Rattle.locale_numbers_requests.specs.Laws as RequestLaws
pub use Rattle.locale_numbers_requests.specs.OldRequests
pub use Rattle.locale_numbers_requests.specs.RangeEnds
pub use Rattle.locale_numbers_requests.specs.Refusal
pub use Rattle.locale_numbers_requests.specs.Request
pub use Rattle.locale_numbers_requests.specs.RoundingField
pub use Rattle.locale_numbers_requests.specs.UnitWord
-- Of the inner crates: formats, and what numbers of each are written and read with.
pub use Rattle.locale_numbers_formats.specs.AmountRounding
pub use Rattle.locale_numbers_formats.specs.Changed
pub use Rattle.locale_numbers_formats.specs.ExponentWords
pub use Rattle.locale_numbers_formats.specs.IncrementWords
pub use Rattle.locale_numbers_formats.specs.Marks
pub use Rattle.locale_numbers_formats.specs.Rounded
pub use Rattle.locale_numbers_formats.specs.Runs
pub use Rattle.locale_numbers_formats.specs.SkeletonErrors
pub use Rattle.locale_numbers_formats.specs.SkeletonFormats
pub use Rattle.locale_numbers_formats.specs.Skeletons
pub use Rattle.locale_numbers_formats.specs.StemTable
pub use Rattle.locale_numbers_formats.specs.Stems
pub use Rattle.locale_numbers_formats.specs.WordTable
pub use Rattle.locale_numbers_formatter.specs.CompactDigits
pub use Rattle.locale_numbers_formatter.specs.ExactForms
pub use Rattle.locale_numbers_formatter.specs.FormatReading
pub use Rattle.locale_numbers_formatter.specs.FormatText
pub use Rattle.locale_numbers_formatter.specs.FormatTyped
pub use Rattle.locale_numbers_formatter.specs.HeldFormats
pub use Rattle.locale_numbers_formatter.specs.Layers
pub use Rattle.locale_numbers_formatter.specs.ReadingLaws as FormatReadingLaws
pub use Rattle.locale_numbers_formatter.specs.ShownOperands
pub use Rattle.locale_numbers_formatter.specs.TypedPlain
pub use Rattle.locale_numbers_formatter.specs.TypedUnits
-- Of the inner crates: what is answered with what is found, and what the answers go by.
pub use Rattle.locale_numbers_answers.specs.AnswerLine
pub use Rattle.locale_numbers_answers.specs.AnswerMemory
pub use Rattle.locale_numbers_answers.specs.AnswerSink
pub use Rattle.locale_numbers_answers.specs.AnswerSinkLaws
pub use Rattle.locale_numbers_answers.specs.Answers
pub use Rattle.locale_numbers_answers.specs.CategoryAnswer
pub use Rattle.locale_numbers_answers.specs.CompactReading
pub use Rattle.locale_numbers_answers.specs.Laws as AnswerLaws
pub use Rattle.locale_numbers_answers.specs.NumberAnswer
pub use Rattle.locale_numbers_answers.specs.NumberReading
pub use Rattle.locale_numbers_answers.specs.ReadAnswer
pub use Rattle.icu_dimension.specs.UnitReadings
-- Of the inner crates: lines, readers and writers.
pub use Rattle.locale_numbers_lines.specs.ByteIo
pub use Rattle.locale_numbers_lines.specs.Growth
pub use Rattle.locale_numbers_lines.specs.Laws as LineLaws
pub use Rattle.locale_numbers_lines.specs.Lines
pub use Rattle.locale_numbers_lines.specs.Outcomes
pub use Rattle.locale_numbers_lines.specs.Run
pub use Rattle.locale_numbers_lines.specs.Tracking
