-- What the handle of each type has open: of its own kind, where nothing is open to a call of that type else; and of any kind.
-- Defined in docs/c-api.md, "Handles" and "Shared formatters".
-- Cited by each export that takes a handle.
use Rattle.std.specs.Prelude.{Option}
use Rattle.locale_numbers.specs.Book.{BookTables}
use Rattle.legumeyet_c.specs.HeldFormats.{HeldFormat}
use Rattle.legumeyet_c.specs.Kinds.{answers_in, book_in, format_in}
use Rattle.legumeyet_c.specs.declared.content.Content.{Content}
use Rattle.legumeyet_c.specs.declared.handles.AnswersHandle.{AnswersHandle}
use Rattle.legumeyet_c.specs.declared.handles.BookHandle.{BookHandle}
use Rattle.legumeyet_c.specs.declared.handles.FormatterHandle.{FormatterHandle}
use Rattle.legumeyet_c.specs.declared.shared_handles.SharedFormatterHandle.{SharedFormatterHandle}

abbrev pub book_open : BookHandle → Option BookTables
book_open handle = book_in handle.handle.pointer.value

abbrev pub format_open : FormatterHandle → Option HeldFormat
format_open handle = format_in handle.handle.pointer.value

abbrev pub answers_open : AnswersHandle → Option BookTables
answers_open handle = answers_in handle.handle.pointer.value

abbrev pub shared_format_open : SharedFormatterHandle → Option HeldFormat
shared_format_open shared = format_in shared.handle.lent.value

-- ---- of any kind

abbrev pub book_content : BookHandle → Option Content
book_content handle = handle.handle.pointer.value

abbrev pub format_content : FormatterHandle → Option Content
format_content handle = handle.handle.pointer.value

abbrev pub answers_content : AnswersHandle → Option Content
answers_content handle = handle.handle.pointer.value

abbrev pub shared_format_content : SharedFormatterHandle → Option Content
shared_format_content shared = shared.handle.lent.value
