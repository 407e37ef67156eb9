-- What a tag asks a book for: what the tag prefers.
-- UTS 35, section 3.6; docs/preferences.md, "What a locale prefers"; docs/books.md, "Tags".
-- Cited by `read_preferences`, and by the makers of formatters, `answer` and `run` through TagFormatters.antt and Answer.antt of `locale_numbers`.
use Rattle.std.specs.Prelude.{Option, option_map}
use Rattle.icu_locale_core.specs.Subtags.{Text}
use Rattle.icu_locale_core.specs.Pieces.{pieces}
use Rattle.icu_locale_core.specs.TagPreferences.{Preferences, preferences_of}
use Rattle.locale_numbers_tables.specs.TagReading.{tag_of}

-- the preferences of a text, where it is a tag
abbrev pub wanted_of : Text → Option Preferences
wanted_of text = option_map preferences_of (tag_of (pieces text))
