-- The locales that words are asked for under: those of a chain but `und`, and `und` after them only where the words have a name pattern under one
-- of them, so that root's words are never those of a language which the words do not have.
-- Defined in docs/words.md, "Words of a tag".
-- Cited by `word_locales`, and by TagWords.antt.
use Rattle.std.specs.Prelude.{Bool, not, filter, List, [], ◌∷◌, ◌++◌, is_some, if◌then◌else◌}
use Rattle.icu_locale_core.specs.DataLocales.{unknown_data}
use Rattle.icu_locale_core.specs.TagPreferences.{DataLocaleMeaning, Preferences, language_priority}
use Rattle.locale_numbers_book.specs.Book.{BookTables}
use Rattle.locale_numbers_book.specs.Tables.{chain_in}
use Rattle.locale_numbers_book.specs.Keys.{same_data_locale}
use Rattle.locale_numbers_words.specs.FoundWords.{patterns_for}
use Rattle.locale_numbers_words.specs.Words.{WordsTables}

abbrev pub is_no_root : DataLocaleMeaning → Bool
is_no_root locale = not (same_data_locale locale unknown_data)

-- the first locale of a chain, and the others but `und`
abbrev pub own_of : List DataLocaleMeaning → List DataLocaleMeaning
own_of [] = []
own_of (first ∷ rest) = first ∷ filter is_no_root rest

abbrev pub own_locales : BookTables → Preferences → List DataLocaleMeaning
own_locales book preferences = own_of (chain_in book (language_priority preferences.locale))

-- root's words are beside those of a language that has a name pattern
abbrev pub with_root : WordsTables → List DataLocaleMeaning → List DataLocaleMeaning
with_root words own = if is_some (patterns_for words own) then own ++ unknown_data ∷ [] else own

abbrev pub asked_locales : WordsTables → BookTables → Preferences → List DataLocaleMeaning
asked_locales words book preferences = with_root words (own_locales book preferences)
