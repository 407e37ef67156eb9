-- The text of the small book of preferences, of entries that are lines: those of the locales that are asked for and of their systems.
-- Defined in docs/books.md, "The small book of a tag".
-- Cited by `book_text_for`, and by the private functions that pick lines.
-- A tag's locale and its chain are those by which a book is asked, and the definition of each is imported.
use Rattle.std.specs.Prelude.{ℕ, ◌+◌, ◌*◌, nat_eq, List, [], ◌∷◌, ◌++◌, codes, map, filter, length, reverse, Option, None, Some, option_map, option_and_then, option_to_list}
use Rattle.std.specs.List.{find, filter_map, starts_with}
use Rattle.std.specs.Option.{option_or}
use Rattle.std.specs.Str.Lines.{lines}
use Rattle.icu_decimal_chains.specs.Chains.{chain}
use Rattle.icu_locale_core.specs.DataLocales.{truncated}
use Rattle.icu_locale_core.specs.DataText.{data_text}
use Rattle.icu_locale_core.specs.Subtags.{Text}
use Rattle.icu_locale_core.specs.TagPreferences.{DataLocaleMeaning, Preferences, language_priority}
use Rattle.locale_numbers_book.specs.Wanted.{wanted_of}
use Rattle.locale_numbers_book.specs.BookText.{Line, book_text}
use Rattle.locale_numbers_book.specs.EntryFields.{asked_fronts, begins, opening, second_field, third_field, under_fronts}
use Rattle.locale_numbers_book.specs.declared.texts.BookTexts.{BookTexts}
use Rattle.locale_numbers_book.specs.declared.texts.MoreTexts.{MoreTexts}
use Rattle.locale_numbers_book.specs.declared.texts.NumberTexts.{NumberTexts}
use Rattle.locale_numbers_book.specs.declared.texts.UnitTexts.{UnitTexts}

-- ---- the locales that are asked for, by the entries of parents

-- the entry of a locale with this text, and of a locale
abbrev pub listed_as : List Line → Text → Option Line
listed_as parents name = find (λ line. starts_with nat_eq line (opening name)) parents

abbrev pub listed : List Line → DataLocaleMeaning → Option Line
listed parents locale = listed_as parents (data_text locale)

-- the locale that a text prefers, and that an entry names as the parent
abbrev pub locale_preferred : Text → Option DataLocaleMeaning
locale_preferred text = option_map (λ preferences. language_priority preferences.locale) (wanted_of text)

abbrev pub parent_named : Line → Option DataLocaleMeaning
parent_named line = option_and_then locale_preferred (second_field line)

-- the locale after one with this entry or none
abbrev pub parent_by : Option Line → DataLocaleMeaning → Option DataLocaleMeaning
parent_by entry locale = option_or (option_and_then parent_named entry) (truncated locale)

-- the step, and with the bound on steps of a book the locales that are asked for
abbrev pub step_by : List Line → DataLocaleMeaning → Option DataLocaleMeaning
step_by parents locale = parent_by (listed parents locale) locale

abbrev pub chain_by : List Line → DataLocaleMeaning → List DataLocaleMeaning
chain_by parents locale = chain (step_by parents) (5 * length parents + 4) locale

-- ---- the arrays

-- no system, `latn`, which lenient lines ask for, and that of the preferences
abbrev pub systems_asked : Option Text → List Text
systems_asked system = [] ∷ codes "latn" ∷ option_to_list system

-- the systems whose digits are asked for: these, and those that entries of symbols name
abbrev pub systems_named : List Text → List Line → List Text
systems_named systems symbols = systems ++ filter_map third_field symbols

-- the entries that begin with a locale that is asked for, or with it and a system, and these parents
abbrev pub selected_numbers : NumberTexts → List (List ℕ) → List (List ℕ) → List Text → List Line → List (List Line)
selected_numbers texts under asked systems parents =
    filter (begins asked) (lines texts.symbols.now)
    ∷ filter (begins (map opening (systems_named systems (filter (begins asked) (lines texts.symbols.now))))) (lines texts.digits.now)
    ∷ filter (begins under) (lines texts.rules.now)
    ∷ filter (begins asked) (lines texts.short.now)
    ∷ filter (begins asked) (lines texts.long.now)
    ∷ parents
    ∷ []

-- of units too, for each currency
abbrev pub selected_units : UnitTexts → List (List ℕ) → List (List ℕ) → List (List Line)
selected_units texts under asked =
    filter (begins asked) (lines texts.percents.now)
    ∷ filter (begins under) (lines texts.currencies.now)
    ∷ filter (begins asked) (lines texts.accounts.now)
    ∷ filter (begins under) (lines texts.symbols.now)
    ∷ lines texts.digits.now
    ∷ []

-- of more: ordinal rules and ranges, and signs
abbrev pub selected_more : MoreTexts → List (List ℕ) → List (List ℕ) → List (List Line)
selected_more texts under asked =
    filter (begins under) (lines texts.ordinals.now)
    ∷ filter (begins under) (lines texts.ranges.now)
    ∷ filter (begins asked) (lines texts.signs.now)
    ∷ []

-- units and more are asked for under `und` too
abbrev pub unknown : List Text
unknown = codes "und" ∷ []

abbrev pub option_selected_units : Option UnitTexts → List (List ℕ) → List (List ℕ) → List Text → Option (List (List Line))
option_selected_units None under asked systems = None
option_selected_units (Some texts) under asked systems = Some (selected_units texts (under ++ under_fronts unknown) (asked ++ asked_fronts unknown systems))

abbrev pub option_selected_more : Option MoreTexts → List (List ℕ) → List (List ℕ) → List Text → Option (List (List Line))
option_selected_more None under asked systems = None
option_selected_more (Some texts) under asked systems = Some (selected_more texts (under ++ under_fronts unknown) (asked ++ asked_fronts unknown systems))

-- the book of the entries that begin so
abbrev pub selected_with : BookTexts → List (List ℕ) → List (List ℕ) → List Text → List Line → List ℕ
selected_with texts under asked systems parents =
    book_text (selected_numbers texts.numbers under asked systems parents) (option_selected_units texts.units under asked systems)
    (option_selected_more texts.more under asked systems)

-- of these locales, systems and parents
abbrev pub selected_by : BookTexts → List Text → List Text → List Line → List ℕ
selected_by texts locales systems parents = selected_with texts (under_fronts locales) (asked_fronts locales systems) systems parents

-- of the locales of a chain: parents stand from its end to its front, so that each of them meets only entries that are there
abbrev pub selected_along : BookTexts → List DataLocaleMeaning → List Text → List ℕ
selected_along texts locales systems =
    selected_by texts (map data_text locales) systems (reverse (filter_map (listed (lines texts.numbers.parents.now)) locales))

-- the small book of preferences
abbrev pub selected_text : BookTexts → Preferences → List ℕ
selected_text texts preferences =
    selected_along texts (chain_by (lines texts.numbers.parents.now) (language_priority preferences.locale)) (systems_asked preferences.numbering_system)
