-- The small book of preferences: the entries of the locales of a chain and of the systems asked for, and the parents along it; of units,
-- plurals and signs those of `und` too.
-- Defined in docs/books.md, "The small book of a tag".
-- Cited by `laws::selected_books_answer_alike`, `laws::selected_books_find_alike`, `laws::selected_books_have_the_formatters`, `laws::selected_parents_are_parents` and
-- `laws::numbers_need_no_units`.
-- It picks entries of each table of a book, and imports the types of all.
use Rattle.std.specs.Prelude.{◌≡◌, ℕ, Bool, true, false, ◌&&◌, List, [], ◌∷◌, ◌++◌, codes, filter, map, Option, None, Some, IfSome, option_map, option_to_list}
use Rattle.std.specs.List.{list_any}
use Rattle.std.specs.Str.{bytes_eq}
use Rattle.serde_json.specs.Data.{Data}
use Rattle.icu_decimal.specs.Identifiers.{Identifier}
use Rattle.icu_decimal.specs.Symbols.{Symbols}
use Rattle.icu_locale_core.specs.Subtags.{Text}
use Rattle.icu_locale_core.specs.TagPreferences.{DataLocaleMeaning, Preferences, language_priority}
use Rattle.icu_plurals.specs.declared.PluralRuleType.{PluralRuleType}
use Rattle.icu_plurals.specs.declared.PluralRuleType.TheVariants as rule
use Rattle.locale_numbers.specs.Answer.{answer_of}
use Rattle.locale_numbers_book.specs.Book.{BookTables, IsBook}
use Rattle.locale_numbers_book.specs.FoundFormats.{formats_for}
use Rattle.locale_numbers_book.specs.FoundLocale.{locale_for}
use Rattle.locale_numbers_book.specs.Tables.{chain_in}
use Rattle.locale_numbers_book.specs.Wanted.{wanted_of}
use Rattle.locale_numbers_book.specs.Parents.{Entry, IsParents, listed_parent}
use Rattle.locale_numbers_requests.specs.Request.{Asked, request_of}
use Rattle.locale_numbers_requests.specs.declared.Task.{Task}
use Rattle.locale_numbers_requests.specs.declared.Task.TheVariants.{Write, WriteExact, Read, ReadLenient, Category, RangeCategory}
use Rattle.locale_numbers_book.specs.Keys.{same_data_locale}
use Rattle.locale_numbers_book.specs.FoundRules.{chain_with_unknown, plural_rules_of}
use Rattle.locale_numbers_book.specs.Units.{UnitsTables}
use Rattle.locale_numbers_plurals.specs.Plurals.{PluralTables}
use Rattle.locale_numbers.specs.Serving.{unit_locales_in}
use Rattle.locale_numbers.specs.WithoutUnits.{without_units}
use Rattle.locale_numbers_formats.specs.declared.NumberShape.{NumberShape}
use Rattle.locale_numbers_formats.specs.declared.NumberUnit.{NumberUnit}
use Rattle.locale_numbers_formats.specs.declared.NumberUnit.TheVariants as unit

abbrev pub is_among : List DataLocaleMeaning → DataLocaleMeaning → Bool
is_among locales x = list_any (λ l. same_data_locale l x) locales

-- the entries of these locales
abbrev pub kept_under : {T : Type 0} → List DataLocaleMeaning → List (Identifier × T) → List (Identifier × T)
kept_under locales entries = filter (λ pair. is_among locales pair.0.locale) entries

-- the systems that are asked for: none, that of the preferences, and `latn`, by lenient lines
abbrev pub systems_of : Option Text → List Text
systems_of system = [] ∷ codes "latn" ∷ option_to_list system

abbrev pub is_text_among : List Text → Text → Bool
is_text_among texts x = list_any (λ t. bytes_eq t x) texts

-- the entries of these locales and these systems
abbrev pub is_asked : List DataLocaleMeaning → List Text → Identifier → Bool
is_asked locales systems id = is_among locales id.locale && is_text_among systems id.attributes

abbrev pub kept_named : {T : Type 0} → List DataLocaleMeaning → List Text → List (Identifier × T) → List (Identifier × T)
kept_named locales systems entries = filter (λ pair. is_asked locales systems pair.0) entries

-- the digits of these systems, and those that these symbols name
abbrev pub named_by : List (Identifier × Symbols) → List Text
named_by symbols = map (λ pair. pair.1.strings.numsys) symbols

abbrev pub kept_digits : List Text → List (Identifier × Symbols) → List (Text × List ℕ) → List (Text × List ℕ)
kept_digits systems symbols digits = filter (λ pair. is_text_among (systems ++ named_by symbols) pair.0) digits

abbrev pub kept_of : {T : Type 0} → List DataLocaleMeaning → List (DataLocaleMeaning × T) → List (DataLocaleMeaning × T)
kept_of locales entries = filter (λ pair. is_among locales pair.0) entries

-- the step of a locale, where one is listed
abbrev pub own_step : DataLocaleMeaning → Option DataLocaleMeaning → List Entry
own_step locale None = []
own_step locale (Some parent) = (locale, parent) ∷ []

-- the listed steps along a chain, from its end to its front
abbrev pub steps_along : List Entry → List DataLocaleMeaning → List Entry
steps_along entries [] = []
steps_along entries (x ∷ xs) = steps_along entries xs ++ own_step x (listed_parent entries x)

abbrev pub selected_units : List DataLocaleMeaning → List Text → UnitsTables → UnitsTables
selected_units locales systems units = record {
  percents = kept_named locales systems units.percents;
  currencies = kept_under locales units.currencies;
  accounts = kept_named locales systems units.accounts;
  symbols = kept_under locales units.symbols;
  digits = units.digits;
}

abbrev pub selected_plurals : List DataLocaleMeaning → PluralTables → PluralTables
selected_plurals locales plurals = record {
  ordinals = kept_of locales plurals.ordinals;
  ranges = kept_of locales plurals.ranges;
}

abbrev pub selected : BookTables → Preferences → BookTables
selected whole p = record {
  symbols = kept_named (chain_in whole (language_priority p.locale)) (systems_of p.numbering_system) whole.symbols;
  digits = kept_digits (systems_of p.numbering_system) (kept_named (chain_in whole (language_priority p.locale)) (systems_of p.numbering_system) whole.symbols) whole.digits;
  rules = kept_of (chain_in whole (language_priority p.locale)) whole.rules;
  short = kept_named (chain_in whole (language_priority p.locale)) (systems_of p.numbering_system) whole.short;
  long = kept_named (chain_in whole (language_priority p.locale)) (systems_of p.numbering_system) whole.long;
  parents = option_map (λ entries. steps_along entries (chain_in whole (language_priority p.locale))) whole.parents;
  units = option_map (selected_units (unit_locales_in whole p) (systems_of p.numbering_system)) whole.units;
  plurals = option_map (selected_plurals (chain_with_unknown whole (language_priority p.locale))) whole.plurals;
  signs = kept_named (unit_locales_in whole p) (systems_of p.numbering_system) whole.signs;
}

abbrev pub SelectedBooksAnswerAlike : Type 0
SelectedBooksAnswerAlike = (value : Data) (whole : BookTables) → IsBook value whole → (line : List ℕ) (asked : Asked) (p : Preferences)
    → request_of line ≡ Some asked → wanted_of asked.tag ≡ Some p → answer_of (selected whole p) line ≡ answer_of whole line

abbrev pub SelectedBooksFindAlike : Type 0
SelectedBooksFindAlike = (value : Data) (whole : BookTables) → IsBook value whole → (tag : Text) (p : Preferences)
    → wanted_of tag ≡ Some p → locale_for (selected whole p) tag ≡ locale_for whole tag

-- what numbers of each shape are written with for the tag, the second tables too, and its plural rules are those of the whole
abbrev pub SelectedBooksHaveTheFormatters : Type 0
SelectedBooksHaveTheFormatters = (value : Data) (whole : BookTables) → IsBook value whole → (tag : Text) (p : Preferences) → wanted_of tag ≡ Some p
    → ((shape : NumberShape) → formats_for (selected whole p) tag shape ≡ formats_for whole tag shape)
    × ((rule_type : PluralRuleType) → plural_rules_of (selected whole p) tag rule_type ≡ plural_rules_of whole tag rule_type)

-- the parents along the chain, from its end to its front, are parents: none is twice, and none closes a cycle
abbrev pub SelectedParentsAreParents : Type 0
SelectedParentsAreParents = (value : Data) (whole : BookTables) → IsBook value whole → (p : Preferences) → IfSome (selected whole p).parents IsParents

-- ---- numbers

-- whether a request asks for units
abbrev pub asks_units : NumberUnit → Bool
asks_units unit.None = false
asks_units (unit.Percent sign) = true
asks_units (unit.Currency currency) = true

-- whether a task asks for what a book has of plurals beside cardinal rules
abbrev pub asks_plurals : Task → Bool
asks_plurals Write = false
asks_plurals WriteExact = false
asks_plurals Read = false
asks_plurals ReadLenient = false
asks_plurals (Category rule.Cardinal) = false
asks_plurals (Category rule.Ordinal) = true
asks_plurals RangeCategory = true

-- lines of others are answered without them
abbrev pub NumbersNeedNoUnits : Type 0
NumbersNeedNoUnits = (book : BookTables) (line : List ℕ) (asked : Asked) → request_of line ≡ Some asked
    → asks_units asked.format.shape.unit ≡ false → asks_plurals asked.task ≡ false
    → answer_of (without_units book) line ≡ answer_of book line
