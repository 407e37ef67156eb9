-- Lines of numbers are answered without units, and those that ask for no more of plurals than cardinal rules without more: `specs/Selection.antt`.
use Rattle.std.proofs.Common.{◌≡◌, ℕ, false, List, Option, Some, None, Result, Ok, Err, refl, sym, ap, ap₂, ◌∙◌}
use Rattle.std.specs.Prelude.{option_map}
use Rattle.icu_decimal.specs.Rules.{Rules}
use Rattle.icu_decimal.specs.declared.error.DataError.{DataError}
use Rattle.icu_decimal.specs.declared.options.GroupingStrategy.{GroupingStrategy}
use Rattle.icu_locale_core.specs.TagPreferences.{Preferences, language_priority}
use Rattle.icu_plurals.specs.declared.PluralRange.{PluralRange}
use Rattle.icu_plurals.specs.declared.PluralRuleType.{PluralRuleType}
use Rattle.icu_plurals.specs.declared.PluralRuleType.TheVariants.{Cardinal, Ordinal}
use Rattle.locale_numbers_answers.specs.Answers.{answer_by}
use Rattle.locale_numbers_answers.specs.CategoryAnswer.{category_to}
use Rattle.locale_numbers_answers.specs.NumberReading.{Reading, beyond, nothing, number, reading_of}
use Rattle.locale_numbers_book.specs.Book.{BookTables}
use Rattle.locale_numbers_book.specs.FoundFormats.{in_latin, notation_found}
use Rattle.locale_numbers_book.specs.FoundRules.{cardinals_for, ranges_for}
use Rattle.locale_numbers_book.specs.Wanted.{wanted_of}
use Rattle.locale_numbers_formats.specs.declared.CompactWidth.TheVariants.{Short, Long}
use Rattle.locale_numbers_formats.specs.declared.Notation.{Notation}
use Rattle.locale_numbers_formats.specs.declared.Notation.TheVariants.{Standard, Compact, CompactDigits, Scientific}
use Rattle.locale_numbers_formats.specs.declared.NumberFormat.{NumberFormat}
use Rattle.locale_numbers_formats.specs.declared.NumberOptions.{NumberOptions}
use Rattle.locale_numbers_formats.specs.declared.NumberUnit.{NumberUnit}
use Rattle.locale_numbers_formats.specs.declared.NumberUnit.TheVariants as unit
use Rattle.locale_numbers_formatter.specs.FormatText.{FormatTables}
use Rattle.locale_numbers_requests.specs.Request.{Asked, request_of}
use Rattle.locale_numbers_requests.specs.declared.Task.{Task}
use Rattle.locale_numbers_requests.specs.declared.Task.TheVariants.{Write, WriteExact, Read, ReadLenient, Category, RangeCategory}
use Rattle.locale_numbers.specs.Answer.{answer_asked, answer_of, answer_tagged, found_for, plural_rules_for, second_for}
use Rattle.locale_numbers.specs.Selection.{asks_plurals, asks_units}
use Rattle.locale_numbers.specs.WithoutUnits.{without_units}
use Rattle.locale_numbers.proofs.SecondLemmas.{second_same}

-- rules with ranges of a type
abbrev Ruled : Type 0
Ruled = Option (Rules × List PluralRange)

-- the category of a number goes by the rules alone
ranges_apart : (found : Result FormatTables DataError) (rules : Option Rules) (one other : List PluralRange) (options : NumberOptions) (reading : Reading)
    → category_to found (option_map (λ r. (r, one)) rules) options reading ≡ category_to found (option_map (λ r. (r, other)) rules) options reading
ranges_apart found rules one other options nothing = refl
ranges_apart found rules one other options beyond = refl
ranges_apart (Err error) rules one other options (number value) = refl
ranges_apart (Ok f) None one other options (number value) = refl
ranges_apart (Ok f) (Some r) one other options (number value) = refl

module _ (book : BookTables) where
  found_alone : (notation : Notation) (of : NumberUnit) (p : Preferences) (grouping : GroupingStrategy) → asks_units of ≡ false
      → notation_found notation of (without_units book) p grouping ≡ notation_found notation of book p grouping
  found_alone Standard unit.None p grouping h = refl
  found_alone (Compact Short) unit.None p grouping h = refl
  found_alone (Compact Long) unit.None p grouping h = refl
  found_alone (CompactDigits Short options) unit.None p grouping h = refl
  found_alone (CompactDigits Long options) unit.None p grouping h = refl
  found_alone (Scientific style options) unit.None p grouping h = refl
  found_alone _ _ p grouping h = absurd (cc)

  abbrev rules_of : BookTables → Preferences → PluralRuleType → Ruled
  rules_of tables p rule_type = plural_rules_for rule_type tables p

  -- only cardinal rules are the same without the rest
  rules_alone : (task : Task) (format : NumberFormat) (p : Preferences) (found : Result FormatTables DataError) (second : FormatTables → Option FormatTables) (text : List ℕ) → asks_plurals task ≡ false
      → answer_by task format found second (rules_of (without_units book) p) text ≡ answer_by task format found second (rules_of book p) text
  rules_alone Write format p found second text h = refl
  rules_alone WriteExact format p found second text h = refl
  rules_alone Read format p found second text h = refl
  rules_alone ReadLenient format p found second text h = refl
  rules_alone (Category Cardinal) format p found second text h =
      ranges_apart found (cardinals_for book (language_priority p.locale)) (ranges_for (without_units book) (language_priority p.locale)) (ranges_for book (language_priority p.locale)) format.options (reading_of text)
  rules_alone (Category Ordinal) format p found second text h = absurd (cc)
  rules_alone RangeCategory format p found second text h = absurd (cc)

  by_tag : (asked : Asked) (m : Option Preferences) → asks_units asked.format.shape.unit ≡ false → asks_plurals asked.task ≡ false → answer_tagged (without_units book) m asked ≡ answer_tagged book m asked
  by_tag asked None h none = refl
  by_tag asked (Some p) h none =
      let shape = asked.format.shape in
      let alone = found_alone shape.notation shape.unit in
      let second = second_same (without_units book) book p p shape refl (alone (in_latin p) shape.grouping h) in
      ap₂ (λ found beside. answer_by asked.task asked.format found beside (rules_of (without_units book) p) asked.text) (alone p shape.grouping h) second
      ∙ rules_alone asked.task asked.format p (found_for shape book p) (second_for shape book p) asked.text none

pub numbers_alone : (book : BookTables) (line : List ℕ) (asked : Asked) → request_of line ≡ Some asked → asks_units asked.format.shape.unit ≡ false → asks_plurals asked.task ≡ false
    → answer_of (without_units book) line ≡ answer_of book line
numbers_alone book line asked is h none =
    ap (answer_asked (without_units book)) is ∙ by_tag book asked (wanted_of asked.tag) h none ∙ sym (ap (answer_asked book) is)
