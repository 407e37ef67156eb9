-- The patterns of a type of compact amounts: a slot for `other` and for each category that has others, or none.
-- Defined in crates/locale_numbers_compact_amounts/README.md, "Entries"; patterns in docs/books.md, "Units".
-- Cited by the reading of an entry.
use Rattle.std.specs.Prelude.{ℕ, suc, ◌==◌, Bool, ◌&&◌, ◌||◌, nat_le, Option, None, Some, option_and_then, option_map, if◌then◌else◌}
use Rattle.serde_json.specs.Data.{Data, Items, no_items, item}
use Rattle.serde_json.specs.Find.{as_array}
use Rattle.icu_decimal.specs.declared.plurals.PluralCategory.{PluralCategory}
use Rattle.icu_decimal.specs.declared.plurals.PluralCategory.TheVariants.{Zero, One, Two, Few, Many, Other}
use Rattle.icu_decimal.specs.Elements.{Elements, only_other, with_zero, with_one, with_two, with_few, with_many}
use Rattle.icu_dimension.specs.UnitPatterns.{PatternChoice, PatternTexts}
use Rattle.icu_dimension_compact.specs.AmountTables.{AmountPatterns}
use Rattle.locale_numbers_tables.specs.Entries.{field_at, has_count}
use Rattle.locale_numbers_tables.specs.RulesEntries.{category_in}
use Rattle.locale_numbers_units.specs.Fields.{has_at}
use Rattle.locale_numbers_units.specs.Patterns.{or_null, pattern_in, pattern_or_null_in}

-- ---- a slot

abbrev pub choice_with : PatternTexts → Option PatternTexts → PatternChoice
choice_with standard beside = record { standard = standard; alpha_next_to_number = beside }

-- two items or six
abbrev pub has_two_or_six : Data → Bool
has_two_or_six pattern = has_count 2 pattern || has_count 6 pattern

abbrev pub has_pattern_counts : Data → Bool
has_pattern_counts slot = has_at has_two_or_six 1 slot && has_at (or_null has_two_or_six) 2 slot

-- places 1 and 2: a pattern, and the one beside a letter or null
abbrev pub choice_in : Data → Option PatternChoice
choice_in slot =
    if has_pattern_counts slot
    then option_and_then (λ standard. option_map (choice_with standard) (field_at pattern_or_null_in 2 slot)) (field_at pattern_in 1 slot)
    else None

abbrev pub slot_with : PluralCategory → PatternChoice → PluralCategory × PatternChoice
slot_with category patterns = (category, patterns)

-- three fields, of which the first is a category
abbrev pub slot_in : Data → Option (PluralCategory × PatternChoice)
slot_in slot =
    if has_count 3 slot
    then option_and_then (λ category. option_map (slot_with category) (choice_in slot)) (field_at category_in 0 slot)
    else None

-- ---- slots in their order

-- the order of categories in slots
abbrev pub rank : PluralCategory → ℕ
rank Other = 0
rank Zero = 1
rank One = 2
rank Two = 3
rank Few = 4
rank Many = 5

-- these with the patterns of another category than `other`
abbrev pub added : Elements PatternChoice → PluralCategory → PatternChoice → Elements PatternChoice
added s Zero x = with_zero s (Some x)
added s One x = with_one s (Some x)
added s Two x = with_two s (Some x)
added s Few x = with_few s (Some x)
added s Many x = with_many s (Some x)
added s Other x = s

-- these with those of slots whose categories rise from this place on
abbrev pub added_from : ℕ → Elements PatternChoice → Items → Option (Elements PatternChoice)
added_from least s no_items = Some s
added_from least s (item d ds) = option_and_then
    (λ (slot : PluralCategory × PatternChoice). if nat_le least (rank slot.0) then added_from (suc (rank slot.0)) (added s slot.0 slot.1) ds else None)
    (slot_in d)

abbrev pub patterns_with : Elements PatternChoice → AmountPatterns
patterns_with s = Some s

-- the first slot is that of `other`; an array without slots says that there are no patterns
abbrev pub patterns_said : Items → Option AmountPatterns
patterns_said no_items = Some None
patterns_said (item d ds) = option_and_then
    (λ (slot : PluralCategory × PatternChoice). if rank slot.0 == 0 then option_map patterns_with (added_from 1 (only_other slot.1) ds) else None)
    (slot_in d)

abbrev pub patterns_in : Data → Option AmountPatterns
patterns_in field = option_and_then patterns_said (as_array field)
