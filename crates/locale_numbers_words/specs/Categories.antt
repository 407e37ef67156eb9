-- A value for each plural category, and the slots that say it.
-- Defined in docs/words.md, "Tables of words"; UTS 35, part 3 (numbers), language plural rules.
-- Cited by the calls of `ByCategory`, and by the reading of each array of words.
use Rattle.std.specs.Prelude.{Bool, true, ◌&&◌, List, Option, None, Some, option_and_then, option_map, unwrap_or, if◌then◌else◌}
use Rattle.std.specs.Option.{option_map_or}
use Rattle.serde_json.specs.Data.{Data}
use Rattle.serde_json.specs.Find.{as_array}
use Rattle.icu_decimal.specs.declared.plurals.PluralCategory.{PluralCategory}
use Rattle.icu_decimal.specs.declared.plurals.PluralCategory.TheVariants.{Zero, One, Two, Few, Many, Other}
use Rattle.icu_decimal.specs.Reading.{is_same}
use Rattle.locale_numbers_tables.specs.Entries.{field_at, has_count}
use Rattle.locale_numbers_tables.specs.Keys.{table_at, table_in}
use Rattle.locale_numbers_tables.specs.RulesEntries.{category_in}

-- a value of `other`, which is always there, and those that the other categories have
pub record Values (T : Type 0) : Type 0 where
  pub zero : Option T
  pub one : Option T
  pub two : Option T
  pub few : Option T
  pub many : Option T
  pub other : T

-- the same, where `other` may lack
pub record Slots (T : Type 0) : Type 0 where
  pub zero : Option T
  pub one : Option T
  pub two : Option T
  pub few : Option T
  pub many : Option T
  pub other : Option T

module _ {T : Type 0} where
  -- the value that a category has of its own
  abbrev pub own_value : Values T → PluralCategory → Option T
  own_value v Zero = v.zero
  own_value v One = v.one
  own_value v Two = v.two
  own_value v Few = v.few
  own_value v Many = v.many
  own_value v Other = Some v.other

  -- that value, or the one of `other`
  abbrev pub of_category : Values T → PluralCategory → T
  of_category v category = unwrap_or (own_value v category) v.other

  abbrev pub only : T → Values T
  only other = record { zero = None; one = None; two = None; few = None; many = None; other = other }

  -- the test holds of each value
  abbrev pub holds_of_all : (T → Bool) → Values T → Bool
  holds_of_all test v =
      option_map_or test v.zero true && (option_map_or test v.one true && (option_map_or test v.two true
      && (option_map_or test v.few true && (option_map_or test v.many true && test v.other))))

  -- ---- slots

  -- two fields: a category, and its value
  abbrev pub slot_in : (PluralCategory → Data → Option T) → Data → Option (PluralCategory × T)
  slot_in read slot =
      if has_count 2 slot
      then option_and_then (λ category. option_map (λ value. (category, value)) (field_at (read category) 1 slot)) (field_at category_in 0 slot)
      else None

  -- the slot of a category
  abbrev pub slot_at : Slots T → PluralCategory → Option T
  slot_at s Zero = s.zero
  slot_at s One = s.one
  slot_at s Two = s.two
  slot_at s Few = s.few
  slot_at s Many = s.many
  slot_at s Other = s.other

  abbrev pub no_slots : Slots T
  no_slots = record { zero = None; one = None; two = None; few = None; many = None; other = None }

  -- these with this value in the slot of a category
  abbrev pub with_slot : Slots T → PluralCategory → T → Slots T
  with_slot s Zero x = record { zero = Some x; one = s.one; two = s.two; few = s.few; many = s.many; other = s.other }
  with_slot s One x = record { zero = s.zero; one = Some x; two = s.two; few = s.few; many = s.many; other = s.other }
  with_slot s Two x = record { zero = s.zero; one = s.one; two = Some x; few = s.few; many = s.many; other = s.other }
  with_slot s Few x = record { zero = s.zero; one = s.one; two = s.two; few = Some x; many = s.many; other = s.other }
  with_slot s Many x = record { zero = s.zero; one = s.one; two = s.two; few = s.few; many = Some x; other = s.other }
  with_slot s Other x = record { zero = s.zero; one = s.one; two = s.two; few = s.few; many = s.many; other = Some x }

  -- what these say of each category
  abbrev pub slots_of : List (PluralCategory × T) → Slots T
  slots_of pairs = record {
    zero = table_at is_same Zero pairs;
    one = table_at is_same One pairs;
    two = table_at is_same Two pairs;
    few = table_at is_same Few pairs;
    many = table_at is_same Many pairs;
    other = table_at is_same Other pairs;
  }

  -- where `other` is among them
  abbrev pub whole : Slots T → Option (Values T)
  whole s = option_map (λ other. record { zero = s.zero; one = s.one; two = s.two; few = s.few; many = s.many; other = other }) s.other

  -- an array of slots, with no category twice, and with `other`
  abbrev pub values_in : (PluralCategory → Data → Option T) → Data → Option (Values T)
  values_in read field =
      option_and_then whole (option_and_then (λ items. option_map slots_of (table_in is_same (slot_in read) items)) (as_array field))
