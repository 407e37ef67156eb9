-- The words of a number: for each plural category two texts around it, or one text in its place.
-- Defined in docs/words.md, "Words".
-- Cited by the calls of `WordPair`, `PluralWords` and `WordTables`.
use Rattle.std.specs.Prelude.{ℕ, List, Option, None, Some, option_map}
use Rattle.icu_decimal_plurals.specs.declared.category.PluralCategory.{PluralCategory}
use Rattle.icu_decimal_plurals.specs.declared.category.PluralCategory.TheVariants.{Zero, One, Two, Few, Many, Other}

-- the texts before and after a number
pub record Pair : Type 0 where
  pub before : List ℕ
  pub after : List ℕ

-- the words of a category: a pair, or a bare text without the number
pub data Word : Type 0 where
  around : Pair → Word
  bare : List ℕ → Word

-- those of each category, where it has any; a bare text only in the three categories that are named after a number
pub record Words : Type 0 where
  pub zero : Option Word
  pub one : Option Word
  pub two : Option Word
  pub few : Option Pair
  pub many : Option Pair
  pub other : Pair

abbrev pub only_other : Pair → Words
only_other other = record { zero = None; one = None; two = None; few = None; many = None; other = other }

-- the words that a category has of its own
abbrev pub own_word : Words → PluralCategory → Option Word
own_word w Zero = w.zero
own_word w One = w.one
own_word w Two = w.two
own_word w Few = option_map around w.few
own_word w Many = option_map around w.many
own_word w Other = Some (around w.other)

-- ---- these with other words of a category, or none

abbrev pub with_zero : Words → Option Word → Words
with_zero w x = record { zero = x; one = w.one; two = w.two; few = w.few; many = w.many; other = w.other }

abbrev pub with_one : Words → Option Word → Words
with_one w x = record { zero = w.zero; one = x; two = w.two; few = w.few; many = w.many; other = w.other }

abbrev pub with_two : Words → Option Word → Words
with_two w x = record { zero = w.zero; one = w.one; two = x; few = w.few; many = w.many; other = w.other }

abbrev pub with_few : Words → Option Pair → Words
with_few w x = record { zero = w.zero; one = w.one; two = w.two; few = x; many = w.many; other = w.other }

abbrev pub with_many : Words → Option Pair → Words
with_many w x = record { zero = w.zero; one = w.one; two = w.two; few = w.few; many = x; other = w.other }
