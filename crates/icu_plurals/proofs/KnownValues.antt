-- Values from outside that a wrong definition does not survive: rules and ranges of CLDR.
use Rattle.std.proofs.Common.{◌≡◌, ℕ, List, [], ◌∷◌, Option, Some, refl, codes, option_map}
use Rattle.icu_decimal_plurals.specs.declared.category.PluralCategory.{PluralCategory}
use Rattle.icu_decimal_plurals.specs.declared.category.PluralCategory.TheVariants.{Zero, One, Two, Few, Many, Other}
use Rattle.icu_decimal_plurals.specs.Reading.{rules_of}
use Rattle.icu_plurals.specs.declared.ranges.PluralRange.{PluralRange}
use Rattle.icu_decimal_plurals.specs.ListedRules.{categories_of}
use Rattle.icu_plurals.specs.Ranges.{range_category}

abbrev had_by : List (PluralCategory × List ℕ) → Option (List PluralCategory)
had_by given = option_map (λ rules. categories_of rules) (rules_of given)

english : had_by ((One, codes "i = 1 and v = 0") ∷ []) ≡ Some (One ∷ Other ∷ [])
english = refl

english_ordinal : had_by ((One, codes "n % 10 = 1 and n % 100 != 11") ∷ (Two, codes "n % 10 = 2 and n % 100 != 12") ∷ (Few, codes "n % 10 = 3 and n % 100 != 13") ∷ [])
    ≡ Some (One ∷ Two ∷ Few ∷ Other ∷ [])
english_ordinal = refl

-- in whatever order they are given
latvian : had_by ((Other, []) ∷ (One, codes "n % 10 = 1") ∷ (Zero, codes "n % 10 = 0") ∷ []) ≡ Some (Zero ∷ One ∷ Other ∷ [])
latvian = refl

japanese : had_by [] ≡ Some (Other ∷ [])
japanese = refl

-- ---- ranges: in English 0 to 1 is of `other`, in Slovenian 1 to 2 is of `two`

abbrev range_of : PluralCategory → PluralCategory → PluralCategory → PluralRange
range_of start end result = record { start = start; end = end; result = result }

zero_to_one : range_category (range_of Other One Other ∷ []) Other One ≡ Other
zero_to_one = refl

one_to_two : range_category [] One Two ≡ Two
one_to_two = refl

first_counts : range_category (range_of One One Few ∷ range_of One One Many ∷ []) One One ≡ Few
first_counts = refl
