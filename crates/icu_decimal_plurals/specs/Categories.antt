-- The words of the plural categories, and the category that a text names.
-- UTS 35, part 3 (numbers), section 5 (language plural rules); docs/plurals.md, "Categories".
-- Cited by the calls between categories and their words.
use Rattle.std.specs.Prelude.{ℕ, List, Option, None, Some, codes, if◌then◌else◌}
use Rattle.std.specs.Str.{bytes_eq}
use Rattle.icu_decimal_plurals.specs.declared.category.PluralCategory.{PluralCategory}
use Rattle.icu_decimal_plurals.specs.declared.category.PluralCategory.TheVariants.{Zero, One, Two, Few, Many, Other}

abbrev pub word : PluralCategory → List ℕ
word Zero = codes "zero"
word One = codes "one"
word Two = codes "two"
word Few = codes "few"
word Many = codes "many"
word Other = codes "other"

-- the category whose word a text is
abbrev pub category_named : List ℕ → Option PluralCategory
category_named text =
    if bytes_eq text (word Zero) then Some Zero
    else if bytes_eq text (word One) then Some One
    else if bytes_eq text (word Two) then Some Two
    else if bytes_eq text (word Few) then Some Few
    else if bytes_eq text (word Many) then Some Many
    else if bytes_eq text (word Other) then Some Other
    else None
