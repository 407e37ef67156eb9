-- Categories as they are held, by whether each is there.
-- Defined in docs/plurals.md, "The categories of rules".
-- Cited by the view of `PluralCategories`; no clause for callers cites it.
use Rattle.std.specs.Prelude.{Bool, cond, List, [], ◌∷◌}
use Rattle.icu_decimal_plurals.specs.declared.category.PluralCategory.{PluralCategory}
use Rattle.icu_decimal_plurals.specs.declared.category.PluralCategory.TheVariants.{Zero, One, Two, Few, Many, Other}

-- a category before others, where it is there
abbrev pub if_there : Bool → PluralCategory → List PluralCategory → List PluralCategory
if_there is_there category rest = cond is_there (category ∷ rest) rest

abbrev pub held : Bool → Bool → Bool → Bool → Bool → Bool → List PluralCategory
held zero one two few many other =
    if_there zero Zero (if_there one One (if_there two Two (if_there few Few (if_there many Many (if_there other Other [])))))
