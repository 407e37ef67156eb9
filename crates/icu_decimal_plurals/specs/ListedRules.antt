-- The conditions of rules in the order in which they are tried, and the categories that numbers may have.
-- UTS 35, part 3 (numbers), section 5 (language plural rules); docs/plurals.md, "The categories of rules".
-- Cited by `categories` of `PluralRules`, and by the laws.
use Rattle.std.specs.Prelude.{List, [], ◌∷◌, ◌++◌, map, Option, None, Some}
use Rattle.icu_decimal_plurals.specs.declared.category.PluralCategory.{PluralCategory}
use Rattle.icu_decimal_plurals.specs.declared.category.PluralCategory.TheVariants.{Zero, One, Two, Few, Many, Other}
use Rattle.icu_decimal_plurals.specs.Conditions.{ConditionData}
use Rattle.icu_decimal_plurals.specs.Rules.{Rules}

-- a category and its condition
abbrev pub Conditioned : Type 0
Conditioned = PluralCategory × ConditionData

-- a category with its condition, where it has one
abbrev pub with_condition : PluralCategory → Option ConditionData → List Conditioned
with_condition category None = []
with_condition category (Some condition) = (category, condition) ∷ []

-- the conditions of rules, in the order in which they are tried
abbrev pub listed : Rules → List Conditioned
listed rules =
    with_condition Zero rules.zero
    ++ (with_condition One rules.one
    ++ (with_condition Two rules.two
    ++ (with_condition Few rules.few
    ++ with_condition Many rules.many)))

-- the categories that have a condition, in this order, and `other`
abbrev pub categories_of : Rules → List PluralCategory
categories_of rules = map (λ pair. pair.0) (listed rules) ++ Other ∷ []
