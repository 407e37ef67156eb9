-- The categories that rules have: `specs/ListedRules.antt` and `specs/HeldCategories.antt`.
use Rattle.std.proofs.Common.{◌≡◌, true, List, [], ◌∷◌, ◌++◌, map, Option, None, Some, is_some, refl}
use Rattle.icu_decimal_plurals.specs.declared.category.PluralCategory.{PluralCategory}
use Rattle.icu_decimal_plurals.specs.declared.category.PluralCategory.TheVariants.{Zero, One, Two, Few, Many, Other}
use Rattle.icu_decimal_plurals.specs.Conditions.{ConditionData}
use Rattle.icu_decimal_plurals.specs.Rules.{Rules}
use Rattle.icu_decimal_plurals.specs.HeldCategories.{held, if_there}
use Rattle.icu_decimal_plurals.specs.ListedRules.{Conditioned, categories_of, with_condition}

-- the conditions from a category on
abbrev pub from_many : Rules → List Conditioned
from_many rules = with_condition Many rules.many

abbrev pub from_few : Rules → List Conditioned
from_few rules = with_condition Few rules.few ++ from_many rules

abbrev pub from_two : Rules → List Conditioned
from_two rules = with_condition Two rules.two ++ from_few rules

abbrev pub from_one : Rules → List Conditioned
from_one rules = with_condition One rules.one ++ from_two rules

-- their categories, and `other`
abbrev pub names : List Conditioned → List PluralCategory
names list = map (λ pair. pair.0) list ++ Other ∷ []

step : (found : Option ConditionData) (category : PluralCategory) (rest : List Conditioned)
    → names (with_condition category found ++ rest) ≡ if_there (is_some found) category (names rest)
step None category rest = refl
step (Some condition) category rest = refl

last : (found : Option ConditionData) (category : PluralCategory) → names (with_condition category found) ≡ if_there (is_some found) category (Other ∷ [])
last None category = refl
last (Some condition) category = refl

pub held_of : (rules : Rules) → held (is_some rules.zero) (is_some rules.one) (is_some rules.two) (is_some rules.few) (is_some rules.many) true ≡ categories_of rules
held_of rules = rw (step rules.zero Zero (from_one rules), step rules.one One (from_two rules), step rules.two Two (from_few rules), step rules.few Few (from_many rules), last rules.many Many) refl
