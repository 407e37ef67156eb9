-- The rules of a language, and the category that they give a number.
-- UTS 35, part 3 (numbers), section 5 (language plural rules); docs/plurals.md, "Categories".
-- Cited by `category_for` and by `try_clone` of `PluralRules`.
use Rattle.std.specs.Prelude.{Bool, false, cond, Option, None, Some}
use Rattle.icu_decimal_plurals.specs.declared.category.PluralCategory.{PluralCategory}
use Rattle.icu_decimal_plurals.specs.Operands.{Operands}
use Rattle.icu_decimal_plurals.specs.Conditions.{ConditionData, condition_holds}

-- a condition for each category but `other`, or none
pub record Rules : Type 0 where
  pub zero : Option ConditionData
  pub one : Option ConditionData
  pub two : Option ConditionData
  pub few : Option ConditionData
  pub many : Option ConditionData

-- every number is of `other`
abbrev pub no_rules : Rules
no_rules = record { zero = None; one = None; two = None; few = None; many = None }

-- there is a condition, and it holds
abbrev pub is_met : Operands → Option ConditionData → Bool
is_met o None = false
is_met o (Some condition) = condition_holds o condition

-- the first category whose condition is met, or else `other`
abbrev pub category_of : Rules → Operands → PluralCategory
category_of rules o =
    cond (is_met o rules.zero) PluralCategory.Zero
    (cond (is_met o rules.one) PluralCategory.One
    (cond (is_met o rules.two) PluralCategory.Two
    (cond (is_met o rules.few) PluralCategory.Few
    (cond (is_met o rules.many) PluralCategory.Many PluralCategory.Other))))
