-- The first condition that holds: `specs/Laws.antt`.
use Rattle.std.proofs.Common.{◌≡◌, inl, inr, true, false, cond, List, [], ◌∷◌, ◌++◌, Option, None, Some, Contains, refl, sym, ap, subst, ◌∙◌, arith}
use Rattle.std.proofs.lemmas.Bool.{cond_both, or_from, or_parts}
use Rattle.std.proofs.lemmas.List.Elements.{Contains-append_right}
use Rattle.icu_decimal_plurals.specs.declared.category.PluralCategory.{PluralCategory}
use Rattle.icu_decimal_plurals.specs.declared.category.PluralCategory.TheVariants.{Zero, One, Two, Few, Many, Other}
use Rattle.icu_decimal_plurals.specs.Conditions.{ConditionData, condition_holds}
use Rattle.icu_decimal_plurals.specs.Operands.{Operands}
use Rattle.icu_decimal_plurals.specs.Rules.{Rules, category_of, is_met}
use Rattle.icu_plurals.specs.Laws.{IsCategory, NoneHolds}
use Rattle.icu_decimal_plurals.specs.ListedRules.{Conditioned, categories_of, listed, with_condition}
use Rattle.icu_decimal_plurals.proofs.ListedLemmas.{from_few, from_many, from_one, from_two, names}

abbrev first_of : Operands → List Conditioned → PluralCategory
first_of o [] = Other
first_of o (pair ∷ rest) = cond (condition_holds o pair.1) pair.0 (first_of o rest)

-- ---- the category by rules is the first of the list

step : (o : Operands) (found : Option ConditionData) (category : PluralCategory) (rest : List Conditioned)
    → first_of o (with_condition category found ++ rest) ≡ cond (is_met o found) category (first_of o rest)
step o None category rest = refl
step o (Some condition) category rest = refl

last : (o : Operands) (found : Option ConditionData) (category : PluralCategory) → first_of o (with_condition category found) ≡ cond (is_met o found) category Other
last o None category = refl
last o (Some condition) category = refl

category_first : (rules : Rules) (o : Operands) → first_of o (listed rules) ≡ category_of rules o
category_first rules o = rw (step o rules.zero Zero (from_one rules), step o rules.one One (from_two rules), step o rules.two Two (from_few rules), step o rules.few Few (from_many rules), last o rules.many Many) refl

-- ---- the first of a list

-- before the others stands one that does not hold
behind : (o : Operands) (pair : Conditioned) (rest : List Conditioned) (category : PluralCategory) → condition_holds o pair.1 ≡ false
    → IsCategory o rest category → IsCategory o (pair ∷ rest) category
behind o pair rest category fails (inl first) =
    inl (pair ∷ first.0, first.1, first.2, ap (λ tail. pair ∷ tail) first.3, or_from (condition_holds o pair.1) _ fails first.4, first.5)
behind o pair rest category fails (inr none) = inr (or_from (condition_holds o pair.1) _ fails none.0, none.1)

first_is : (o : Operands) (list : List Conditioned) → IsCategory o list (first_of o list)
first_is o [] = inr (refl, refl)
first_is o (pair ∷ rest) =
    cond_both (condition_holds o pair.1) pair.0 (first_of o rest) (IsCategory o (pair ∷ rest))
    (λ holds. inl ([], rest, pair.1, refl, refl, holds))
    (λ fails. behind o pair rest (first_of o rest) fails (first_is o rest))

first_after : (o : Operands) (before after : List Conditioned) (category : PluralCategory) (condition : ConditionData) → NoneHolds o before → condition_holds o condition ≡ true
    → first_of o (before ++ (category, condition) ∷ after) ≡ category
first_after o [] after category condition none holds = ap (λ b. cond b category (first_of o after)) holds
first_after o (pair ∷ before) after category condition none holds =
    let each = or_parts (condition_holds o pair.1) _ none in
    ap (λ b. cond b pair.0 (first_of o (before ++ (category, condition) ∷ after))) each.0 ∙ first_after o before after category condition each.1 holds

none_first : (o : Operands) (list : List Conditioned) → NoneHolds o list → first_of o list ≡ Other
none_first o [] none = refl
none_first o (pair ∷ rest) none =
    let each = or_parts (condition_holds o pair.1) _ none in
    ap (λ b. cond b pair.0 (first_of o rest)) each.0 ∙ none_first o rest each.1

only_first : (o : Operands) (list : List Conditioned) (category : PluralCategory) → IsCategory o list category → first_of o list ≡ category
only_first o list category (inl first) = ap (λ all. first_of o all) first.3 ∙ first_after o first.0 first.1 category first.2 first.4 first.5
only_first o list category (inr none) = none_first o list none.0 ∙ sym none.1

-- ---- laws

pub one_category : (rules : Rules) (o : Operands) (category : PluralCategory) → IsCategory o (listed rules) category → category_of rules o ≡ category
one_category rules o category is = sym (category_first rules o) ∙ only_first o (listed rules) category is

pub is_category : (rules : Rules) (o : Operands) (category : PluralCategory) → category_of rules o ≡ category → IsCategory o (listed rules) category
is_category rules o category same = subst (IsCategory o (listed rules)) (category_first rules o ∙ same) (first_is o (listed rules))

pub other_of_none : (rules : Rules) (o : Operands) → NoneHolds o (listed rules) → category_of rules o ≡ Other
other_of_none rules o none = sym (category_first rules o) ∙ none_first o (listed rules) none

among_names : (o : Operands) (list : List Conditioned) → Contains (names list) (first_of o list)
among_names o [] = (0, omega arith, refl)
among_names o (pair ∷ rest) =
    cond_both (condition_holds o pair.1) pair.0 (first_of o rest) (Contains (names (pair ∷ rest)))
    (λ holds. (0, omega arith, refl))
    (λ fails. Contains-append_right (pair.0 ∷ []) (names rest) (first_of o rest) (among_names o rest))

pub one_of_them : (rules : Rules) (o : Operands) → Contains (categories_of rules) (category_of rules o)
one_of_them rules o = subst (Contains (categories_of rules)) (category_first rules o) (among_names o (listed rules))
