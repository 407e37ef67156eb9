-- Laws of categories: which one a number has, which there are, and which a range may have.
-- Defined in docs/plurals.md, "Laws".
-- Cited by the functions of the module `laws`.
use Rattle.std.specs.Prelude.{◌≡◌, ◌↔◌, ◌⊎◌, ℕ, Bool, true, false, cond, List, [], ◌∷◌, ◌++◌, All, Contains, ◌+◌, is_some}
use Rattle.std.specs.List.{list_any}
use Rattle.fixed_decimal.specs.Number.{Number}
use Rattle.icu_decimal_plurals.specs.declared.category.PluralCategory.{PluralCategory}
use Rattle.icu_decimal_plurals.specs.declared.category.PluralCategory.TheVariants.{Zero, One, Two, Few, Many, Other}
use Rattle.icu_decimal_plurals.specs.Conditions.{ConditionData, condition_holds}
use Rattle.icu_decimal_plurals.specs.Operands.{Operands, operands_of}
use Rattle.icu_decimal_plurals.specs.Reading.{is_same}
use Rattle.icu_decimal_plurals.specs.Rules.{Rules, category_of}
use Rattle.icu_plurals.specs.declared.ranges.PluralRange.{PluralRange}
use Rattle.icu_decimal_plurals.specs.ListedRules.{Conditioned, listed, categories_of}
use Rattle.icu_plurals.specs.Ranges.{range_category}

-- ---- the category of a number

-- none of these conditions holds
abbrev pub NoneHolds : Operands → List Conditioned → Type 0
NoneHolds o list = list_any (λ pair. condition_holds o pair.1) list ≡ false

-- the condition of the category holds, and none that is tried before it
abbrev pub IsFirst : Operands → List Conditioned → PluralCategory → Type 0
IsFirst o list category =
    (before after : List Conditioned) × (condition : ConditionData)
    × (list ≡ before ++ (category, condition) ∷ after) × NoneHolds o before × (condition_holds o condition ≡ true)

-- the category of the first condition that holds, or `other` where none does
abbrev pub IsCategory : Operands → List Conditioned → PluralCategory → Type 0
IsCategory o list category = IsFirst o list category ⊎ (NoneHolds o list × (category ≡ Other))

-- a number has this one category
abbrev pub CategoryIsFirst : Type 0
CategoryIsFirst = (rules : Rules) (o : Operands) (category : PluralCategory) → IsCategory o (listed rules) category ↔ (category_of rules o ≡ category)

abbrev pub OtherWhereNoneHolds : Type 0
OtherWhereNoneHolds = (rules : Rules) (o : Operands) → NoneHolds o (listed rules) → category_of rules o ≡ Other

-- numbers with exponents whose operands are equal have one category
abbrev pub EqualOperandsOneCategory : Type 0
EqualOperandsOneCategory = (rules : Rules) (a b : Number) (c d : ℕ) → operands_of a c ≡ operands_of b d → category_of rules (operands_of a c) ≡ category_of rules (operands_of b d)

-- zeros in front change no category
abbrev pub ZerosInFront : Type 0
ZerosInFront = (rules : Rules) (a b : Number) (c : ℕ) → a.count ≡ b.count → a.low ≡ b.low → category_of rules (operands_of a c) ≡ category_of rules (operands_of b c)

-- ---- the categories that there are

-- a category has a condition, or is `other`
abbrev pub is_had : Rules → PluralCategory → Bool
is_had rules Zero = is_some rules.zero
is_had rules One = is_some rules.one
is_had rules Two = is_some rules.two
is_had rules Few = is_some rules.few
is_had rules Many = is_some rules.many
is_had rules Other = true

-- how often a category is in a list
abbrev pub times : PluralCategory → List PluralCategory → ℕ
times category [] = 0
times category (other ∷ rest) = cond (is_same category other) (1 + times category rest) (times category rest)

-- each of these is there once, and no other
abbrev pub CategoriesAreHad : Type 0
CategoriesAreHad = (rules : Rules) (category : PluralCategory) → times category (categories_of rules) ≡ cond (is_had rules category) 1 0

-- the category of a number is one of them
abbrev pub CategoryIsOneOfThem : Type 0
CategoryIsOneOfThem = (rules : Rules) (o : Operands) → Contains (categories_of rules) (category_of rules o)

-- ---- ranges

-- where the results are categories of a language, so is the category of each of its ranges
abbrev pub RangeIsOneOfThem : Type 0
RangeIsOneOfThem = (categories : List PluralCategory) (ranges : List PluralRange) (start end : PluralCategory)
    → All (λ (range : PluralRange). Contains categories range.result) ranges → Contains categories end → Contains categories (range_category ranges start end)
