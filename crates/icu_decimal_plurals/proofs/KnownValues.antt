-- Values from outside that a wrong definition does not survive: the examples of UTS 35, rules of CLDR and the tables of docs/plurals.md.
use Rattle.std.proofs.Common.{◌≡◌, ℕ, ◌*◌, ◌^◌, false, List, [], ◌∷◌, Option, None, Some, refl, codes, option_map}
use Rattle.icu_decimal_plurals.specs.declared.category.PluralCategory.{PluralCategory}
use Rattle.icu_decimal_plurals.specs.declared.category.PluralCategory.TheVariants.{Zero, One, Few, Many, Other}
use Rattle.icu_decimal_plurals.specs.declared.operand.Operand.TheVariants as operand
use Rattle.icu_decimal_plurals.specs.declared.token.Token.TheVariants as token
use Rattle.icu_decimal_plurals.specs.Operands.{Operands, operands_of, operands_shown, operands_with}
use Rattle.icu_decimal_plurals.specs.Reading.{condition_in, rules_of}
use Rattle.icu_decimal_plurals.specs.Rules.{category_of}
use Rattle.icu_decimal_plurals.specs.Tokens.{tokens_of}

abbrev seen : ℕ → ℕ → ℕ → ℕ → ℕ → ℕ → Operands
seen i v f t w c = record { i = i; v = v; f = f; t = t; w = w; c = c }

-- ---- operands: the examples of UTS 35, over places of which the ones are the third

one_point_three_zero : operands_with 3 1300 2 0 ≡ seen 1 2 30 3 1 0
one_point_three_zero = refl

one_point_zero_three : operands_with 3 1030 2 0 ≡ seen 1 2 3 3 2 0
one_point_zero_three = refl

one_point_zero : operands_with 3 1000 1 0 ≡ seen 1 1 0 0 0 0
one_point_zero = refl

fraction_given : operands_shown 1 2 50 0 ≡ seen 1 2 50 5 1 0
fraction_given = refl

zero_and_five_given : operands_shown 1 2 5 0 ≡ seen 1 2 5 5 2 0
zero_and_five_given = refl

-- 1.2 with the exponent 6, and 1.20050 with 3
compact_number : operands_of (record { count = 12 * 10 ^ 32767; low = 32767; high = 32768 }) 6 ≡ seen 1200000 0 0 0 0 6
compact_number = refl

compact_fraction : operands_of (record { count = 120050 * 10 ^ 32763; low = 32763; high = 32768 }) 3 ≡ seen 1200 2 50 5 1 3
compact_fraction = refl

-- ---- tokens

without_blanks : tokens_of (codes "i=1and n%10!=2..4,6")
    ≡ Some (token.Name operand.I ∷ token.Equals ∷ token.Whole 1 ∷ token.And ∷ token.Name operand.N ∷ token.Percent ∷ token.Whole 10 ∷ token.NotEquals
    ∷ token.Whole 2 ∷ token.Dots ∷ token.Whole 4 ∷ token.Comma ∷ token.Whole 6 ∷ [])
without_blanks = refl

one_word : tokens_of (codes "i = 1 andv = 0") ≡ None
one_word = refl

nineteen_digits : tokens_of (codes "0000000000000000001") ≡ None
nineteen_digits = refl

-- ---- conditions

nothing : condition_in [] ≡ None
nothing = refl

samples_alone : condition_in (codes " @integer 1") ≡ None
samples_alone = refl

old_word : condition_in (codes "i is 1") ≡ None
old_word = refl

falling : condition_in (codes "i = 3..2") ≡ None
falling = refl

divided_by_zero : condition_in (codes "i % 000 = 1") ≡ None
divided_by_zero = refl

english : condition_in (codes "i = 1 and v = 0 @integer 1")
    ≡ Some
    ((record { operand = operand.I; modulus = None; is_denied = false; intervals = record { low = 1; high = 1 } ∷ [] }
    ∷ record { operand = operand.V; modulus = None; is_denied = false; intervals = record { low = 0; high = 0 } ∷ [] } ∷ []) ∷ [])
english = refl

-- ---- categories

abbrev category_by : List (PluralCategory × List ℕ) → Operands → Option PluralCategory
category_by given o = option_map (λ rules. category_of rules o) (rules_of given)

abbrev arabic : List (PluralCategory × List ℕ)
arabic = (Zero, codes "n = 0") ∷ (One, codes "n = 1") ∷ (Few, codes "n % 100 = 3..10") ∷ (Many, codes "n % 100 = 11..99") ∷ (Other, codes " @integer 100") ∷ []

one_in_arabic : category_by arabic (seen 1 1 0 0 0 0) ≡ Some One
one_in_arabic = refl

one_and_a_half_in_arabic : category_by arabic (seen 1 1 5 5 1 0) ≡ Some Other
one_and_a_half_in_arabic = refl

few_in_arabic : category_by arabic (seen 103 0 0 0 0 0) ≡ Some Few
few_in_arabic = refl

first_category : category_by ((Few, codes "i = 1") ∷ (One, codes "i = 1") ∷ []) (seen 1 0 0 0 0 0) ≡ Some One
first_category = refl

twice : rules_of ((One, codes "i = 1") ∷ (One, codes "i = 2") ∷ []) ≡ None
twice = refl

other_with_a_condition : rules_of ((Other, codes "i = 1") ∷ []) ≡ None
other_with_a_condition = refl
