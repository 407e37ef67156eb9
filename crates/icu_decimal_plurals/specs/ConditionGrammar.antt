-- Which tokens are a condition, and which condition they are: alternatives cut at `or`, relations at `and`, intervals at commas.
-- UTS 35, part 3 (numbers), section 5.1 (plural rules syntax); docs/plurals.md, "Conditions".
-- Cited by `PluralRules::new`, through Reading.antt, and by the private readers of conditions.
use Rattle.std.specs.Prelude.{◌==◌, ℕ, Bool, true, false, cond, nat_le, List, [], ◌∷◌, Option, None, Some, option_map, option_and_then}
use Rattle.std.specs.List.{slice_split}
use Rattle.icu_decimal_plurals.specs.declared.interval.Interval.{Interval}
use Rattle.icu_decimal_plurals.specs.declared.operand.Operand.{Operand}
use Rattle.icu_decimal_plurals.specs.declared.separator.Separator.{Separator}
use Rattle.icu_decimal_plurals.specs.declared.separator.Separator.TheVariants as separator
use Rattle.icu_decimal_plurals.specs.declared.token.Token.{Token}
use Rattle.icu_decimal_plurals.specs.declared.token.Token.TheVariants.{And, Or, Name, Whole, Percent, Equals, NotEquals, Comma, Dots}
use Rattle.icu_decimal_plurals.specs.Conditions.{RelationData, ConditionData}

-- the token separates the parts of this kind
abbrev pub separates : Separator → Token → Bool
separates separator.Or Or = true
separates separator.And And = true
separates separator.Comma Comma = true
separates _ _ = false

-- what all parts are, where each is something
abbrev pub each_read : {A B : Type 0} → (A → Option B) → List A → Option (List B)
each_read read [] = Some []
each_read read (part ∷ rest) = option_and_then (λ first. option_map (λ others. first ∷ others) (each_read read rest)) (read part)

-- a number, or two numbers of which the first is not the greater one
abbrev pub interval_of : List Token → Option Interval
interval_of (Whole a ∷ []) = Some (record { low = a; high = a })
interval_of (Whole a ∷ Dots ∷ Whole b ∷ []) = cond (nat_le a b) (Some (record { low = a; high = b })) None
interval_of _ = None

abbrev pub intervals_of : List Token → Option (List Interval)
intervals_of tokens = each_read interval_of (slice_split (separates separator.Comma) tokens)

-- the relation of these parts, where the last ones are intervals
abbrev pub relation_with : Operand → Option ℕ → Bool → List Token → Option RelationData
relation_with operand modulus is_denied tokens =
    option_map (λ intervals. record { operand = operand; modulus = modulus; is_denied = is_denied; intervals = intervals }) (intervals_of tokens)

-- the same with a division by a number above 0
abbrev pub divided_with : Operand → ℕ → Bool → List Token → Option RelationData
divided_with operand modulus is_denied tokens = cond (modulus == 0) None (relation_with operand (Some modulus) is_denied tokens)

abbrev pub relation_of : List Token → Option RelationData
relation_of (Name operand ∷ Equals ∷ rest) = relation_with operand None false rest
relation_of (Name operand ∷ NotEquals ∷ rest) = relation_with operand None true rest
relation_of (Name operand ∷ Percent ∷ Whole modulus ∷ Equals ∷ rest) = divided_with operand modulus false rest
relation_of (Name operand ∷ Percent ∷ Whole modulus ∷ NotEquals ∷ rest) = divided_with operand modulus true rest
relation_of _ = None

abbrev pub relations_of : List Token → Option (List RelationData)
relations_of tokens = each_read relation_of (slice_split (separates separator.And) tokens)

abbrev pub condition_of : List Token → Option ConditionData
condition_of tokens = each_read relations_of (slice_split (separates separator.Or) tokens)
