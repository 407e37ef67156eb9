-- Conditions as data, and for which numbers they hold.
-- UTS 35, part 3 (numbers), section 5.1 (plural rules syntax); docs/plurals.md, "Conditions".
-- Cited by `holds` of conditions and their parts, and by `PluralRules`.
use Rattle.std.specs.Prelude.{ℕ, Bool, false, not, cond, ◌&&◌, ◌==◌, ◌%◌, nat_le, List, Option, None, Some}
use Rattle.std.specs.List.{list_any, list_all}
use Rattle.icu_decimal_plurals.specs.declared.interval.Interval.{Interval}
use Rattle.icu_decimal_plurals.specs.declared.operand.Operand.{Operand}
use Rattle.icu_decimal_plurals.specs.Operands.{Operands}

-- an operand, what divides it, whether the sign is `!=`, and the numbers asked for
pub record RelationData : Type 0 where
  pub operand : Operand
  pub modulus : Option ℕ
  pub is_denied : Bool
  pub intervals : List Interval

-- alternatives, each of them relations that hold together
abbrev pub ConditionData : Type 0
ConditionData = List (List RelationData)

-- the whole number that an operand is; `n` is none where a fraction digit is not zero
abbrev pub value_of : Operand → Operands → Option ℕ
value_of Operand.N o = cond (o.t == 0) (Some o.i) None
value_of Operand.I o = Some o.i
value_of Operand.V o = Some o.v
value_of Operand.W o = Some o.w
value_of Operand.F o = Some o.f
value_of Operand.T o = Some o.t
value_of Operand.C o = Some o.c

abbrev pub is_in : ℕ → Interval → Bool
is_in x interval = nat_le interval.low x && nat_le x interval.high

-- what a division leaves, or the number where nothing divides it; a division by 0 leaves the number
abbrev pub left_by : Option ℕ → ℕ → ℕ
left_by None x = x
left_by (Some m) x = cond (m == 0) x (x % m)

-- the number is one of those asked for
abbrev pub lists : List Interval → ℕ → Bool
lists intervals x = list_any (λ interval. is_in x interval) intervals

-- the operand is a whole number, and what is left of it is one of those asked for
abbrev pub has_value : RelationData → Option ℕ → Bool
has_value r None = false
has_value r (Some x) = lists r.intervals (left_by r.modulus x)

abbrev pub relation_holds : Operands → RelationData → Bool
relation_holds o r = let has = has_value r (value_of r.operand o) in cond r.is_denied (not has) has

abbrev pub all_hold : Operands → List RelationData → Bool
all_hold o relations = list_all (λ r. relation_holds o r) relations

abbrev pub condition_holds : Operands → ConditionData → Bool
condition_holds o condition = list_any (λ relations. all_hold o relations) condition
