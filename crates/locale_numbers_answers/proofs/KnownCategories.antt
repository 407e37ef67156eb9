-- Known values of categories: rows of docs/plurals.md and docs/requests.md, and the order of what is refused.
use Rattle.std.proofs.Common.{◌≡◌, ℕ, List, [], ◌∷◌, ◌++◌, codes, ◌^◌, option_map, Option, Some, None, Result, Ok, Err, refl, ap}
use Rattle.fixed_decimal.specs.Number.{Number}
use Rattle.fixed_decimal.specs.SignedValue.{SignedValue}
use Rattle.fixed_decimal.specs.declared.Sign.TheVariants.{None as NoSign, Negative}
use Rattle.icu_decimal.specs.Operands.{Operands}
use Rattle.icu_decimal.specs.declared.error.DataError.{DataError}
use Rattle.icu_plurals.specs.Reading.{rules_of}
use Rattle.icu_plurals.specs.Rules.{Rules, category_of}
use Rattle.icu_plurals.specs.declared.PluralCategory.{PluralCategory}
use Rattle.icu_plurals.specs.declared.PluralCategory.TheVariants.{One, Two, Few, Many, Other}
use Rattle.icu_plurals.specs.declared.PluralRange.{PluralRange}
use Rattle.icu_plurals.specs.declared.PluralRuleType.{PluralRuleType}
use Rattle.icu_plurals.specs.declared.PluralRuleType.TheVariants.{Cardinal, Ordinal}
use Rattle.locale_numbers_formats.specs.declared.NumberFormat.{NumberFormat}
use Rattle.locale_numbers_formatter.specs.FormatText.{FormatTables, compact_tables, plain_tables}
use Rattle.locale_numbers_formatter.proofs.KnownOperands.{million_seen, seen, short, tie_seen, whole}
use Rattle.locale_numbers_answers.specs.Answers.{answer_by}
use Rattle.locale_numbers_answers.specs.CategoryAnswer.{answered_category, category_answer, range_category_answer}
use Rattle.locale_numbers_requests.specs.Request.{tab}
use Rattle.locale_numbers_requests.specs.declared.Task.TheVariants as task

-- ---- by rules of CLDR

abbrev english_one : List (PluralCategory × List ℕ)
english_one = (One, codes "i = 1 and v = 0") ∷ []

abbrev english_ordinal : List (PluralCategory × List ℕ)
english_ordinal = (One, codes "n % 10 = 1 and n % 100 != 11") ∷ (Two, codes "n % 10 = 2 and n % 100 != 12") ∷ (Few, codes "n % 10 = 3 and n % 100 != 13") ∷ []

abbrev french : List (PluralCategory × List ℕ)
french = (One, codes "i = 0,1") ∷ (Many, codes "e = 0 and i != 0 and i % 1000000 = 0 and v = 0 or e != 0..5") ∷ []

abbrev answered : List (PluralCategory × List ℕ) → FormatTables → SignedValue Number → Option (List ℕ)
answered given f d = option_map (λ rules. category_answer f rules d) (rules_of given)

-- the answer for what is seen
abbrev seen_answer : List (PluralCategory × List ℕ) → Option Operands → Option (List ℕ)
seen_answer given seen = option_map (λ rules. answered_category (option_map (category_of rules) seen)) (rules_of given)

-- 1, 1.0 and -1
one_one : answered english_one (plain_tables short.plain) (whole 1 1) ≡ Some (codes "ok" ++ tab ∷ codes "one")
one_one = refl

one_tenths : answered english_one (plain_tables short.plain) (record { sign = NoSign; absolute = record { count = 10 ^ 32768; low = 32767; high = 32768 } }) ≡ Some (codes "ok" ++ tab ∷ codes "other")
one_tenths = refl

one_minus : answered english_one (plain_tables short.plain) (record { sign = Negative; absolute = record { count = 10 ^ 32768; low = 32768; high = 32768 } }) ≡ Some (codes "ok" ++ tab ∷ codes "one")
one_minus = refl

twenty_second : answered english_ordinal (plain_tables short.plain) (whole 22 2) ≡ Some (codes "ok" ++ tab ∷ codes "two")
twenty_second = refl

-- a million in short form has the exponent 6, and 1650 the exponent 3
french_million : answered french (compact_tables short) (whole 1000000 7) ≡ Some (codes "ok" ++ tab ∷ codes "many")
french_million = ap (seen_answer french) million_seen

french_thousands : answered french (compact_tables short) (whole 1650 4) ≡ Some (codes "ok" ++ tab ∷ codes "other")
french_thousands = ap (seen_answer french) tie_seen

-- ---- ranges

-- 0 to 1 in English
abbrev to_one : List PluralRange
to_one = record { start = Other; end = One; result = Other } ∷ []

english_range : option_map (λ rules. range_category_answer (plain_tables short.plain) rules to_one (whole 0 1) (whole 1 1)) (rules_of english_one) ≡ Some (codes "ok" ++ tab ∷ codes "other")
english_range = refl

unlisted_range : option_map (λ rules. range_category_answer (plain_tables short.plain) rules [] (whole 0 1) (whole 1 1)) (rules_of english_one) ≡ Some (codes "ok" ++ tab ∷ codes "one")
unlisted_range = refl

-- ---- refused

module _ (format : NumberFormat) (second : FormatTables → Option FormatTables) (rules : PluralRuleType → Option (Rules × List PluralRange)) where
  no_number : (found : Result FormatTables DataError) → answer_by (task.Category Ordinal) format found second rules (codes "1e") ≡ codes "err" ++ tab ∷ codes "number"
  no_number found = refl

  no_range : (found : Result FormatTables DataError) → answer_by task.RangeCategory format found second rules (codes "1.5") ≡ codes "err" ++ tab ∷ codes "number"
  no_range found = refl

  -- the first end before the second
  first_refused : (found : Result FormatTables DataError) → answer_by task.RangeCategory format found second rules (codes "10e32767..x") ≡ codes "err" ++ tab ∷ codes "limit"
  first_refused found = refl

  second_refused : (found : Result FormatTables DataError) → answer_by task.RangeCategory format found second rules (codes "1..x") ≡ codes "err" ++ tab ∷ codes "number"
  second_refused found = refl

  no_table : answer_by (task.Category Cardinal) format (Err DataError.IdentifierNotFound) second rules (codes "5") ≡ codes "err" ++ tab ∷ codes "table"
  no_table = refl

  no_range_table : answer_by task.RangeCategory format (Err DataError.IdentifierNotFound) second rules (codes "1..5") ≡ codes "err" ++ tab ∷ codes "table"
  no_range_table = refl

-- rules are asked for by their type
no_rules : (format : NumberFormat) (f : FormatTables) (second : FormatTables → Option FormatTables) → answer_by (task.Category Ordinal) format (Ok f) second (λ rule_type. None) (codes "5") ≡ codes "err" ++ tab ∷ codes "table"
no_rules format f second = refl
